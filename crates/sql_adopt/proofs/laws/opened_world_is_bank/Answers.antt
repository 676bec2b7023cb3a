use Rattle.sqlite.specs.Held.{state}
use Rattle.sql_adopt.proofs.FileLemmas.{older_bank_is_file}
use Rattle.sql_adopt.proofs.OpenedLemmas.{opened_bank, opened_in}
use Rattle.sql_adopt.proofs.laws.opened_world_is_bank.Goals as goal

pub returns-clause-bank : goal.returns-clause-bank
returns-clause-bank g c w opens left = opened_bank (state g.S.Store c.args.conn.now) w opens c.schema-schema.ensures.live left

pub returns-clause-held : goal.returns-clause-held
returns-clause-held g c e w opens left = opened_in e (state g.S.Store c.args.conn.now) w opens c.schema-schema.ensures.live left

pub returns-clause-older : goal.returns-clause-older
returns-clause-older g c e w older opens left =
    let s = state g.S.Store c.args.conn.now in
    older_bank_is_file e s w older (opened_in e s w opens c.schema-schema.ensures.live left)

pub returns-clause-sound : goal.returns-clause-sound
returns-clause-sound g c e w opens left books policy readable =
    record { world = w; held = (opened_in e (state g.S.Store c.args.conn.now) w opens c.schema-schema.ensures.live left).now; readable = readable; books = books; policy = policy }

use Rattle.std.proofs.Common.{◌≡◌, IsTrue, rules}
use Rattle.sqlite.specs.Held.{state}
use Rattle.sql_schema.proofs.StepLemmas.{handed_on}
use Rattle.sql_adopt.specs.Refused.{IsNamedBy, IsOfStore, IsRefusedIn}
use Rattle.sql_adopt.proofs.TakenLemmas.{handed_other}
use Rattle.sql_upgrade.proofs.CarryLemmas.{carried_over, carries, survives_more}
use Rattle.sql_schema.proofs.StepLemmas.{early, survived}
use Rattle.sql_adopt.proofs.LeftLemmas.{left_with}
use Rattle.sql_upgrade.proofs.upgrading.upgrade_bank.Goals as goal

pub returns-in-Ok-clause-carries : goal.returns-in-Ok-clause-carries
returns-in-Ok-clause-carries g c clean e file =
    let old = state g.S.Store c.args.conn.now in
    let mid = state g.S.Store c.read_older_bank.new.conn in
    let new = state g.S.Store c.carry_bank.new.conn in
    carries c.in_ok-older.older.edition old mid new c.in_ok-older.older.bank.world c.read_older_bank.ensures.survives c.in_ok-older.ensures.found c.in_ok-older.ensures.left c.carry_bank.ensures.crash clean e file
    (c.in-Ok.ensures.made clean)
    (λ trees may. g.met.S.Store.settled c.carry_bank.new.conn.store trees (c.in-Ok.ensures.open clean) may)

pub returns-in_err-older-clause-refused : goal.returns-in_err-older-clause-refused
returns-in_err-older-clause-refused g c clean e file =
    handed_on c.from_residual.result c.in_err-older.field-0.0 (IsRefusedIn e (state g.S.Store c.args.conn.now).now.trees) c.from_residual.ensures.1 (c.in_err-older.ensures.refused clean e file)

pub returns-in_err-older-clause-sound : goal.returns-in_err-older-clause-sound
returns-in_err-older-clause-sound g c clean e file bank =
    handed_on c.from_residual.result c.in_err-older.field-0.0 IsOfStore c.from_residual.ensures.1 (c.in_err-older.ensures.sound clean e file bank)

pub returns-in_err-older-clause-named : goal.returns-in_err-older-clause-named
returns-in_err-older-clause-named g c clean e file s holds readable =
    handed_on c.from_residual.result c.in_err-older.field-0.0 (IsNamedBy s) c.from_residual.ensures.1 (c.in_err-older.ensures.named clean e file s holds readable)

pub returns-in_err-older-clause-other : goal.returns-in_err-older-clause-other
returns-in_err-older-clause-other g c clean other =
    handed_other c.from_residual.result c.in_err-older.field-0.0 c.from_residual.ensures.1 (c.in_err-older.ensures.other clean other)

pub returns-clause-unchanged : goal.returns-clause-unchanged
returns-clause-unchanged g c clean is file =
    let old = state g.S.Store c.args.conn.now in
    let mid = state g.S.Store c.read_older_bank.new.conn in
    let new = state g.S.Store c.carry_bank.new.conn in
    let was_clean = early mid new _ c.carry_bank.ensures.crash clean in
    let was_open : IsTrue old.is_open = c.in_ok-older.ensures.open was_clean in
    let trees : IsTrue new.is_open → new.committed.trees ≡ old.committed.trees =
    λ is_open. g.met.S.Store.settled c.args.conn.now.store new.committed.trees was_open (survived old mid c.read_older_bank.ensures.survives was_clean new.committed.trees (c.in-Err.ensures.unmade clean is_open))
    in
    let idle : IsTrue c.is_autocommit-idle.result = search rules in
    left_with is old new file (λ _. was_open) (c.is_autocommit-idle.ensures.settled idle) trees c.schema-schema.ensures.live c.schema-left.ensures.live

pub returns-in_err-older-clause-crash : goal.returns-in_err-older-clause-crash
returns-in_err-older-clause-crash g c = survives_more (state g.S.Store c.args.conn.now) (state g.S.Store c.read_older_bank.new.conn) _ c.read_older_bank.ensures.survives

pub returns-in-Ok-clause-crash : goal.returns-in-Ok-clause-crash
returns-in-Ok-clause-crash g c =
    carried_over c.in_ok-older.older.edition (state g.S.Store c.args.conn.now) (state g.S.Store c.read_older_bank.new.conn) (state g.S.Store c.carry_bank.new.conn) c.in_ok-older.older.bank.world c.read_older_bank.ensures.survives c.in_ok-older.ensures.found c.in_ok-older.ensures.left c.carry_bank.ensures.crash

pub returns-clause-crash : goal.returns-clause-crash
returns-clause-crash g c =
    carried_over c.in_ok-older.older.edition (state g.S.Store c.args.conn.now) (state g.S.Store c.read_older_bank.new.conn) (state g.S.Store c.carry_bank.new.conn) c.in_ok-older.older.bank.world c.read_older_bank.ensures.survives c.in_ok-older.ensures.found c.in_ok-older.ensures.left c.carry_bank.ensures.crash

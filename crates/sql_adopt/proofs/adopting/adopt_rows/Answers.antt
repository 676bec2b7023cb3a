use Rattle.sqlite.specs.Held.{state}
use Rattle.sql_schema.specs.Schema.{newest}
use Rattle.sql_schema.proofs.StepLemmas.{survived}
use Rattle.sql_adopt.proofs.AdoptLemmas.{adopted_if}
use Rattle.sql_adopt.proofs.adopting.adopt_rows.Goals as goal

pub returns-clause-adopts : goal.returns-clause-adopts
returns-clause-adopts g c clean file =
    let old = state g.S.Store c.args.conn.now in
    let new = state g.S.Store c.read_bank.new.conn in
    adopted_if old new c.read_bank.result file (c.read_bank.ensures.found clean file) (c.read_bank.ensures.left clean newest file) (c.read_bank.ensures.open clean)
    (λ is_open trees may. g.met.S.Store.settled c.args.conn.now.store trees is_open (survived old new c.read_bank.ensures.survives clean trees may))

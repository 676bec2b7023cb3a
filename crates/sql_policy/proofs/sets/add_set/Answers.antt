use Rattle.std.proofs.Common.{Ok}
use Rattle.sqlite.specs.Held.{state}
use Rattle.keyed_rows.specs.Ordered.{add_row}
use Rattle.sql_schema.specs.Held.{set_no}
use Rattle.sql_schema.proofs.StepChains.{stepped}
use Rattle.sql_schema.proofs.StepLemmas.{write_steps}
use Rattle.sql_policy.specs.Texts.{add_set_text}
use Rattle.sql_policy.proofs.SetLemmas.{adds_set}
use Rattle.sql_policy.proofs.sets.add_set.Goals as goal

pub returns-clause-step : goal.returns-clause-step
returns-clause-step g c =
    let old = state g.S.Store c.args.tx.now.conn.now in
    let new = state g.S.Store c.insert_set.new.tx.conn.now in
    stepped c.insert_set.ensures.frame (λ clean inside s holds.
    write_steps add_set_text _ old new (Ok c.in_ok-insert_set.field-0) (record s { sets = add_row set_no c.args.set s.sets }) (c.in_ok-insert_set.ensures.runs clean inside)
    (λ count h. (adds_set old new s c.args.set count holds h).0))

pub returns-clause-free : goal.returns-clause-free
returns-clause-free g c clean inside s holds =
    let old = state g.S.Store c.args.tx.now.conn.now in
    let new = state g.S.Store c.insert_set.new.tx.conn.now in
    (adds_set old new s c.args.set c.in_ok-insert_set.field-0 holds (c.in_ok-insert_set.ensures.runs clean inside).0).1

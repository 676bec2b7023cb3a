use Rattle.std.proofs.Common.{Ok, subst}
use Rattle.sqlite.specs.Held.{state}
use Rattle.sqlite.specs.State.{Executes}
use Rattle.keyed_rows.specs.Ordered.{add_row}
use Rattle.bank_policy.specs.PolicyKeys.{triple_key}
use Rattle.sql_schema.proofs.StepChains.{stepped}
use Rattle.sql_schema.proofs.StepLemmas.{write_steps}
use Rattle.sql_policy.specs.Texts.{add_triple_text}
use Rattle.sql_policy.proofs.TripleLemmas.{adds_triple}
use Rattle.sql_policy.proofs.triples.add_triple.Goals as goal

pub returns-clause-step : goal.returns-clause-step
returns-clause-step g c =
    let old = state g.S.Store c.args.tx.now.conn.now in
    let new = state g.S.Store c.insert_triple.new.tx.conn.now in
    stepped c.insert_triple.ensures.frame (λ clean inside s holds.
    write_steps add_triple_text _ old new (Ok c.in_ok-insert_triple.field-0) (record s { triples = add_row triple_key c.args.triple.now s.triples }) (c.in_ok-insert_triple.ensures.runs clean inside)
    (λ count h. (adds_triple old new s c.args.triple.now count c.in_ok-cells.ensures.fits holds (subst (λ ps. Executes add_triple_text ps old new (Ok count)) c.in_ok-cells.ensures.cells h)).0))

pub returns-clause-free : goal.returns-clause-free
returns-clause-free g c clean inside s holds =
    let old = state g.S.Store c.args.tx.now.conn.now in
    let new = state g.S.Store c.insert_triple.new.tx.conn.now in
    (adds_triple old new s c.args.triple.now c.in_ok-insert_triple.field-0 c.in_ok-cells.ensures.fits holds (subst (λ ps. Executes add_triple_text ps old new (Ok c.in_ok-insert_triple.field-0)) c.in_ok-cells.ensures.cells (c.in_ok-insert_triple.ensures.runs clean inside).0)).1

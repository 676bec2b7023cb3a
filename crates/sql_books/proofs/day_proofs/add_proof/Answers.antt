use Rattle.std.proofs.Common.{Ok, subst}
use Rattle.sqlite.specs.Held.{state}
use Rattle.sqlite.specs.State.{Executes}
use Rattle.book_kept.specs.Changes.{proof_sheets}
use Rattle.sql_schema.proofs.StepChains.{stepped}
use Rattle.sql_schema.proofs.StepLemmas.{write_steps}
use Rattle.sql_books.specs.Texts.{add_proof_text}
use Rattle.sql_books.proofs.ProofLemmas.{adds_proof, fits_by}
use Rattle.sql_books.proofs.day_proofs.add_proof.Goals as goal

pub returns-clause-step : goal.returns-clause-step
returns-clause-step g c =
    let old = state g.S.Store c.args.tx.now.conn.now in
    let new = state g.S.Store c.insert_proof.new.tx.conn.now in
    stepped c.insert_proof.ensures.frame (λ clean inside s holds.
    write_steps add_proof_text _ old new (Ok c.in_ok-insert_proof.field-0) (proof_sheets c.args.proof.now s) (c.in_ok-insert_proof.ensures.runs clean inside)
    (λ count h. (adds_proof old new s c.args.proof.now count (fits_by _ c.args.proof.now c.cells_of-cells.ensures c.insert_proof.ensures.small) holds (subst (λ ps. Executes add_proof_text ps old new (Ok count)) c.cells_of-cells.ensures h)).0))

pub returns-clause-free : goal.returns-clause-free
returns-clause-free g c clean inside s holds =
    let old = state g.S.Store c.args.tx.now.conn.now in
    let new = state g.S.Store c.insert_proof.new.tx.conn.now in
    (adds_proof old new s c.args.proof.now c.in_ok-insert_proof.field-0 (fits_by _ c.args.proof.now c.cells_of-cells.ensures c.insert_proof.ensures.small) holds (subst (λ ps. Executes add_proof_text ps old new (Ok c.in_ok-insert_proof.field-0)) c.cells_of-cells.ensures (c.in_ok-insert_proof.ensures.runs clean inside).0)).1

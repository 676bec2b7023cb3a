use Rattle.std.proofs.Common.{Ok, subst}
use Rattle.sqlite.specs.Held.{state}
use Rattle.sqlite.specs.State.{Executes}
use Rattle.keyed_rows.specs.Ordered.{add_row}
use Rattle.book_kept.specs.Sheets.{branch_no}
use Rattle.sql_schema.proofs.StepChains.{stepped}
use Rattle.sql_schema.proofs.StepLemmas.{write_steps}
use Rattle.sql_books.specs.Texts.{add_branch_text}
use Rattle.sql_books.proofs.BranchLemmas.{adds_branch}
use Rattle.sql_books.proofs.branches.add_branch.Goals as goal

pub returns-clause-step : goal.returns-clause-step
returns-clause-step g c =
    let old = state g.S.Store c.args.tx.now.conn.now in
    let new = state g.S.Store c.insert_branch.new.tx.conn.now in
    stepped c.insert_branch.ensures.frame (λ clean inside s holds.
    write_steps add_branch_text _ old new (Ok c.in_ok-insert_branch.field-0) (record s { branches = add_row branch_no c.args.branch.now s.branches }) (c.in_ok-insert_branch.ensures.runs clean inside)
    (λ count h. (adds_branch old new s c.args.branch.now count holds (subst (λ ps. Executes add_branch_text ps old new (Ok count)) c.in_ok-cells.ensures h)).0))

pub returns-clause-free : goal.returns-clause-free
returns-clause-free g c clean inside s holds =
    let old = state g.S.Store c.args.tx.now.conn.now in
    let new = state g.S.Store c.insert_branch.new.tx.conn.now in
    (adds_branch old new s c.args.branch.now c.in_ok-insert_branch.field-0 holds (subst (λ ps. Executes add_branch_text ps old new (Ok c.in_ok-insert_branch.field-0)) c.in_ok-cells.ensures (c.in_ok-insert_branch.ensures.runs clean inside).0)).1

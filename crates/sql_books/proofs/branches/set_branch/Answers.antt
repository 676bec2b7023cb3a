use Rattle.std.proofs.Common.{Ok, subst}
use Rattle.sqlite.specs.Held.{state}
use Rattle.sqlite.specs.State.{Executes}
use Rattle.book_kept.specs.Sheets.{branch_no, set_row}
use Rattle.sql_schema.proofs.StepChains.{stepped}
use Rattle.sql_schema.proofs.StepLemmas.{write_steps}
use Rattle.sql_books.specs.Texts.{set_branch_text}
use Rattle.sql_books.proofs.BranchLemmas.{sets_branch}
use Rattle.sql_books.proofs.branches.set_branch.Goals as goal

pub returns : goal.returns
returns g c =
    let old = state g.S.Store c.args.tx.now.conn.now in
    let new = state g.S.Store c.update_branch.new.tx.conn.now in
    record {
      step = stepped c.update_branch.ensures.frame (λ clean inside s holds.
          write_steps set_branch_text _ old new (Ok c.in_ok-update_branch.field-0) (record s { branches = set_row branch_no c.args.branch.now s.branches }) (c.in_ok-update_branch.ensures.runs clean inside)
          (λ count h. sets_branch old new s c.args.branch.now count holds (subst (λ ps. Executes set_branch_text ps old new (Ok count)) c.in_ok-cells.ensures h)));
    }

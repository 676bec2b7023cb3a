use Rattle.std.proofs.Common.{◌≡◌, List, Contains, map, subst, ap, ◌∙◌}
use Rattle.bank_books.specs.declared.records.BranchRecord.{BranchRecord}
use Rattle.bank_books.specs.Conditions.{IsBranchOfHistory}
use Rattle.book_check.specs.Least.{IsFirstFailing}
use Rattle.bank_books.specs.Records.{branch_record_of}
use Rattle.book_check.proofs.KeptRows.{by_rows}
use Rattle.book_check.proofs.history.first_branch.Goals as goal

pub returns : goal.returns
returns c =
    let w = c.args.world.now in
    let row : BranchRecord → _ = λ x. x.row in
    let judged = by_rows (λ (kept computed : BranchRecord). IsBranchOfHistory kept computed) (λ (kept : BranchRecord). kept.row.branch) row (branch_record_of w) c.branches.result.now c.deref.result.now w.branches c.least_failing.result
    (ap (map row) c.branches.ensures ∙ c.requires.rows.branches) (c.deref.ensures.value ∙ c.requires.computed.branches) c.least_failing.ensures in
    let P : List BranchRecord → Type 0 = λ xs. IsFirstFailing (λ branch. (x : BranchRecord) → Contains xs x → (λ (kept : BranchRecord). kept.row.branch) x ≡ branch → (λ (kept computed : BranchRecord). IsBranchOfHistory kept computed) x (branch_record_of w x.row)) c.least_failing.result in
    subst P c.branches.ensures judged

use Rattle.std.proofs.Common.{◌≡◌, List, Contains, subst, sym, ◌∙◌}
use Rattle.bank_books.specs.declared.records.BranchRecord.{BranchRecord}
use Rattle.bank_books.specs.Conditions.{TellersAgree}
use Rattle.book_check.specs.Least.{IsFirstFailing}
use Rattle.book_check.specs.RowConditions.{IsSumOfParts}
use Rattle.book_check.proofs.CashConditions.{teller_sum_of_parts, whole_teller_sum}
use Rattle.book_check.proofs.FirstFailing.{reworded}
use Rattle.book_check.proofs.KeptRows.{by_themselves}
use Rattle.book_check.proofs.check.first_of_other_tellers.Goals as goal

pub returns : goal.returns
returns c =
    let w = c.args.world.now in
    let kept = c.args.kept.now in
    let parts = c.args.tellers.now in
    let judged = by_themselves (IsSumOfParts parts) (λ b. b.row.branch) c.branches.result.now c.least_failing.result c.least_failing.ensures in
    let P : List BranchRecord → Type 0 = λ xs. IsFirstFailing (λ branch. (b : BranchRecord) → Contains xs b → b.row.branch ≡ branch → IsSumOfParts parts b) c.least_failing.result in
    reworded (λ branch. (b : BranchRecord) → Contains kept.branches b → b.row.branch ≡ branch → IsSumOfParts parts b) (TellersAgree kept) c.least_failing.result
    (λ branch each b there stated. each b there stated ∙ (teller_sum_of_parts kept.tellers parts b.row.branch c.requires.tellers ∙ whole_teller_sum w kept b.row.branch c.requires.in_range))
    (λ branch each b there stated. each b there stated ∙ sym (teller_sum_of_parts kept.tellers parts b.row.branch c.requires.tellers ∙ whole_teller_sum w kept b.row.branch c.requires.in_range))
    (subst P c.branches.ensures judged)

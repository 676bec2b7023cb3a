use Rattle.std.proofs.Common.{◌≡◌, List, Contains, subst}
use Rattle.bank_books.specs.declared.records.BranchRecord.{BranchRecord}
use Rattle.book_check.specs.Least.{IsFirstFailing}
use Rattle.book_range.specs.Numbers.{BearNumbers}
use Rattle.book_sums.specs.Groups.{rows_of_group}
use Rattle.book_check.proofs.KeptRows.{by_themselves}
use Rattle.book_check.proofs.branch_numbers.first_of_other_numbers.Goals as goal

pub returns : goal.returns
returns g c =
    let holds : BranchRecord → Type 0 = λ b. BearNumbers g.T.Numbered.number (rows_of_group g.T.Keyed.key b.row.branch c.args.rows.now) in
    let P : List BranchRecord → Type 0 = λ xs. IsFirstFailing (λ branch. (b : BranchRecord) → Contains xs b → b.row.branch ≡ branch → holds b) c.least_failing.result in
    subst P c.branches.ensures (by_themselves holds (λ b. b.row.branch) c.branches.result.now c.least_failing.result c.least_failing.ensures)

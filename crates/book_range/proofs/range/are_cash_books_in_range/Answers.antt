use Rattle.bank_books.specs.Range.{IsProofInRange}
use Rattle.book_range.proofs.Judged.{not_passed, then_tested, stated}
use Rattle.book_range.proofs.range.are_cash_books_in_range.Goals as goal

pub returns-then-are_lines_in_range : goal.returns-then-are_lines_in_range
returns-then-are_lines_in_range c =
    then_tested c.if-are_lines_in_range.true c.are_lines_in_range.ensures
    (stated (IsProofInRange c.args.world.now.branches) c.proofs.result.now c.args.world.now.proofs c.are_within_limits.result c.proofs.ensures.value c.are_within_limits.ensures)
    (λ first second. record { lines = first; proofs = second }) (λ both. both.proofs)

pub returns-else-are_lines_in_range : goal.returns-else-are_lines_in_range
returns-else-are_lines_in_range c = not_passed c.if-are_lines_in_range.false c.are_lines_in_range.ensures (λ both. both.lines)

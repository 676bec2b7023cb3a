use Rattle.bank_books.specs.Range.{IsAccountInRange}
use Rattle.book_range.proofs.Judged.{not_passed, then_tested, stated}
use Rattle.book_range.proofs.range.are_ledgers_in_range.Goals as goal

pub returns-then-are_within_limits : goal.returns-then-are_within_limits
returns-then-are_within_limits c =
    then_tested c.if-are_within_limits.true
    (stated (IsAccountInRange c.args.world.now.branches) c.accounts.result.now c.args.kept.now.accounts c.are_within_limits.result c.accounts.ensures c.are_within_limits.ensures)
    c.are_entries_in_range.ensures
    (λ first second. record { accounts = first; entries = second }) (λ both. both.entries)

pub returns-else-are_within_limits : goal.returns-else-are_within_limits
returns-else-are_within_limits c =
    not_passed c.if-are_within_limits.false (stated (IsAccountInRange c.args.world.now.branches) c.accounts.result.now c.args.kept.now.accounts c.are_within_limits.result c.accounts.ensures c.are_within_limits.ensures) (λ both. both.accounts)

use Rattle.bank_books.specs.Range.{IsBranchInRange, IsTellerInRange}
use Rattle.book_range.proofs.Judged.{not_passed, then_tested, stated}
use Rattle.book_range.proofs.range.are_places_in_range.Goals as goal

pub returns-then-are_branches_in_range : goal.returns-then-are_branches_in_range
returns-then-are_branches_in_range c =
    then_tested c.if-are_branches_in_range.true
    (stated (IsBranchInRange c.args.world.now.accounts c.args.world.now.proofs) c.branches.result.now c.args.kept.now.branches c.are_branches_in_range.result c.branches.ensures c.are_branches_in_range.ensures)
    (stated (IsTellerInRange c.args.world.now.branches) c.tellers.result.now c.args.kept.now.tellers c.are_within_limits.result c.tellers.ensures c.are_within_limits.ensures)
    (λ first second. record { branches = first; tellers = second }) (λ both. both.tellers)

pub returns-else-are_branches_in_range : goal.returns-else-are_branches_in_range
returns-else-are_branches_in_range c =
    not_passed c.if-are_branches_in_range.false (stated (IsBranchInRange c.args.world.now.accounts c.args.world.now.proofs) c.branches.result.now c.args.kept.now.branches c.are_branches_in_range.result c.branches.ensures c.are_branches_in_range.ensures) (λ both. both.branches)

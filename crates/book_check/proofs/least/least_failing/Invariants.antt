-- the least branch of the rows so far
use Rattle.book_check.specs.Least.{HoldsOfBranch, IsFirstFailing}
use Rattle.book_check.proofs.least.least_failing.Given as goal

abbrev pub invariant-loop-index : goal.invariant-loop-index
invariant-loop-index g l =
    IsFirstFailing (HoldsOfBranch (g.C.Condition.holds l.condition) (g.C.Condition.branch_of l.condition) l.rows l.computed l.index) l.least

-- the least branch that one of the rows so far keeps open
use Rattle.book_check.specs.Least.{HoldsOfBranch, IsFirstFailing}
use Rattle.year_forward.proofs.open_branches.first_with.Given as goal

abbrev pub invariant-loop-row : goal.invariant-loop-row
invariant-loop-row g l =
    IsFirstFailing (HoldsOfBranch (λ row _. g.T.Closable.closed l.world row) g.T.Closable.branch l.rows l.rows l.row-index) l.least

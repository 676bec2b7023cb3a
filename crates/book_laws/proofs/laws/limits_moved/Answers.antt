use Rattle.book_laws.proofs.LimitsKept as proven
use Rattle.book_laws.proofs.laws.limits_moved.Goals as goal

pub returns : goal.returns
returns c = proven.limits_moved

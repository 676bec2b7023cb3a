use Rattle.book_laws.proofs.LimitsKept as proven
use Rattle.book_laws.proofs.laws.moved_twice.Goals as goal

pub returns : goal.returns
returns c = proven.moved_twice

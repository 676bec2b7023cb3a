use Rattle.book_laws.proofs.SessionSet as proven
use Rattle.book_laws.proofs.laws.session_moves_nothing.Goals as goal

pub returns : goal.returns
returns c = proven.session_moves_nothing

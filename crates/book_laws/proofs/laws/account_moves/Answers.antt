use Rattle.book_laws.proofs.AccountAdded as proven
use Rattle.book_laws.proofs.laws.account_moves.Goals as goal

pub returns : goal.returns
returns c = proven.account_moves

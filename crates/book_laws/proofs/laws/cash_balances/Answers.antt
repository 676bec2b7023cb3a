use Rattle.book_laws.proofs.LineAdded as proven
use Rattle.book_laws.proofs.laws.cash_balances.Goals as goal

pub returns : goal.returns
returns c = proven.cash_balances

use Rattle.book_laws.proofs.AccountAdded as proven
use Rattle.book_laws.proofs.laws.account_keeps_books.Goals as goal

pub returns : goal.returns
returns c = proven.account_keeps_books

use Rattle.book_laws.proofs.LegsBooks as proven
use Rattle.book_laws.proofs.laws.legs_keep_books.Goals as goal

pub returns : goal.returns
returns c = proven.legs_keep_books

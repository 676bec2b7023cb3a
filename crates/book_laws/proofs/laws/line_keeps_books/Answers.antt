use Rattle.book_laws.proofs.LineAdded as proven
use Rattle.book_laws.proofs.laws.line_keeps_books.Goals as goal

pub returns : goal.returns
returns c = proven.line_keeps_books

use Rattle.book_laws.proofs.LinesBooks as proven
use Rattle.book_laws.proofs.laws.lines_keep_books.Goals as goal

pub returns : goal.returns
returns c = proven.lines_keep_books

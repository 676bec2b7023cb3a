use Rattle.book_laws.proofs.BooksSplit as proven
use Rattle.book_laws.proofs.laws.books_parts.Goals as goal

pub returns : goal.returns
returns c = proven.books_parts

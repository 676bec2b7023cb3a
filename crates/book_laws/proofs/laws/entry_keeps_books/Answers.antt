use Rattle.book_laws.proofs.EntryBooks as proven
use Rattle.book_laws.proofs.laws.entry_keeps_books.Goals as goal

pub returns : goal.returns
returns c = proven.entry_keeps_books

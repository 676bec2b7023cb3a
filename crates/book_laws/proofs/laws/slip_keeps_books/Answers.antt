use Rattle.book_laws.proofs.SlipAdded.{slip_keeps_books}
use Rattle.book_laws.proofs.laws.slip_keeps_books.Goals as goal

pub returns : goal.returns
returns c = slip_keeps_books

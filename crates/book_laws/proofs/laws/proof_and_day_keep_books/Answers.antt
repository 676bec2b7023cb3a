use Rattle.book_laws.proofs.DayProved as proven
use Rattle.book_laws.proofs.laws.proof_and_day_keep_books.Goals as goal

pub returns : goal.returns
returns c = proven.proof_and_day_keep_books

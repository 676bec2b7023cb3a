use Rattle.postings.proofs.CorrectBooks as proven
use Rattle.postings.proofs.laws.correct_keeps_books.Goals as goal

pub returns : goal.returns
returns c = proven.correct_keeps_books

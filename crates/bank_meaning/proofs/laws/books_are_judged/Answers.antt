use Rattle.bank_meaning.proofs.BooksJudged.{books_are_judged}
use Rattle.bank_meaning.proofs.laws.books_are_judged.Goals as goal

pub returns : goal.returns
returns c = books_are_judged

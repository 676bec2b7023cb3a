use Rattle.bank_meaning.proofs.BooksJudged.{books_deny_no_more}
use Rattle.bank_meaning.proofs.laws.books_deny_no_more.Goals as goal

pub returns : goal.returns
returns c = books_deny_no_more

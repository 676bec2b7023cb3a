use Rattle.bank_meaning.proofs.PolicyFirst.{denied_before_the_books}
use Rattle.bank_meaning.proofs.laws.denied_before_the_books.Goals as goal

pub returns : goal.returns
returns c = denied_before_the_books

use Rattle.bank_meaning.proofs.GivenRelease as proven
use Rattle.bank_meaning.proofs.laws.release_keeps_books.Goals as goal

pub returns : goal.returns
returns c = proven.release_keeps_books

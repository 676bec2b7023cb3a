use Rattle.bank_meaning.proofs.BooksJudged as proven
use Rattle.bank_meaning.proofs.laws.rows_are_the_changes.Goals as goal

pub returns : goal.returns
returns c = proven.rows_are_the_changes

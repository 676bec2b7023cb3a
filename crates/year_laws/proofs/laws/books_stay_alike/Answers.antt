use Rattle.year_laws.proofs.StaysAlike as proven
use Rattle.year_laws.proofs.laws.books_stay_alike.Goals as goal

pub returns : goal.returns
returns c = proven.books_stay_alike

use Rattle.year_laws.proofs.RunAlike as proven
use Rattle.year_laws.proofs.laws.books_run_alike.Goals as goal

pub returns : goal.returns
returns c = proven.books_run_alike

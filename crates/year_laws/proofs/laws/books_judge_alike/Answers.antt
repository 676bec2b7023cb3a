use Rattle.year_laws.proofs.AlikeTests as proven
use Rattle.year_laws.proofs.laws.books_judge_alike.Goals as goal

pub returns : goal.returns
returns c = proven.books_judge_alike

use Rattle.year_laws.proofs.StaysAlike as proven
use Rattle.year_laws.proofs.laws.turns_alike.Goals as goal

pub returns : goal.returns
returns c = proven.turns_alike

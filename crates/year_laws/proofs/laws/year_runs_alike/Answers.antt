use Rattle.year_laws.proofs.RunAlike as proven
use Rattle.year_laws.proofs.laws.year_runs_alike.Goals as goal

pub returns : goal.returns
returns c = proven.year_runs_alike

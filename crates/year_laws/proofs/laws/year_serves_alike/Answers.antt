use Rattle.year_laws.proofs.RequestsAlike as proven
use Rattle.year_laws.proofs.laws.year_serves_alike.Goals as goal

pub returns : goal.returns
returns c = proven.year_serves_alike

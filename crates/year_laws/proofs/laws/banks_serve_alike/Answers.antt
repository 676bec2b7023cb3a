use Rattle.year_laws.proofs.RequestsAlike as proven
use Rattle.year_laws.proofs.laws.banks_serve_alike.Goals as goal

pub returns : goal.returns
returns c = proven.banks_serve_alike

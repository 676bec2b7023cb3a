use Rattle.year_laws.proofs.AtTheTurn as proven
use Rattle.year_laws.proofs.laws.year_turns.Goals as goal

pub returns : goal.returns
returns c = proven.year_turns

use Rattle.year_laws.proofs.Premises.{premises_are_met}
use Rattle.year_laws.proofs.laws.premises_are_met.Goals as goal

pub returns : goal.returns
returns c = premises_are_met

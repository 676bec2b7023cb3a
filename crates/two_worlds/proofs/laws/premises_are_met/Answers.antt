use Rattle.two_worlds.proofs.Premises.{premises_are_met}
use Rattle.two_worlds.proofs.laws.premises_are_met.Goals as goal

pub returns : goal.returns
returns c = premises_are_met

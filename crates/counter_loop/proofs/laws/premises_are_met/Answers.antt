use Rattle.counter_loop.proofs.Premises.{premises_are_met}
use Rattle.counter_loop.proofs.laws.premises_are_met.Goals as goal

pub returns : goal.returns
returns c = premises_are_met

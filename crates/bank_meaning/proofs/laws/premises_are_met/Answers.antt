use Rattle.bank_meaning.proofs.Premises.{premises_are_met}
use Rattle.bank_meaning.proofs.laws.premises_are_met.Goals as goal

pub returns : goal.returns
returns c = premises_are_met

use Rattle.cli_file.proofs.Premises.{premises_are_met}
use Rattle.cli_file.proofs.laws.premises_are_met.Goals as goal

pub returns : goal.returns
returns c = premises_are_met

use Rattle.cli_file.proofs.SumLemmas.{opens_undamaged}
use Rattle.cli_file.proofs.laws.damaged_bank_is_the_same.Goals as goal

pub returns : goal.returns
returns g c = opens_undamaged _

use Rattle.cli_file.proofs.SumLemmas.{opens_with_its_sums}
use Rattle.cli_file.proofs.laws.opens_with_its_sums.Goals as goal

pub returns : goal.returns
returns g c = opens_with_its_sums _

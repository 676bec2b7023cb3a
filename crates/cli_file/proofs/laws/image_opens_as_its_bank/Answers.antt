use Rattle.cli_file.proofs.OpenedLemmas.{opens_as_its_bank}
use Rattle.cli_file.proofs.laws.image_opens_as_its_bank.Goals as goal

pub returns : goal.returns
returns g c = opens_as_its_bank _

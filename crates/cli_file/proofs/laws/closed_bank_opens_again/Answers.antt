use Rattle.cli_file.proofs.OpenedLemmas.{opens_again}
use Rattle.cli_file.proofs.laws.closed_bank_opens_again.Goals as goal

pub returns : goal.returns
returns g c = opens_again g.C.Disk _

use Rattle.cli_file.proofs.Premises.{found_as_left}
use Rattle.cli_file.proofs.laws.closed_files_are_found.Goals as goal

pub returns : goal.returns
returns g c = found_as_left g.D.Disk _

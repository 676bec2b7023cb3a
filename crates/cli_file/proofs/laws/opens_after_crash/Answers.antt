use Rattle.cli_file.proofs.AfterCrashLemmas.{opens_after_crash}
use Rattle.cli_file.proofs.laws.opens_after_crash.Goals as goal

pub returns-clause-opens : goal.returns-clause-opens
returns-clause-opens g c = opens_after_crash g.C.Disk _

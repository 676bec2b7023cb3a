use Rattle.cli_file.proofs.AfterCrashLemmas.{passes_over_crash}
use Rattle.cli_file.proofs.laws.checks_pass_after_crash.Goals as goal

pub returns : goal.returns
returns g c = passes_over_crash g.S.StoreState.status

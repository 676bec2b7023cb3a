use Rattle.sql_releases.specs.SlipCountLaws.{sets_count}
use Rattle.sql_releases.proofs.slip_counts.set_slip_count.Goals as goal

pub set_by-requires-clause-law : goal.set_by-requires-clause-law
set_by-requires-clause-law g c = sets_count

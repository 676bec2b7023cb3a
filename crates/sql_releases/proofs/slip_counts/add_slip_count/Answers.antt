use Rattle.sql_releases.specs.SlipCountLaws.{adds_count}
use Rattle.sql_releases.proofs.slip_counts.add_slip_count.Goals as goal

pub add_by-requires-clause-law : goal.add_by-requires-clause-law
add_by-requires-clause-law g c = adds_count

use Rattle.sql_schema.specs.Held.Sheet.{sets as in_sets}
use Rattle.sql_whole.proofs.PolicyWhole.{tells_sets}
use Rattle.sql_whole.proofs.sets.all_sets.Goals as goal

pub whole_table-requires : goal.whole_table-requires
whole_table-requires g c = tells_sets c.args.edition

pub returns-clause-takes : goal.returns-clause-takes
returns-clause-takes g c clean has s holds readable = c.whole_table.ensures.takes clean has s.sets (holds in_sets) readable.sets

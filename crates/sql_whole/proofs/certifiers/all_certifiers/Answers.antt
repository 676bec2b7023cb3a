use Rattle.sql_schema.specs.Held.Sheet.{certifiers as in_certifiers}
use Rattle.sql_whole.proofs.PolicyWhole.{tells_certifiers}
use Rattle.sql_whole.proofs.certifiers.all_certifiers.Goals as goal

pub whole_table-requires : goal.whole_table-requires
whole_table-requires g c = tells_certifiers c.args.edition

pub returns-clause-takes : goal.returns-clause-takes
returns-clause-takes g c clean has s holds readable = c.whole_table.ensures.takes clean has s.certifiers (holds in_certifiers) readable.certifiers

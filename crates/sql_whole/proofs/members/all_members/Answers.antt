use Rattle.sql_schema.specs.Held.Sheet.{members as in_members}
use Rattle.sql_whole.proofs.PolicyWhole.{tells_members}
use Rattle.sql_whole.proofs.members.all_members.Goals as goal

pub whole_table-requires : goal.whole_table-requires
whole_table-requires g c = tells_members c.args.edition

pub returns-clause-takes : goal.returns-clause-takes
returns-clause-takes g c clean has s holds readable = c.whole_table.ensures.takes clean has s.members (holds in_members) readable.members

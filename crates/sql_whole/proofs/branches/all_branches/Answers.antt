use Rattle.sql_schema.specs.Held.Sheet.{branches as in_branches}
use Rattle.sql_whole.proofs.BookWhole.{tells_branches}
use Rattle.sql_whole.proofs.branches.all_branches.Goals as goal

pub whole_table-requires : goal.whole_table-requires
whole_table-requires g c = tells_branches c.args.edition

pub returns-clause-takes : goal.returns-clause-takes
returns-clause-takes g c clean has s holds readable = c.whole_table.ensures.takes clean has s.branches (holds in_branches) readable.branches

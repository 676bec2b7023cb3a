use Rattle.sql_schema.specs.Held.Sheet.{entries as in_entries}
use Rattle.sql_whole.proofs.BookWhole.{tells_entries}
use Rattle.sql_whole.proofs.entries.all_entries.Goals as goal

pub whole_table-requires : goal.whole_table-requires
whole_table-requires g c = tells_entries c.args.edition

pub returns-clause-takes : goal.returns-clause-takes
returns-clause-takes g c clean has s holds readable = c.whole_table.ensures.takes clean has s.entries (holds in_entries) readable.entries

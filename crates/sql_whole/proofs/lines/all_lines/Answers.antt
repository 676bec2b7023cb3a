use Rattle.sql_schema.specs.Held.Sheet.{lines as in_lines}
use Rattle.sql_whole.proofs.HistoryWhole.{tells_lines}
use Rattle.sql_whole.proofs.lines.all_lines.Goals as goal

pub whole_table-requires : goal.whole_table-requires
whole_table-requires g c = tells_lines c.args.edition

pub returns-clause-takes : goal.returns-clause-takes
returns-clause-takes g c clean has s holds readable = c.whole_table.ensures.takes clean has s.lines (holds in_lines) readable.lines

use Rattle.sql_schema.specs.Held.Sheet.{slips as in_slips}
use Rattle.sql_whole.proofs.HistoryWhole.{tells_slips}
use Rattle.sql_whole.proofs.slips.third_slips.Goals as goal

pub whole_table-requires : goal.whole_table-requires
whole_table-requires g c = tells_slips

pub returns-clause-takes : goal.returns-clause-takes
returns-clause-takes g c clean has s holds readable = c.whole_table.ensures.takes clean has s.slips (holds in_slips) readable.slips

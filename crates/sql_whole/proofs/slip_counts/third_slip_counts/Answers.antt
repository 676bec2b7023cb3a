use Rattle.sql_schema.specs.Held.Sheet.{slip_counts as in_slip_counts}
use Rattle.sql_whole.proofs.HistoryWhole.{tells_slip_counts}
use Rattle.sql_whole.proofs.slip_counts.third_slip_counts.Goals as goal

pub whole_table-requires : goal.whole_table-requires
whole_table-requires g c = tells_slip_counts

pub returns-clause-takes : goal.returns-clause-takes
returns-clause-takes g c clean has s holds readable = c.whole_table.ensures.takes clean has s.slip_counts (holds in_slip_counts) readable.slip_counts

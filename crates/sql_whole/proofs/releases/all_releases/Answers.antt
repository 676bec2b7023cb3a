use Rattle.sql_schema.specs.Held.Sheet.{releases as in_releases}
use Rattle.sql_whole.proofs.HistoryWhole.{tells_releases}
use Rattle.sql_whole.proofs.releases.all_releases.Goals as goal

pub whole_table-requires : goal.whole_table-requires
whole_table-requires g c = tells_releases c.args.edition

pub returns-clause-takes : goal.returns-clause-takes
returns-clause-takes g c clean has s holds readable = c.whole_table.ensures.takes clean has s.releases (holds in_releases) readable.releases

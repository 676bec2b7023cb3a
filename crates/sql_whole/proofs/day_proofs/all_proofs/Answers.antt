use Rattle.sql_schema.specs.Held.Sheet.{proofs as in_proofs}
use Rattle.sql_whole.proofs.HistoryWhole.{tells_proofs}
use Rattle.sql_whole.proofs.day_proofs.all_proofs.Goals as goal

pub whole_table-requires : goal.whole_table-requires
whole_table-requires g c = tells_proofs c.args.edition

pub returns-clause-takes : goal.returns-clause-takes
returns-clause-takes g c clean has s holds readable = c.whole_table.ensures.takes clean has s.proofs (holds in_proofs) readable.proofs

use Rattle.sql_schema.specs.Held.Sheet.{tellers as in_tellers}
use Rattle.sql_whole.proofs.BookWhole.{tells_tellers}
use Rattle.sql_whole.proofs.tellers.all_tellers.Goals as goal

pub whole_table-requires : goal.whole_table-requires
whole_table-requires g c = tells_tellers c.args.edition

pub returns-clause-takes : goal.returns-clause-takes
returns-clause-takes g c clean has s holds readable = c.whole_table.ensures.takes clean has s.tellers (holds in_tellers) readable.tellers

use Rattle.sql_schema.specs.Held.Sheet.{triples as in_triples}
use Rattle.sql_whole.proofs.PolicyWhole.{tells_second_triples}
use Rattle.sql_whole.proofs.triples.second_triples.Goals as goal

pub whole_table-requires : goal.whole_table-requires
whole_table-requires g c = tells_second_triples

pub returns-clause-takes : goal.returns-clause-takes
returns-clause-takes g c clean has s holds readable = c.whole_table.ensures.takes clean has s.triples (holds in_triples) readable.triples

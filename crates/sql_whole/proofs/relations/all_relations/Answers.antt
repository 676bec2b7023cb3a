use Rattle.sql_schema.specs.Held.Sheet.{relations as in_relations}
use Rattle.sql_whole.proofs.PolicyWhole.{tells_relations}
use Rattle.sql_whole.proofs.relations.all_relations.Goals as goal

pub whole_table-requires : goal.whole_table-requires
whole_table-requires g c = tells_relations c.args.edition

pub returns-clause-takes : goal.returns-clause-takes
returns-clause-takes g c clean has s holds readable = c.whole_table.ensures.takes clean has s.relations (holds in_relations) readable.relations

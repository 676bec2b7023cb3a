use Rattle.std.proofs.Common.{filter}
use Rattle.sqlite.specs.Held.{state}
use Rattle.bank_terms.specs.Procedure.{number_of}
use Rattle.sql_schema.specs.Held.Sheet.{relations as in_relations}
use Rattle.sql_schema.proofs.PickedRows.{passing_fit}
use Rattle.sql_policy.specs.Tests.{is_relation_numbered}
use Rattle.sql_policy.proofs.RelationLemmas.{relations_is, selects_relations}
use Rattle.sql_policy.proofs.relations.relations_in.Goals as goal

pub listed-requires : goal.listed-requires
listed-requires g c = relations_is.2

pub returns-clause-found : goal.returns-clause-found
returns-clause-found g c clean s holds =
    let test = is_relation_numbered (number_of c.args.procedure) in
    c.listed.ensures.found clean (filter test s.relations) (passing_fit test s.relations _ (holds.rows in_relations))
    (λ rows shown. selects_relations (state g.S.Store c.args.tx.now.conn.now) (state g.S.Store c.listed.new.tx.conn.now) s (number_of c.args.procedure) rows holds (rw (c.params-to_sql.ensures, c.number.ensures) at shown))

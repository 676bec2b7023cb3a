use Rattle.std.proofs.Common.{◌==◌, arith, find}
use Rattle.sqlite.specs.Held.{state}
use Rattle.bank_terms.specs.Procedure.{number_of}
use Rattle.bank_policy.specs.PolicyKeys.{relation_key, relation_number}
use Rattle.sql_schema.specs.Held.Sheet.{relations as in_relations}
use Rattle.sql_schema.proofs.PickedRows.{found_fits}
use Rattle.sql_policy.proofs.RelationLemmas.{relation_is, selects_relation}
use Rattle.sql_policy.proofs.relations.relation_of.Goals as goal

pub picked-requires : goal.picked-requires
picked-requires g c = relation_is.2

pub returns-clause-found : goal.returns-clause-found
returns-clause-found g c clean s holds =
    c.picked.ensures.found clean (find (λ r. relation_key r == relation_number c.args.procedure c.args.set) s.relations) (found_fits _ s.relations _ (holds.rows in_relations))
    (λ rows shown. selects_relation (state g.S.Store c.args.tx.now.conn.now) (state g.S.Store c.picked.new.tx.conn.now) s (number_of c.args.procedure) c.args.set rows (omega (arith, c.ranges.set.fits)) holds
    (rw (c.params-to_sql.ensures, c.params-to_sql-2.ensures, c.number.ensures) at shown))

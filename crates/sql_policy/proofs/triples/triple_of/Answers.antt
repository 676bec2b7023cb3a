use Rattle.std.proofs.Common.{◌==◌, arith, find}
use Rattle.sqlite.specs.Held.{state}
use Rattle.bank_terms.specs.Procedure.{number_of}
use Rattle.bank_policy.specs.PolicyKeys.{triple_key, triple_number}
use Rattle.sql_schema.specs.Held.Sheet.{triples as in_triples}
use Rattle.sql_schema.proofs.PickedRows.{found_fits}
use Rattle.bank_terms.proofs.Procedures.{small_number}
use Rattle.sql_policy.proofs.TripleLemmas.{selects_triple, triple_is}
use Rattle.sql_policy.proofs.triples.triple_of.Goals as goal

pub picked-requires : goal.picked-requires
picked-requires g c = triple_is.2

pub returns-clause-found : goal.returns-clause-found
returns-clause-found g c clean s holds =
    c.picked.ensures.found clean (find (λ r. triple_key r == triple_number c.args.user c.args.procedure c.args.set) s.triples) (found_fits _ s.triples _ (holds.rows in_triples))
    (λ rows shown. selects_triple (state g.S.Store c.args.tx.now.conn.now) (state g.S.Store c.picked.new.tx.conn.now) s c.args.user (number_of c.args.procedure) c.args.set rows
    (small_number c.args.procedure) (omega (arith, c.ranges.set.fits)) holds (rw (c.params-to_sql.ensures, c.params-to_sql-2.ensures, c.params-to_sql-3.ensures, c.number.ensures) at shown))

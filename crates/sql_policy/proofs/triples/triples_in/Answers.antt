use Rattle.std.proofs.Common.{filter}
use Rattle.sqlite.specs.Held.{state}
use Rattle.bank_terms.specs.Procedure.{number_of}
use Rattle.sql_schema.specs.Held.Sheet.{triples as in_triples}
use Rattle.sql_schema.proofs.PickedRows.{passing_fit}
use Rattle.sql_policy.specs.Tests.{is_triple_numbered}
use Rattle.sql_policy.proofs.TripleLemmas.{selects_triples, triples_is}
use Rattle.sql_policy.proofs.triples.triples_in.Goals as goal

pub listed-requires : goal.listed-requires
listed-requires g c = triples_is.2

pub returns-clause-found : goal.returns-clause-found
returns-clause-found g c clean s holds =
    let test = is_triple_numbered c.args.user (number_of c.args.procedure) in
    c.listed.ensures.found clean (filter test s.triples) (passing_fit test s.triples _ (holds.rows in_triples))
    (λ rows shown. selects_triples (state g.S.Store c.args.tx.now.conn.now) (state g.S.Store c.listed.new.tx.conn.now) s c.args.user (number_of c.args.procedure) rows holds
    (rw (c.params-to_sql.ensures, c.params-to_sql-2.ensures, c.number.ensures) at shown))

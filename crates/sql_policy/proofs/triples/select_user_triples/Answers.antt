use Rattle.std.proofs.lemmas.Result.{IfOk-weaker}
use Rattle.sqlite.specs.Held.{state}
use Rattle.sql_policy.proofs.TripleLemmas.{user_triples_is, counts_triples}
use Rattle.sql_policy.proofs.triples.select_user_triples.Goals as goal

pub returns-clause-rows : goal.returns-clause-rows
returns-clause-rows g c clean s holds =
    IfOk-weaker c.plain_rows.result _ _
    (λ rows h. counts_triples (state g.S.Store c.args.tx.now.conn.now) (state g.S.Store c.plain_rows.new.tx.conn.now) s c.args.user rows.items holds h)
    (rw c.params-to_sql.ensures at (c.plain_rows.ensures.rows clean))

pub plain_rows-requires : goal.plain_rows-requires
plain_rows-requires g c = user_triples_is.2

use Rattle.std.proofs.lemmas.Result.{IfOk-weaker}
use Rattle.sqlite.specs.Held.{state}
use Rattle.sql_policy.proofs.SetLemmas.{set_is, selects_set}
use Rattle.sql_policy.proofs.sets.select_set.Goals as goal

pub returns-clause-rows : goal.returns-clause-rows
returns-clause-rows g c clean s holds =
    IfOk-weaker c.plain_rows.result _ _
    (λ rows h. selects_set (state g.S.Store c.args.tx.now.conn.now) (state g.S.Store c.plain_rows.new.tx.conn.now) s c.args.set rows.items holds h)
    (rw c.params-to_sql.ensures at (c.plain_rows.ensures.rows clean))

pub plain_rows-requires : goal.plain_rows-requires
plain_rows-requires g c = set_is.2

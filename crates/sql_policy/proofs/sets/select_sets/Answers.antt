use Rattle.std.proofs.lemmas.Result.{IfOk-weaker}
use Rattle.sqlite.specs.Held.{state}
use Rattle.sql_policy.proofs.SetLemmas.{sets_is, counts_sets}
use Rattle.sql_policy.proofs.sets.select_sets.Goals as goal

pub returns-clause-rows : goal.returns-clause-rows
returns-clause-rows g c clean s holds =
    IfOk-weaker c.plain_rows.result _ _
    (λ rows h. counts_sets (state g.S.Store c.args.tx.now.conn.now) (state g.S.Store c.plain_rows.new.tx.conn.now) s rows.items holds h)
    (c.plain_rows.ensures.rows clean)

pub plain_rows-requires : goal.plain_rows-requires
plain_rows-requires g c = sets_is.2

use Rattle.std.proofs.Common.{arith}
use Rattle.std.proofs.lemmas.Result.{IfOk-weaker}
use Rattle.sqlite.specs.Held.{state}
use Rattle.sql_policy.proofs.CertifierLemmas.{certifier_is, selects_certifier}
use Rattle.sql_policy.proofs.certifiers.select_certifier.Goals as goal

pub returns-clause-rows : goal.returns-clause-rows
returns-clause-rows g c clean s holds =
    IfOk-weaker c.plain_rows.result _ _
    (λ rows h. selects_certifier (state g.S.Store c.args.tx.now.conn.now) (state g.S.Store c.plain_rows.new.tx.conn.now) s c.args.user c.args.procedure rows.items (omega (arith, c.ranges.procedure.fits)) holds h)
    (rw (c.params-to_sql.ensures, c.params-to_sql-2.ensures) at (c.plain_rows.ensures.rows clean))

pub plain_rows-requires : goal.plain_rows-requires
plain_rows-requires g c = certifier_is.2

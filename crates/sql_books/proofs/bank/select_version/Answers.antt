use Rattle.std.proofs.lemmas.Result.{IfOk-weaker}
use Rattle.sqlite.specs.Held.{state}
use Rattle.sql_books.proofs.BankLemmas.{selects_version, version_is}
use Rattle.sql_books.proofs.bank.select_version.Goals as goal

pub returns-clause-rows : goal.returns-clause-rows
returns-clause-rows g c clean s holds =
    IfOk-weaker c.plain_rows.result _ _ (λ rows h. selects_version (state g.S.Store c.args.tx.now.conn.now) (state g.S.Store c.plain_rows.new.tx.conn.now) s rows.items holds h)
    (c.plain_rows.ensures.rows clean)

pub plain_rows-requires : goal.plain_rows-requires
plain_rows-requires g c = version_is.2

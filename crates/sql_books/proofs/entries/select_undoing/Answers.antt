use Rattle.std.proofs.lemmas.Result.{IfOk-weaker}
use Rattle.sqlite.specs.Held.{state}
use Rattle.sql_books.proofs.EntryLemmas.{undoing_is, counts_undoing}
use Rattle.sql_books.proofs.entries.select_undoing.Goals as goal

pub returns-clause-rows : goal.returns-clause-rows
returns-clause-rows g c clean s holds =
    IfOk-weaker c.plain_rows.result _ _ (λ rows h. counts_undoing (state g.S.Store c.args.tx.now.conn.now) (state g.S.Store c.plain_rows.new.tx.conn.now) s c.args.branch c.args.number rows.items holds h)
    (rw (c.params-to_sql.ensures, c.params-to_sql-2.ensures) at (c.plain_rows.ensures.rows clean))

pub plain_rows-requires : goal.plain_rows-requires
plain_rows-requires g c = undoing_is.2

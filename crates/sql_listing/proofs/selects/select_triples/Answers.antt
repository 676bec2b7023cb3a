use Rattle.std.proofs.Common.{subst}
use Rattle.std.proofs.lemmas.Result.{IfOk-weaker}
use Rattle.sqlite.specs.Held.{state}
use Rattle.sqlite.specs.State.{Shown}
use Rattle.sql_listing.specs.Texts.{given_three, triples_text}
use Rattle.sql_listing.proofs.SelectLemmas.{triples_are, selects_triples}
use Rattle.sql_listing.proofs.selects.select_triples.Goals as goal

pub returns-clause-rows : goal.returns-clause-rows
returns-clause-rows g c clean s holds after count is =
    let old = state g.S.Store c.args.tx.now.conn.now in
    let new = state g.S.Store c.plain_rows.new.tx.conn.now in
    IfOk-weaker c.plain_rows.result _ _ (λ rows h. selects_triples old new s after count rows.items holds (subst (λ p. Shown triples_text (given_three p) old new rows.items) is h))
    (rw (c.params-to_sql.ensures, c.params-to_sql-2.ensures, c.params-to_sql-3.ensures, c.params-to_sql-4.ensures) at (c.plain_rows.ensures.rows clean))

pub plain_rows-requires : goal.plain_rows-requires
plain_rows-requires g c = triples_are.2

use Rattle.std.proofs.Common.{[], subst, sym}
use Rattle.sqlite.specs.Held.{state}
use Rattle.sqlite.specs.State.{Shown}
use Rattle.sql_schema.specs.Cells.{AnyRow, user_cells}
use Rattle.sql_schema.specs.Held.Sheet.{users as in_users}
use Rattle.sql_schema.specs.HeldRows.{all_of_it}
use Rattle.sql_schema.specs.ReadBack.{stored_by_rowid}
use Rattle.book_kept.specs.Sheets.{user_no}
use Rattle.sql_whole.specs.Faults.{IsOfDatabase}
use Rattle.sql_whole.specs.Tables.{AreUsers}
use Rattle.sql_whole.specs.Texts.{all_users_text}
use Rattle.sql_schema.proofs.StepLemmas.{handed_on}
use Rattle.sql_whole.proofs.PolicyWhole.{tells_users}
use Rattle.sql_whole.proofs.ReadsLemmas.{for_memory, gave_whole}
use Rattle.sql_whole.proofs.WholeLemmas.{are_all, in_order_answered, plain_there}
use Rattle.sql_whole.proofs.users.all_users.Goals as goal

pub shown_rows-requires : goal.shown_rows-requires
shown_rows-requires g c = (c.args.edition, (tells_users c.args.edition).asks)

pub returns-in-Ok-clause-whole : goal.returns-in-Ok-clause-whole
returns-in-Ok-clause-whole g c clean has =
    let e = c.args.edition in
    let old = state g.S.Store c.args.conn.now in
    let new = state g.S.Store c.shown_rows.new.conn in
    let still = c.in_ok-rows.ensures.still clean (plain_there e all_users_text old (tells_users e).asks.plain has) in (
      are_all e all_of_it (stored_by_rowid 6) user_cells user_no AnyRow in_users all_users_text (tells_users e) old new _ c.in-Ok.users.items has
          (subst (λ rows. Shown all_users_text [] old new rows) (sym c.deref.ensures.value) (c.in_ok-rows.ensures.shown clean)) c.in-Ok.ensures.same c.in-Ok.ensures.fit,
      still.0,
      still.1,
    )

pub returns-clause-whole : goal.returns-clause-whole
returns-clause-whole g c clean has =
    (tt, tt, (c.in_ok-rows.ensures.still clean (plain_there c.args.edition all_users_text (state g.S.Store c.args.conn.now) (tells_users c.args.edition).asks.plain has)).1)

pub returns-in_err-rows-clause-takes : goal.returns-in_err-rows-clause-takes
returns-in_err-rows-clause-takes g c clean has s holds readable =
    handed_on c.from_residual.result c.in_err-rows.field-0.0 IsOfDatabase c.from_residual.ensures.1 (c.in_err-rows.ensures.there clean c.args.edition has.schema (tells_users c.args.edition).asks)

pub returns-clause-takes : goal.returns-clause-takes
returns-clause-takes g c clean has s holds readable =
    let e = c.args.edition in
    let old = state g.S.Store c.args.conn.now in
    let new = state g.S.Store c.shown_rows.new.conn in
    for_memory c.in-Err.fault (IsOfDatabase c.refusal.result) c.refusal.ensures
    (λ failed. c.in-Err.ensures.unread failed s.users readable.users
    (in_order_answered e all_of_it (stored_by_rowid 6) user_cells user_no AnyRow in_users all_users_text (tells_users e) old new _ s.users has (holds in_users)
    (subst (λ rows. Shown all_users_text [] old new rows) (sym c.deref.ensures.value) (c.in_ok-rows.ensures.shown clean))))

pub returns-in_err-rows-clause-whole : goal.returns-in_err-rows-clause-whole
returns-in_err-rows-clause-whole g c =
    let old = state g.S.Store c.args.conn.now in
    let new = state g.S.Store c.shown_rows.new.conn in
    gave_whole c.args.edition old new (λ trees rows. AreUsers trees rows.items) c.from_residual.result c.from_residual.ensures.0
    (λ clean has. (c.in_err-rows.ensures.still clean (plain_there c.args.edition all_users_text old (tells_users c.args.edition).asks.plain has)).1)

use Rattle.std.proofs.Common.{refl, subst}
use Rattle.sqlite.specs.Held.{state}
use Rattle.keyed_rows.specs.Ordered.{add_row}
use Rattle.bank_books.specs.Keys.{release_key}
use Rattle.bank_books.specs.declared.row_write.RowWrite.TheVariants as write
use Rattle.book_kept.specs.Changes.{release_sheets}
use Rattle.book_kept.specs.Sheets.{sheets_of, user_no}
use Rattle.sql_schema.specs.Held.{HoldsTables}
use Rattle.sql_schema.specs.Held.Sheet.{users as in_users}
use Rattle.sql_schema.proofs.StepLemmas.{early, kept_then, ok_weaker}
use Rattle.sql_writes.proofs.KeptLemmas.{kept_held}
use Rattle.sql_schema.proofs.WorldLemmas.{tables_of}
use Rattle.sql_writes.proofs.RequiredLemmas.{of_found}
use Rattle.sql_writes.proofs.SetLemmas.{set_made}
use Rattle.sql_writes.proofs.ThenLemmas.{moves_stopped}
use Rattle.sql_writes.proofs.book_writes.write_release.Goals as goal

pub returns-in_err-user-clause-moves : goal.returns-in_err-user-clause-moves
returns-in_err-user-clause-moves g c = moves_stopped _ c.from_residual.result c.from_residual.ensures.0 c.user_row.ensures.step

pub returns-in_err-releases-clause-moves : goal.returns-in_err-releases-clause-moves
returns-in_err-releases-clause-moves g c = moves_stopped _ c.from_residual-in_err-releases.result c.from_residual-in_err-releases.ensures.0 c.user_row.ensures.step

pub returns-clause-moves : goal.returns-clause-moves
returns-clause-moves g c clean inside w holds =
    let s0 = state g.S.Store c.args.tx.now.conn.now in
    let s1 = state g.S.Store c.user_row.new.tx.conn.now in
    let s2 = state g.S.Store c.put_release.new.tx.conn.now in
    let r = c.args.release.now in
    let n = c.in_ok-releases.releases in
    let old = c.in_ok-user.user in
    let clean1 = early s1 s2 _ c.put_release.ensures.step.survives clean in
    let tables = tables_of s0.now w holds in
    let x1 = c.in_ok-user.ensures.step.steps clean1 inside (sheets_of w) tables in
    let found = c.in_ok-user.ensures.found clean1 (sheets_of w) tables in
    let x2 = c.put_release.ensures.step.steps clean x1.0.0 (sheets_of w) x1.0.1 in
    let made = set_made user_no r.user (λ u. record u { releases = n }) (sheets_of w).users old (record old { releases = n }) (tables.rows in_users).ordered.distinct found refl refl in
    let kept = of_found c.with_release.result n _ c.in_ok-releases.ensures c.with_release.ensures.kept w holds.world.keepable (record { row = old; found = found; count = refl }) in (
      kept_held s2 (write.Release r) (release_sheets r n) w c.put_release.result kept
          (ok_weaker c.put_release.result _ _ (λ h. (h.0, subst (λ rows. HoldsTables s2.now (record (sheets_of w) { releases = add_row release_key r (sheets_of w).releases; users = rows })) made h.1)) x2.0),
      kept_then s0 s1 s2 x1.1 x2.1,
    )

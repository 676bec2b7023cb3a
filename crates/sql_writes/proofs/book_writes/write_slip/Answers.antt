use Rattle.std.proofs.Common.{◌≡◌, ◌∙◌, ◌+◌, ◌==◌, Some, find, refl, ap, subst, sym}
use Rattle.sqlite.specs.Held.{state}
use Rattle.keyed_rows.specs.Ordered.{add_row}
use Rattle.bank_books.specs.Keys.{slip_key}
use Rattle.bank_books.specs.Effects.{written}
use Rattle.bank_books.specs.declared.row_write.RowWrite.TheVariants as write
use Rattle.book_kept.specs.Changes.{slip_sheets}
use Rattle.book_kept.specs.Named.{IsFree}
use Rattle.book_kept.specs.Sheets.{Sheets, sheets_of, slip_no}
use Rattle.book_kept.proofs.SlipKept.{slip_is_kept}
use Rattle.sql_schema.specs.Held.{HoldsTables}
use Rattle.sql_schema.specs.Held.Sheet.{slip_counts as in_slip_counts}
use Rattle.sql_schema.proofs.StepLemmas.{early, kept_then, none_ok, ok_weaker}
use Rattle.sql_schema.proofs.WorldLemmas.{tables_of}
use Rattle.keyed_rows.proofs.Rows.{found_row}
use Rattle.sql_writes.specs.Known.{AreKnownOf}
use Rattle.sql_writes.proofs.KeptLemmas.{kept_read_back}
use Rattle.sql_writes.proofs.KnownLemmas.{slip_left}
use Rattle.sql_writes.proofs.SetLemmas.{set_made}
use Rattle.sql_writes.proofs.ThenLemmas.{known_stopped}
use Rattle.sql_writes.proofs.book_writes.write_slip.Goals as goal

pub returns-in_err-count-clause-moves : goal.returns-in_err-count-clause-moves
returns-in_err-count-clause-moves g c = known_stopped _ _ c.from_residual.result c.from_residual.ensures.0 c.known_slip_count.ensures.step

pub returns-in_err-after-clause-moves : goal.returns-in_err-after-clause-moves
returns-in_err-after-clause-moves g c = known_stopped _ _ c.from_residual-in_err-after.result c.from_residual-in_err-after.ensures.0 c.known_slip_count.ensures.step

pub returns-in_err-count-clause-known : goal.returns-in_err-count-clause-known
returns-in_err-count-clause-known g c clean inside w holds known = none_ok c.from_residual.result _ c.from_residual.ensures.0

pub returns-in_err-after-clause-known : goal.returns-in_err-after-clause-known
returns-in_err-after-clause-known g c clean inside w holds known = none_ok c.from_residual-in_err-after.result _ c.from_residual-in_err-after.ensures.0

pub returns-clause-moves : goal.returns-clause-moves
returns-clause-moves g c clean inside w holds known =
    let s0 = state g.S.Store c.args.tx.now.conn.now in
    let s1 = state g.S.Store c.known_slip_count.new.tx.conn.now in
    let s2 = state g.S.Store c.put_slip.new.tx.conn.now in
    let r = c.args.slip.now in
    let old = c.in_ok-count.count in
    let clean1 = early s1 s2 _ c.put_slip.ensures.step.survives clean in
    let tables = tables_of s0.now w holds in
    let x1 = c.in_ok-count.ensures.step.steps clean1 inside (sheets_of w) tables in
    let found : find (λ x. slip_no x == r.user) (sheets_of w).slip_counts ≡ Some old = subst (λ k. find (λ x. slip_no x == k) (sheets_of w).slip_counts ≡ Some old) c.user.ensures (c.in_ok-count.ensures.stated clean1 inside w holds known) in
    let x2 = c.put_slip.ensures.step.steps clean x1.0.0 (sheets_of w) x1.0.1 in
    let made = set_made slip_no r.user (λ u. record u { slips = old.slips + 1 }) (sheets_of w).slip_counts old c.in_ok-after.after (tables.rows in_slip_counts).ordered.distinct found c.in_ok-after.ensures.ok (ap slip_no c.in_ok-after.ensures.ok) in (
      kept_read_back s2 (write.Slip r) (slip_sheets r (old.slips + 1)) w c.put_slip.result (IsFree slip_key (sheets_of w).slips (slip_key r)) (c.put_slip.ensures.free clean x1.0.0 (sheets_of w) x1.0.1)
          (λ free. slip_is_kept w r old.slips holds.world.keepable (record { row = old; found = found; count = refl }) c.put_slip.ensures.small free)
          (ok_weaker c.put_slip.result _ _ (λ h. (h.0, subst (λ rows. HoldsTables s2.now (record (sheets_of w) { slips = add_row slip_key r (sheets_of w).slips; slip_counts = rows })) made h.1)) x2.0),
      kept_then s0 s1 s2 x1.1 x2.1,
    )

pub returns-clause-known : goal.returns-clause-known
returns-clause-known g c clean inside w holds known =
    let s0 = state g.S.Store c.args.tx.now.conn.now in
    let s1 = state g.S.Store c.known_slip_count.new.tx.conn.now in
    let s2 = state g.S.Store c.put_slip.new.tx.conn.now in
    let r = c.args.slip.now in
    let old = c.in_ok-count.count in
    let after = c.in_ok-after.after in
    let clean1 = early s1 s2 _ c.put_slip.ensures.step.survives clean in
    let tables = tables_of s0.now w holds in
    let x1 = c.in_ok-count.ensures.step.steps clean1 inside (sheets_of w) tables in
    let found : find (λ x. slip_no x == r.user) (sheets_of w).slip_counts ≡ Some old = subst (λ k. find (λ x. slip_no x == k) (sheets_of w).slip_counts ≡ Some old) c.user.ensures (c.in_ok-count.ensures.stated clean1 inside w holds known) in
    let made = set_made slip_no r.user (λ u. record u { slips = old.slips + 1 }) (sheets_of w).slip_counts old after (tables.rows in_slip_counts).ordered.distinct found c.in_ok-after.ensures.ok (ap slip_no c.in_ok-after.ensures.ok) in
    let at = ap slip_no c.in_ok-after.ensures.ok ∙ (found_row slip_no r.user (sheets_of w).slip_counts old found).1 in
    ok_weaker c.put_slip.result _ _
    (λ free.
    let kept = slip_is_kept w r old.slips holds.world.keepable (record { row = old; found = found; count = refl }) c.put_slip.ensures.small free in
    subst (AreKnownOf (written (write.Slip r) w)) (sym c.keep_slips.ensures) (slip_left w r old after c.args.known.now found at (ap (λ (s : Sheets). s.slip_counts) kept.sheets ∙ sym made) known))
    (c.put_slip.ensures.free clean x1.0.0 (sheets_of w) x1.0.1)

use Rattle.std.proofs.Common.{ap, subst}
use Rattle.sqlite.specs.Held.{state}
use Rattle.bank_books.specs.Effects.{on_day}
use Rattle.bank_books.specs.declared.records.BranchRecord.{BranchRecord}
use Rattle.bank_books.specs.declared.row_write.RowWrite.TheVariants as write
use Rattle.book_kept.specs.Changes.{day_sheets}
use Rattle.book_kept.specs.Sheets.{branch_no, sheets_of}
use Rattle.book_kept.proofs.PlainKept.{day_is_kept}
use Rattle.sql_schema.specs.Held.{HoldsTables}
use Rattle.sql_schema.specs.Held.Sheet.{branches as in_branches}
use Rattle.sql_schema.proofs.StepLemmas.{early, kept_then, ok_weaker}
use Rattle.sql_writes.proofs.KeptLemmas.{kept_held}
use Rattle.sql_schema.proofs.WorldLemmas.{tables_of}
use Rattle.sql_writes.proofs.SetLemmas.{set_made}
use Rattle.sql_writes.proofs.ThenLemmas.{moves_stopped}
use Rattle.sql_writes.proofs.book_writes.write_day.Goals as goal

pub returns-in_err-branch-clause-moves : goal.returns-in_err-branch-clause-moves
returns-in_err-branch-clause-moves g c = moves_stopped _ c.from_residual.result c.from_residual.ensures.0 c.branch_row.ensures.step

pub returns-clause-moves : goal.returns-clause-moves
returns-clause-moves g c clean inside w holds =
    let s0 = state g.S.Store c.args.tx.now.conn.now in
    let s1 = state g.S.Store c.branch_row.new.tx.conn.now in
    let s2 = state g.S.Store c.set_branch.new.tx.conn.now in
    let d = c.args.day.now in
    let clean1 = early s1 s2 _ c.set_branch.ensures.step.survives clean in
    let tables = tables_of s0.now w holds in
    let x1 = c.in_ok-branch.ensures.step.steps clean1 inside (sheets_of w) tables in
    let found = c.in_ok-branch.ensures.stated clean1 inside (sheets_of w) tables in
    let x2 = c.set_branch.ensures.step.steps clean x1.0.0 (sheets_of w) x1.0.1 in
    let made = set_made branch_no d.branch (λ b. record b { row = on_day d.day b.row }) (sheets_of w).branches c.in_ok-branch.branch c.on_day-after.result (tables.rows in_branches).ordered.distinct found c.on_day-after.ensures (ap (λ (b : BranchRecord). branch_no b) c.on_day-after.ensures) in (
      kept_held s2 (write.Day d) (day_sheets d) w c.set_branch.result (day_is_kept w d holds.world.keepable)
          (ok_weaker c.set_branch.result _ _ (λ h. (h.0, subst (λ rows. HoldsTables s2.now (record (sheets_of w) { branches = rows })) made h.1)) x2.0),
      kept_then s0 s1 s2 x1.1 x2.1,
    )

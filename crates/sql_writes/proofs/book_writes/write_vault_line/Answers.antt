use Rattle.sqlite.specs.Held.{state}
use Rattle.sql_schema.proofs.StepLemmas.{early, kept_then}
use Rattle.bank_books.specs.declared.row_write.RowWrite.TheVariants as write
use Rattle.book_kept.specs.Changes.{vault_sheets}
use Rattle.book_kept.specs.Sheets.{sheets_of}
use Rattle.sql_writes.proofs.RequiredLemmas.{of_found}
use Rattle.sql_writes.proofs.KeptLemmas.{kept_held}
use Rattle.sql_schema.proofs.WorldLemmas.{tables_of}
use Rattle.sql_writes.proofs.ThenLemmas.{moves_stopped}
use Rattle.sql_writes.proofs.book_writes.write_vault_line.Goals as goal

pub returns-in_err-branch-clause-moves : goal.returns-in_err-branch-clause-moves
returns-in_err-branch-clause-moves g c = moves_stopped _ c.from_residual.result c.from_residual.ensures.0 c.branch_row.ensures.step

pub returns-in_err-after-clause-moves : goal.returns-in_err-after-clause-moves
returns-in_err-after-clause-moves g c = moves_stopped _ c.from_residual-in_err-after.result c.from_residual-in_err-after.ensures.0 c.branch_row.ensures.step

pub returns-clause-moves : goal.returns-clause-moves
returns-clause-moves g c clean inside w holds =
    let s0 = state g.S.Store c.args.tx.now.conn.now in
    let s1 = state g.S.Store c.branch_row.new.tx.conn.now in
    let s2 = state g.S.Store c.put_vault_line.new.tx.conn.now in
    let clean1 = early s1 s2 _ c.put_vault_line.ensures.step.survives clean in
    let tables = tables_of s0.now w holds in
    let after = c.in_ok-after.after in
    let x1 = c.in_ok-branch.ensures.step.steps clean1 inside (sheets_of w) tables in
    let kept = of_found c.with_vault_line.result after _ c.in_ok-after.ensures c.with_vault_line.ensures.kept w holds.world.keepable (c.in_ok-branch.ensures.stated clean1 inside (sheets_of w) tables) in
    let x2 = c.put_vault_line.ensures.step.steps clean x1.0.0 (sheets_of w) x1.0.1 in
    (kept_held s2 (write.Line c.args.line.now) (vault_sheets c.args.line.now after) w c.put_vault_line.result kept x2.0, kept_then s0 s1 s2 x1.1 x2.1)

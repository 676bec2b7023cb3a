use Rattle.std.proofs.Common.{subst}
use Rattle.sqlite.specs.Held.{state}
use Rattle.sql_schema.proofs.StepLemmas.{early, kept_then}
use Rattle.sql_schema.proofs.WorldLemmas.{tables_of}
use Rattle.bank_books.specs.declared.records.AccountRecord.{AccountRecord}
use Rattle.bank_books.specs.declared.row_write.RowWrite.TheVariants as write
use Rattle.book_kept.specs.Changes.{account_sheets}
use Rattle.book_kept.specs.Named.{IsFree}
use Rattle.book_kept.specs.Sheets.{account_no, sheets_of}
use Rattle.sql_writes.proofs.RequiredLemmas.{of_found}
use Rattle.sql_writes.proofs.KeptLemmas.{kept_read_back}
use Rattle.sql_writes.proofs.ThenLemmas.{moves_stopped}
use Rattle.sql_writes.proofs.book_writes.write_account.Goals as goal

pub returns-in_err-home-clause-moves : goal.returns-in_err-home-clause-moves
returns-in_err-home-clause-moves g c = moves_stopped _ c.from_residual.result c.from_residual.ensures.0 c.branch_row.ensures.step

pub returns-in_err-rows-clause-moves : goal.returns-in_err-rows-clause-moves
returns-in_err-rows-clause-moves g c = moves_stopped _ c.from_residual-in_err-rows.result c.from_residual-in_err-rows.ensures.0 c.branch_row.ensures.step

pub returns-clause-moves : goal.returns-clause-moves
returns-clause-moves g c clean inside w holds =
    let s0 = state g.S.Store c.args.tx.now.conn.now in
    let s1 = state g.S.Store c.branch_row.new.tx.conn.now in
    let s2 = state g.S.Store c.put_account.new.tx.conn.now in
    let clean1 = early s1 s2 _ c.put_account.ensures.step.survives clean in
    let tables = tables_of s0.now w holds in
    let rows = c.in_ok-rows.rows in
    let x1 = c.in_ok-home.ensures.step.steps clean1 inside (sheets_of w) tables in
    let x2 = c.put_account.ensures.step.steps clean x1.0.0 (sheets_of w) x1.0.1 in
    let is_free = λ (a : AccountRecord). IsFree account_no (sheets_of w).accounts (account_no a) in (
      kept_read_back s2 (write.Account c.args.account.now) (account_sheets rows) w c.put_account.result (is_free rows.account) (c.put_account.ensures.free clean x1.0.0 (sheets_of w) x1.0.1)
          (λ free. of_found c.with_account.result rows _ c.in_ok-rows.ensures c.with_account.ensures.kept w holds.world.keepable (c.in_ok-home.ensures.stated clean1 inside (sheets_of w) tables) (subst is_free (of_found c.with_account.result rows _ c.in_ok-rows.ensures c.with_account.ensures.begun) free))
          x2.0,
      kept_then s0 s1 s2 x1.1 x2.1,
    )

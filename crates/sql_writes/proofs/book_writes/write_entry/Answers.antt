use Rattle.sqlite.specs.Held.{state}
use Rattle.sql_schema.proofs.StepLemmas.{early, kept_then}
use Rattle.bank_books.specs.declared.row_write.RowWrite.TheVariants as write
use Rattle.book_kept.specs.Changes.{entry_sheets}
use Rattle.book_kept.specs.Sheets.{sheets_of}
use Rattle.sql_writes.proofs.RequiredLemmas.{of_found}
use Rattle.sql_writes.proofs.KeptLemmas.{kept_held}
use Rattle.sql_schema.proofs.WorldLemmas.{tables_of}
use Rattle.sql_writes.proofs.ThenLemmas.{moves_stopped}
use Rattle.sql_writes.proofs.book_writes.write_entry.Goals as goal

pub returns-in_err-named-clause-moves : goal.returns-in_err-named-clause-moves
returns-in_err-named-clause-moves g c = moves_stopped _ c.from_residual.result c.from_residual.ensures.0 c.rows_of_entry.ensures.step

pub returns-in_err-rows-clause-moves : goal.returns-in_err-rows-clause-moves
returns-in_err-rows-clause-moves g c = moves_stopped _ c.from_residual-in_err-rows.result c.from_residual-in_err-rows.ensures.0 c.rows_of_entry.ensures.step

pub returns-clause-moves : goal.returns-clause-moves
returns-clause-moves g c clean inside w holds =
    let s0 = state g.S.Store c.args.tx.now.conn.now in
    let s1 = state g.S.Store c.rows_of_entry.new.tx.conn.now in
    let s2 = state g.S.Store c.put_entry.new.tx.conn.now in
    let clean1 = early s1 s2 _ c.put_entry.ensures.step.survives clean in
    let tables = tables_of s0.now w holds in
    let rows = c.in_ok-rows.rows in
    let x1 = c.in_ok-named.ensures.step.steps clean1 inside (sheets_of w) tables in
    let kept = of_found c.with_entry.result rows _ c.in_ok-rows.ensures c.with_entry.ensures.kept w holds.world.keepable (c.in_ok-named.ensures.stated clean1 inside w holds (c.nothing.ensures w)) in
    let x2 = c.put_entry.ensures.step.steps clean x1.0.0 (sheets_of w) x1.0.1 in
    (kept_held s2 (write.Entry c.args.entry.now) (entry_sheets rows) w c.put_entry.result kept x2.0, kept_then s0 s1 s2 x1.1 x2.1)

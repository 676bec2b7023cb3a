use Rattle.std.proofs.Common.{Ok, subst}
use Rattle.sqlite.specs.Held.{state}
use Rattle.sqlite.specs.State.{Executes}
use Rattle.keyed_rows.specs.Ordered.{add_row}
use Rattle.book_kept.specs.Sheets.{entry_no}
use Rattle.sql_schema.proofs.StepChains.{stepped}
use Rattle.sql_schema.proofs.StepLemmas.{write_steps}
use Rattle.sql_books.specs.Texts.{add_entry_text}
use Rattle.sql_books.proofs.EntryLemmas.{adds_entry}
use Rattle.sql_books.proofs.entries.add_entry.Goals as goal

pub returns-clause-step : goal.returns-clause-step
returns-clause-step g c =
    let old = state g.S.Store c.args.tx.now.conn.now in
    let new = state g.S.Store c.insert_entry.new.tx.conn.now in
    stepped c.insert_entry.ensures.frame (λ clean inside s holds.
    write_steps add_entry_text _ old new (Ok c.in_ok-insert_entry.field-0) (record s { entries = add_row entry_no c.args.entry.now s.entries }) (c.in_ok-insert_entry.ensures.runs clean inside)
    (λ count h. (adds_entry old new s c.args.entry.now count c.in_ok-cells.ensures.fits holds (subst (λ ps. Executes add_entry_text ps old new (Ok count)) c.in_ok-cells.ensures.cells h)).0))

pub returns-clause-free : goal.returns-clause-free
returns-clause-free g c clean inside s holds =
    let old = state g.S.Store c.args.tx.now.conn.now in
    let new = state g.S.Store c.insert_entry.new.tx.conn.now in
    (adds_entry old new s c.args.entry.now c.in_ok-insert_entry.field-0 c.in_ok-cells.ensures.fits holds (subst (λ ps. Executes add_entry_text ps old new (Ok c.in_ok-insert_entry.field-0)) c.in_ok-cells.ensures.cells (c.in_ok-insert_entry.ensures.runs clean inside).0)).1

use Rattle.std.proofs.Common.{Ok, subst}
use Rattle.sqlite.specs.Held.{state}
use Rattle.sqlite.specs.State.{Executes}
use Rattle.keyed_rows.specs.Ordered.{add_row}
use Rattle.book_kept.specs.Sheets.{teller_no}
use Rattle.sql_schema.proofs.StepChains.{stepped}
use Rattle.sql_schema.proofs.StepLemmas.{write_steps}
use Rattle.sql_books.specs.Texts.{add_teller_text}
use Rattle.sql_books.proofs.TellerLemmas.{adds_teller}
use Rattle.sql_books.proofs.tellers.add_teller.Goals as goal

pub returns-clause-step : goal.returns-clause-step
returns-clause-step g c =
    let old = state g.S.Store c.args.tx.now.conn.now in
    let new = state g.S.Store c.insert_teller.new.tx.conn.now in
    stepped c.insert_teller.ensures.frame (λ clean inside s holds.
    write_steps add_teller_text _ old new (Ok c.in_ok-insert_teller.field-0) (record s { tellers = add_row teller_no c.args.teller.now s.tellers }) (c.in_ok-insert_teller.ensures.runs clean inside)
    (λ count h. (adds_teller old new s c.args.teller.now count holds (subst (λ ps. Executes add_teller_text ps old new (Ok count)) c.in_ok-cells.ensures h)).0))

pub returns-clause-free : goal.returns-clause-free
returns-clause-free g c clean inside s holds =
    let old = state g.S.Store c.args.tx.now.conn.now in
    let new = state g.S.Store c.insert_teller.new.tx.conn.now in
    (adds_teller old new s c.args.teller.now c.in_ok-insert_teller.field-0 holds (subst (λ ps. Executes add_teller_text ps old new (Ok c.in_ok-insert_teller.field-0)) c.in_ok-cells.ensures (c.in_ok-insert_teller.ensures.runs clean inside).0)).1

use Rattle.std.proofs.Common.{Ok, subst}
use Rattle.sqlite.specs.Held.{state}
use Rattle.sqlite.specs.State.{Executes}
use Rattle.book_kept.specs.Sheets.{teller_no, set_row}
use Rattle.sql_schema.proofs.StepChains.{stepped}
use Rattle.sql_schema.proofs.StepLemmas.{write_steps}
use Rattle.sql_books.specs.Texts.{set_teller_text}
use Rattle.sql_books.proofs.TellerLemmas.{sets_teller}
use Rattle.sql_books.proofs.tellers.set_teller.Goals as goal

pub returns : goal.returns
returns g c =
    let old = state g.S.Store c.args.tx.now.conn.now in
    let new = state g.S.Store c.update_teller.new.tx.conn.now in
    record {
      step = stepped c.update_teller.ensures.frame (λ clean inside s holds.
          write_steps set_teller_text _ old new (Ok c.in_ok-update_teller.field-0) (record s { tellers = set_row teller_no c.args.teller.now s.tellers }) (c.in_ok-update_teller.ensures.runs clean inside)
          (λ count h. sets_teller old new s c.args.teller.now count holds (subst (λ ps. Executes set_teller_text ps old new (Ok count)) c.in_ok-cells.ensures h)));
    }

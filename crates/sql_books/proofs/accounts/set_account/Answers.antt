use Rattle.std.proofs.Common.{Ok, subst}
use Rattle.sqlite.specs.Held.{state}
use Rattle.sqlite.specs.State.{Executes}
use Rattle.book_kept.specs.Sheets.{account_no, set_row}
use Rattle.sql_schema.proofs.StepChains.{stepped}
use Rattle.sql_schema.proofs.StepLemmas.{write_steps}
use Rattle.sql_books.specs.Texts.{set_account_text}
use Rattle.sql_books.proofs.AccountLemmas.{sets_account}
use Rattle.sql_books.proofs.accounts.set_account.Goals as goal

pub returns : goal.returns
returns g c =
    let old = state g.S.Store c.args.tx.now.conn.now in
    let new = state g.S.Store c.update_account.new.tx.conn.now in
    record {
      step = stepped c.update_account.ensures.frame (λ clean inside s holds.
          write_steps set_account_text _ old new (Ok c.in_ok-update_account.field-0) (record s { accounts = set_row account_no c.args.account.now s.accounts }) (c.in_ok-update_account.ensures.runs clean inside)
          (λ count h. sets_account old new s c.args.account.now count holds (subst (λ ps. Executes set_account_text ps old new (Ok count)) c.in_ok-cells.ensures h)));
    }

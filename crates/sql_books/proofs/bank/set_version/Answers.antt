use Rattle.std.proofs.Common.{Ok, subst}
use Rattle.sqlite.specs.Held.{state}
use Rattle.sqlite.specs.State.{Executes}
use Rattle.sql_schema.proofs.StepChains.{stepped}
use Rattle.sql_schema.proofs.StepLemmas.{write_steps}
use Rattle.sql_books.specs.Texts.{set_version_text}
use Rattle.sql_books.proofs.BankLemmas.{sets_version}
use Rattle.sql_books.proofs.bank.set_version.Goals as goal

pub returns : goal.returns
returns g c =
    let old = state g.S.Store c.args.tx.now.conn.now in
    let new = state g.S.Store c.update_version.new.tx.conn.now in
    record {
      step = stepped c.update_version.ensures.frame (λ clean inside s holds.
          write_steps set_version_text _ old new (Ok c.in_ok-update_version.field-0) (record s { version = c.args.version }) (c.in_ok-update_version.ensures.runs clean inside)
          (λ count h. sets_version old new s c.args.version count holds (subst (λ ps. Executes set_version_text ps old new (Ok count)) c.in_ok-cells.ensures.cells h)));
    }

use Rattle.std.proofs.Common.{Ok, ◌∙◌, ap, subst}
use Rattle.sqlite.specs.Held.{state}
use Rattle.sqlite.specs.State.{Executes}
use Rattle.book_kept.specs.Sheets.{set_row, user_no}
use Rattle.sql_schema.proofs.StepChains.{stepped}
use Rattle.sql_schema.proofs.StepLemmas.{write_steps}
use Rattle.sql_policy.specs.Given.{given_user}
use Rattle.sql_policy.specs.Texts.{set_user_text}
use Rattle.sql_policy.proofs.UserLemmas.{sets_user}
use Rattle.sql_policy.proofs.users.set_user.Goals as goal

pub returns : goal.returns
returns g c =
    let old = state g.S.Store c.args.tx.now.conn.now in
    let new = state g.S.Store c.update_user.new.tx.conn.now in
    let given = ap (given_user c.in_ok-cells.cells) c.as_str.ensures ∙ c.in_ok-cells.ensures.cells in
    record {
      step = stepped c.update_user.ensures.frame (λ clean inside s holds.
          write_steps set_user_text _ old new (Ok c.in_ok-update_user.field-0) (record s { users = set_row user_no c.args.kept.now s.users }) (c.in_ok-update_user.ensures.runs clean inside)
          (λ count h. sets_user old new s c.args.kept.now count holds (subst (λ ps. Executes set_user_text ps old new (Ok count)) given h)));
    }

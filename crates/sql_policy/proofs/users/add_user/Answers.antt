use Rattle.std.proofs.Common.{Ok, ◌∙◌, ap, subst}
use Rattle.sqlite.specs.Held.{state}
use Rattle.sqlite.specs.State.{Executes}
use Rattle.keyed_rows.specs.Ordered.{add_row}
use Rattle.book_kept.specs.Sheets.{user_no}
use Rattle.sql_schema.proofs.StepChains.{stepped}
use Rattle.sql_schema.proofs.StepLemmas.{write_steps}
use Rattle.sql_policy.specs.Given.{given_user}
use Rattle.sql_policy.specs.Texts.{add_user_text}
use Rattle.sql_policy.proofs.UserLemmas.{adds_user}
use Rattle.sql_policy.proofs.users.add_user.Goals as goal

pub returns-clause-step : goal.returns-clause-step
returns-clause-step g c =
    let old = state g.S.Store c.args.tx.now.conn.now in
    let new = state g.S.Store c.insert_user.new.tx.conn.now in
    let given = ap (given_user c.in_ok-cells.cells) c.as_str.ensures ∙ c.in_ok-cells.ensures.cells in
    stepped c.insert_user.ensures.frame (λ clean inside s holds.
    write_steps add_user_text _ old new (Ok c.in_ok-insert_user.field-0) (record s { users = add_row user_no c.args.kept.now s.users }) (c.in_ok-insert_user.ensures.runs clean inside)
    (λ count h. (adds_user old new s c.args.kept.now count holds (subst (λ ps. Executes add_user_text ps old new (Ok count)) given h)).0))

pub returns-clause-free : goal.returns-clause-free
returns-clause-free g c clean inside s holds =
    let old = state g.S.Store c.args.tx.now.conn.now in
    let new = state g.S.Store c.insert_user.new.tx.conn.now in
    let given = ap (given_user c.in_ok-cells.cells) c.as_str.ensures ∙ c.in_ok-cells.ensures.cells in
    (adds_user old new s c.args.kept.now c.in_ok-insert_user.field-0 holds (subst (λ ps. Executes add_user_text ps old new (Ok c.in_ok-insert_user.field-0)) given (c.in_ok-insert_user.ensures.runs clean inside).0)).1

use Rattle.std.proofs.Common.{◌≡◌, ◌∙◌, ◌+◌, ap, sym, take}
use Rattle.std.proofs.lemmas.List.{take_all, take_more}
use Rattle.sql_schema.proofs.StepChains.{stopped, then_step}
use Rattle.sql_create.specs.Filled.{with_all}
use Rattle.sql_create.proofs.GoesLemmas.{step_as, with_last}
use Rattle.sql_create.proofs.sheet_row.add_all.Goals as goal

pub loop-row-preserved : goal.loop-row-preserved
loop-row-preserved g c =
    let one = g.R.SheetRow.with_it in
    let so_far = take c.loop-row.row-index c.args.rows.now in
    let next : (λ s. one c.row-item.result (with_all one so_far s)) ≡ with_all one (take (c.loop-row.row-index + 1) c.args.rows.now) =
    λ i s. (ap (λ r. one r (with_all one so_far s)) c.row-item.is ∙ sym (ap (λ p. with_all one p s) (take_more c.args.rows.now c.loop-row.row-index c.row-item.result c.loop-row-test.true) ∙ with_last one so_far _ s)) i in
    step_as next (then_step c.loop-row.invariant c.in_ok-add.ensures.step)

pub returns-in_err-add : goal.returns-in_err-add
returns-in_err-add g c = record { step = stopped c.from_residual.ensures.0 (then_step c.loop-row.invariant c.add.ensures.step) }

pub returns : goal.returns
returns g c = record { step = step_as (ap (with_all g.R.SheetRow.with_it) (take_all c.loop-row.row-index c.args.rows.now c.loop-row-test.false)) c.loop-row.invariant }

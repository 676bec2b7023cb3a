use Rattle.std.proofs.Common.{ap}
use Rattle.sql_schema.proofs.StepChains.{stopped, then_step}
use Rattle.sql_create.specs.Filled.{with_books, with_slips}
use Rattle.sql_create.proofs.GoesLemmas.{step_as}
use Rattle.sql_create.proofs.filling.fill.Goals as goal

pub returns-in_err-add_policy : goal.returns-in_err-add_policy
returns-in_err-add_policy g c = record { step = stopped c.from_residual.ensures.0 c.add_policy.ensures.step }

pub returns-in_err-add_books : goal.returns-in_err-add_books
returns-in_err-add_books g c = record { step = stopped c.from_residual-in_err-add_books.ensures.0 (then_step c.in_ok-add_policy.ensures.step c.add_books.ensures.step) }

pub returns-in_err-add_history : goal.returns-in_err-add_history
returns-in_err-add_history g c = record { step = stopped c.from_residual-in_err-add_history.ensures.0 (then_step (then_step c.in_ok-add_policy.ensures.step c.in_ok-add_books.ensures.step) c.add_history.ensures.step) }

pub returns : goal.returns
returns g c =
    let books = step_as (ap with_books c.requires) c.in_ok-add_books.ensures.step in
    record { step = then_step (then_step (then_step c.in_ok-add_policy.ensures.step books) c.in_ok-add_history.ensures.step) (step_as (ap (with_slips c.args.world.now) c.requires) c.add_slips.ensures.step) }

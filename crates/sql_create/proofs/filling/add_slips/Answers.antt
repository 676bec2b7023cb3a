use Rattle.std.proofs.Common.{ap}
use Rattle.sql_schema.proofs.StepChains.{stopped, then_step}
use Rattle.sql_create.specs.Filled.{with_all, with_slip, with_slip_count}
use Rattle.sql_create.proofs.GoesLemmas.{step_as}
use Rattle.sql_create.proofs.filling.add_slips.Goals as goal

pub returns-in_err-add_all : goal.returns-in_err-add_all
returns-in_err-add_all g c = record { step = stopped c.from_residual.ensures.0 c.add_all.ensures.step }

pub returns : goal.returns
returns g c = record { step = then_step (step_as (ap (with_all with_slip) c.slips.ensures.value) c.in_ok-add_all.ensures.step) (step_as (ap (with_all with_slip_count) c.users.ensures) c.add_all-2.ensures.step) }

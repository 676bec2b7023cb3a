use Rattle.std.proofs.Common.{ap}
use Rattle.sql_schema.proofs.StepChains.{stopped, then_step}
use Rattle.sql_create.specs.Filled.{with_all, with_line, with_proof, with_release}
use Rattle.sql_create.proofs.GoesLemmas.{step_as}
use Rattle.sql_create.proofs.filling.add_history.Goals as goal

pub returns-in_err-add_all : goal.returns-in_err-add_all
returns-in_err-add_all g c = record { step = stopped c.from_residual.ensures.0 c.add_all.ensures.step }

pub returns-in_err-add_all-2 : goal.returns-in_err-add_all-2
returns-in_err-add_all-2 g c = record { step = stopped c.from_residual-in_err-add_all-2.ensures.0 (then_step c.in_ok-add_all.ensures.step c.add_all-2.ensures.step) }

pub returns : goal.returns
returns g c = record { step = then_step (then_step (step_as (ap (with_all with_line) c.lines.ensures.value) c.in_ok-add_all.ensures.step) (step_as (ap (with_all with_proof) c.proofs.ensures.value) c.in_ok-add_all-2.ensures.step)) (step_as (ap (with_all with_release) c.releases.ensures.value) c.add_all-3.ensures.step) }

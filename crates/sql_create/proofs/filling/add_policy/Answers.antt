use Rattle.std.proofs.Common.{◌∙◌, ap}
use Rattle.bank_policy.specs.Policy.{PolicyLists}
use Rattle.sql_schema.proofs.StepChains.{stopped, then_step}
use Rattle.sql_create.specs.Filled.{with_all, with_rights, with_set}
use Rattle.sql_create.proofs.GoesLemmas.{step_as}
use Rattle.sql_create.proofs.filling.add_policy.Goals as goal

pub returns-in_err-add_users : goal.returns-in_err-add_users
returns-in_err-add_users g c = record { step = stopped c.from_residual.ensures.0 c.add_users.ensures.step }

pub returns-in_err-add_all : goal.returns-in_err-add_all
returns-in_err-add_all g c = record { step = stopped c.from_residual-in_err-add_all.ensures.0 (then_step c.in_ok-add_users.ensures.step c.add_all.ensures.step) }

pub returns : goal.returns
returns g c =
    let sets = step_as (ap (with_all with_set) (c.sets.ensures.value ∙ ap (λ (p : PolicyLists). p.sets) c.policy-policy.ensures)) c.in_ok-add_all.ensures.step in
    record { step = then_step (then_step c.in_ok-add_users.ensures.step sets) (step_as (ap with_rights c.policy-policy.ensures) c.add_rights.ensures.step) }

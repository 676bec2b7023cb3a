use Rattle.sqlite.specs.Held.{state}
use Rattle.sql_schema.proofs.StepLemmas.{early, none_ok, ok_weaker}
use Rattle.sql_schema.proofs.StepChains.{stopped, then_step}
use Rattle.sql_writes.proofs.policy_writes.put_user.Goals as goal

pub returns-in_err-add_user-clause-step : goal.returns-in_err-add_user-clause-step
returns-in_err-add_user-clause-step g c = stopped c.from_residual.ensures.0 c.add_user.ensures.step

pub returns-clause-step : goal.returns-clause-step
returns-clause-step g c = then_step c.in_ok-add_user.ensures.step c.add_slip_count.ensures.step

pub returns-in_err-add_user-clause-free : goal.returns-in_err-add_user-clause-free
returns-in_err-add_user-clause-free g c clean inside s holds = none_ok c.from_residual.result _ c.from_residual.ensures.0

pub returns-clause-free : goal.returns-clause-free
returns-clause-free g c clean inside s holds =
    let s1 = state g.S.Store c.add_user.new.tx.conn.now in
    let s2 = state g.S.Store c.add_slip_count.new.tx.conn.now in
    let clean1 = early s1 s2 _ c.add_slip_count.ensures.step.survives clean in
    let x1 = c.in_ok-add_user.ensures.step.steps clean1 inside s holds in
    ok_weaker c.add_slip_count.result _ _ (λ _. c.in_ok-add_user.ensures.free clean1 inside s holds) (c.add_slip_count.ensures.step.steps clean x1.0.0 _ x1.0.1).0

use Rattle.sqlite.specs.Held.{state}
use Rattle.sql_schema.proofs.StepLemmas.{early, none_ok, ok_weaker}
use Rattle.sql_schema.proofs.StepChains.{stopped, then_step}
use Rattle.sql_writes.proofs.book_writes.put_slip.Goals as goal

pub returns-in_err-add_slip-clause-step : goal.returns-in_err-add_slip-clause-step
returns-in_err-add_slip-clause-step g c = stopped c.from_residual.ensures.0 c.add_slip.ensures.step

pub returns-clause-step : goal.returns-clause-step
returns-clause-step g c = then_step c.in_ok-add_slip.ensures.step c.set_slip_count.ensures.step

pub returns-in_err-add_slip-clause-free : goal.returns-in_err-add_slip-clause-free
returns-in_err-add_slip-clause-free g c clean inside s holds = none_ok c.from_residual.result _ c.from_residual.ensures.0

pub returns-clause-free : goal.returns-clause-free
returns-clause-free g c clean inside s holds =
    let s1 = state g.S.Store c.add_slip.new.tx.conn.now in
    let s2 = state g.S.Store c.set_slip_count.new.tx.conn.now in
    let clean1 = early s1 s2 _ c.set_slip_count.ensures.step.survives clean in
    let x1 = c.in_ok-add_slip.ensures.step.steps clean1 inside s holds in
    ok_weaker c.set_slip_count.result _ _ (λ _. c.in_ok-add_slip.ensures.free clean1 inside s holds) (c.set_slip_count.ensures.step.steps clean x1.0.0 _ x1.0.1).0

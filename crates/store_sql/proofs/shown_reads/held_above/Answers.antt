use Rattle.std.proofs.Common.{◌∙◌, sym}
use Rattle.sqlite.specs.Held.{state}
use Rattle.sql_schema.specs.Held.Sheet.{accounts as in_accounts}
use Rattle.sql_schema.proofs.StepChains.{answered, stopped, then_step}
use Rattle.sql_schema.proofs.StepLemmas.{early}
use Rattle.store_sql.proofs.LeastLemmas.{next_so_far}
use Rattle.store_sql.proofs.ShownLemmas.{all_shown, none_shown, one_shown}
use Rattle.store_sql.proofs.shown_reads.held_above.Goals as goal

pub loop-place-preserved : goal.loop-place-preserved
loop-place-preserved g c = next_so_far c.loop-place.invariant c.in_ok-row.ensures.step c.least_of.ensures.open
    (λ clean inside s holds was. one_shown s.accounts c.args.held.now c.loop-place.last c.loop-place.place _ c.in-Some.row c.loop-place.rows.items _ _ (holds.rows in_accounts).ordered c.loop-place-test.true
    (sym c.in-Some.is ∙ c.in_ok-row.ensures.found clean inside s holds) was c.in_ok-push-in-Some.ensures.items)

pub returns-in_err-row-clause-step : goal.returns-in_err-row-clause-step
returns-in_err-row-clause-step g c = stopped c.from_residual.ensures.0 (then_step c.loop-place.invariant.step c.least_of.ensures.step)

pub returns-in_err-push-in-Some-clause-step : goal.returns-in_err-push-in-Some-clause-step
returns-in_err-push-in-Some-clause-step g c = stopped c.from_residual-in_err-push-in-Some.ensures.0 (then_step c.loop-place.invariant.step c.least_of.ensures.step)

pub returns-in-None-clause-found : goal.returns-in-None-clause-found
returns-in-None-clause-found g c clean inside s holds =
    let before = early (state g.S.Store c.loop-place.tx.conn.now) (state g.S.Store c.least_of.new.tx.conn.now) _ c.least_of.ensures.step.survives clean in
    let was = c.loop-place.invariant.step.steps before inside s holds in
    none_shown s.accounts c.args.held.now c.loop-place.last c.loop-place.place _ c.loop-place.rows.items _ (sym c.in-None.is ∙ c.in_ok-row.ensures.found clean was.0.0 s was.0.1) (c.loop-place.invariant.found before inside s holds)

pub returns-in-None-clause-step : goal.returns-in-None-clause-step
returns-in-None-clause-step g c = answered (then_step c.loop-place.invariant.step c.in_ok-row.ensures.step) _

pub returns-clause-step : goal.returns-clause-step
returns-clause-step g c = answered c.loop-place.invariant.step _

pub returns-clause-found : goal.returns-clause-found
returns-clause-found g c clean inside s holds =
    all_shown s.accounts c.args.held.now c.loop-place.last c.loop-place.place c.args.count c.loop-place.rows.items _ c.loop-place-test.false (c.loop-place.invariant.found clean inside s holds)

use Rattle.std.proofs.Common.{◌∙◌, sym, arith}
use Rattle.sql_schema.proofs.StepChains.{answered, read_step, stopped, then_step}
use Rattle.sql_schema.proofs.StepLemmas.{none_ok}
use Rattle.sql_books.proofs.TurnLemmas.{before_read, then_open, turn_added, turn_missing}
use Rattle.sql_books.proofs.turns.entries_from.Goals as goal

pub loop-turn-preserved : goal.loop-turn-preserved
loop-turn-preserved g c = record {
  step = answered (then_step c.loop-turn.invariant.step (read_step c.in_ok-row.ensures.reads)) _;
  listed = λ clean inside s holds.
      let before = before_read c.loop-turn.invariant.step c.entry_of_turn.ensures.reads clean inside s holds in
      turn_added s.entries c.args.account c.loop-turn.turn _ c.in-Some.row c.loop-turn.rows.items _ _ c.loop-turn-test.true (sym c.in-Some.is ∙ c.in_ok-row.ensures.found clean s before.1) (c.loop-turn.invariant.listed before.0 inside s holds) c.in_ok-push-in-Some.ensures.items;
  opened = λ clean. let it = then_open c.loop-turn.invariant.opened c.in_ok-row.ensures.reads clean in (λ _. it.0, it.1);
}

pub returns-in_err-row-clause-step : goal.returns-in_err-row-clause-step
returns-in_err-row-clause-step g c = stopped c.from_residual.ensures.0 (then_step c.loop-turn.invariant.step (read_step c.entry_of_turn.ensures.reads))

pub returns-in_err-push-in-Some-clause-step : goal.returns-in_err-push-in-Some-clause-step
returns-in_err-push-in-Some-clause-step g c = stopped c.from_residual-in_err-push-in-Some.ensures.0 (then_step c.loop-turn.invariant.step (read_step c.entry_of_turn.ensures.reads))

pub returns-in-None-clause-step : goal.returns-in-None-clause-step
returns-in-None-clause-step g c = answered (then_step c.loop-turn.invariant.step (read_step c.in_ok-row.ensures.reads)) _

pub returns-in-None-clause-listed : goal.returns-in-None-clause-listed
returns-in-None-clause-listed g c clean inside s holds =
    let before = before_read c.loop-turn.invariant.step c.entry_of_turn.ensures.reads clean inside s holds in
    turn_missing s.entries c.args.account c.loop-turn.turn _ c.loop-turn.rows.items _ c.loop-turn-test.true (sym c.in-None.is ∙ c.in_ok-row.ensures.found clean s before.1) (c.loop-turn.invariant.listed before.0 inside s holds)

pub returns-in_err-row-clause-open : goal.returns-in_err-row-clause-open
returns-in_err-row-clause-open g c clean = (none_ok c.from_residual.result _ c.from_residual.ensures.0, (then_open c.loop-turn.invariant.opened c.entry_of_turn.ensures.reads clean).1)

pub returns-in_err-push-in-Some-clause-open : goal.returns-in_err-push-in-Some-clause-open
returns-in_err-push-in-Some-clause-open g c clean =
    (none_ok c.from_residual-in_err-push-in-Some.result _ c.from_residual-in_err-push-in-Some.ensures.0, (then_open c.loop-turn.invariant.opened c.entry_of_turn.ensures.reads clean).1)

pub returns-in-None-clause-open : goal.returns-in-None-clause-open
returns-in-None-clause-open g c clean = let it = then_open c.loop-turn.invariant.opened c.in_ok-row.ensures.reads clean in (λ _. it.0, it.1)

pub returns-clause-open : goal.returns-clause-open
returns-clause-open g c clean =
    let before = c.loop-turn.invariant.opened clean in
    (λ some. before.0 (omega arith), before.1)

use Rattle.std.proofs.Common.{Ok}
use Rattle.std.proofs.lemmas.List.{get_or_default}
use Rattle.sqlite.specs.Held.{state}
use Rattle.sql_schema.proofs.StepChains.{answered, of_read, read_step, stopped, then_frame, then_step}
use Rattle.sql_policy.specs.HeldRows.{held_in}
use Rattle.sql_policy.proofs.SoFarLemmas.{every_read, one_read, so_far}
use Rattle.sql_policy.proofs.held.held_rows.Goals as goal

pub loop-triple-preserved : goal.loop-triple-preserved
loop-triple-preserved g c =
    let first = state g.S.Store c.args.tx.now.conn.now in
    let mid = state g.S.Store c.loop-triple.tx.conn.now in
    let last = state g.S.Store c.held_row.new.tx.conn.now in
    record {
      frame = then_frame c.loop-triple.invariant.frame (of_read c.held_row.ensures.reads);
      read = one_read first mid last held_in c.args.triples.now c.loop-triple.triple-index _ c.in_ok-held_row.field-0 c.loop-triple.rows.items c.push.new.self.items c.loop-triple-test.true
          (get_or_default c.args.triples.now c.loop-triple.triple-index _ _ c.loop-triple-test.true) c.in_ok-push.ensures.items c.held_row.ensures.reads.survives c.loop-triple.invariant.read c.in_ok-held_row.ensures.found c.in_ok-held_row.ensures.reads.stays;
    }

pub returns-clause-found : goal.returns-clause-found
returns-clause-found g c clean inside s holds =
    every_read (held_in s) c.args.triples.now c.loop-triple.triple-index c.loop-triple.rows.items c.loop-triple-test.false (c.loop-triple.invariant.read clean inside s holds).0.2

pub returns-clause-step : goal.returns-clause-step
returns-clause-step g c = answered (so_far c.loop-triple.invariant.frame c.loop-triple.invariant.read) (Ok c.loop-triple.rows)

pub returns-in_err-held_row-clause-step : goal.returns-in_err-held_row-clause-step
returns-in_err-held_row-clause-step g c = stopped c.from_residual.ensures.0 (then_step (so_far c.loop-triple.invariant.frame c.loop-triple.invariant.read) (read_step c.held_row.ensures.reads))

pub returns-in_err-push-clause-step : goal.returns-in_err-push-clause-step
returns-in_err-push-clause-step g c = stopped c.from_residual-in_err-push.ensures.0 (then_step (so_far c.loop-triple.invariant.frame c.loop-triple.invariant.read) (read_step c.held_row.ensures.reads))

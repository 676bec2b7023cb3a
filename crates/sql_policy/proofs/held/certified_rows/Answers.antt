use Rattle.std.proofs.Common.{Ok}
use Rattle.std.proofs.lemmas.List.{get_or_default}
use Rattle.sqlite.specs.Held.{state}
use Rattle.sql_schema.proofs.StepChains.{answered, of_read, read_step, stopped, then_frame, then_step}
use Rattle.sql_policy.specs.HeldRows.{certified_in}
use Rattle.sql_policy.proofs.SoFarLemmas.{every_read, one_read, so_far}
use Rattle.sql_policy.proofs.held.certified_rows.Goals as goal

pub loop-relation-preserved : goal.loop-relation-preserved
loop-relation-preserved g c =
    let first = state g.S.Store c.args.tx.now.conn.now in
    let mid = state g.S.Store c.loop-relation.tx.conn.now in
    let last = state g.S.Store c.certified_row.new.tx.conn.now in
    record {
      frame = then_frame c.loop-relation.invariant.frame (of_read c.certified_row.ensures.reads);
      read = one_read first mid last certified_in c.args.relations.now c.loop-relation.relation-index _ c.in_ok-certified_row.field-0 c.loop-relation.rows.items c.push.new.self.items c.loop-relation-test.true
          (get_or_default c.args.relations.now c.loop-relation.relation-index _ _ c.loop-relation-test.true) c.in_ok-push.ensures.items c.certified_row.ensures.reads.survives c.loop-relation.invariant.read c.in_ok-certified_row.ensures.found c.in_ok-certified_row.ensures.reads.stays;
    }

pub returns-clause-found : goal.returns-clause-found
returns-clause-found g c clean inside s holds =
    every_read (certified_in s) c.args.relations.now c.loop-relation.relation-index c.loop-relation.rows.items c.loop-relation-test.false (c.loop-relation.invariant.read clean inside s holds).0.2

pub returns-clause-step : goal.returns-clause-step
returns-clause-step g c = answered (so_far c.loop-relation.invariant.frame c.loop-relation.invariant.read) (Ok c.loop-relation.rows)

pub returns-in_err-certified_row-clause-step : goal.returns-in_err-certified_row-clause-step
returns-in_err-certified_row-clause-step g c = stopped c.from_residual.ensures.0 (then_step (so_far c.loop-relation.invariant.frame c.loop-relation.invariant.read) (read_step c.certified_row.ensures.reads))

pub returns-in_err-push-clause-step : goal.returns-in_err-push-clause-step
returns-in_err-push-clause-step g c = stopped c.from_residual-in_err-push.ensures.0 (then_step (so_far c.loop-relation.invariant.frame c.loop-relation.invariant.read) (read_step c.certified_row.ensures.reads))

use Rattle.sqlite.specs.Held.{state}
use Rattle.sql_writes.proofs.PlaceLemmas.{set_moves}
use Rattle.sql_writes.proofs.ThenLemmas.{moves_stopped}
use Rattle.sql_writes.proofs.policy_writes.write_set.Goals as goal

pub returns-in_err-add_set-clause-moves : goal.returns-in_err-add_set-clause-moves
returns-in_err-add_set-clause-moves g c = moves_stopped _ c.from_residual.result c.from_residual.ensures.0 c.add_set.ensures.step

pub returns-clause-moves : goal.returns-clause-moves
returns-clause-moves g c =
    let old = state g.S.Store c.args.tx.now.conn.now in
    let mid = state g.S.Store c.add_set.new.tx.conn.now in
    let new = state g.S.Store c.write_members.new.tx.conn.now in
    set_moves old mid new c.args.row.now c.set.result c.write_members.result c.set.ensures c.in_ok-add_set.ensures.step.steps c.in_ok-add_set.ensures.free c.write_members.ensures.step.survives c.write_members.ensures.step.steps
    c.write_members.ensures.few

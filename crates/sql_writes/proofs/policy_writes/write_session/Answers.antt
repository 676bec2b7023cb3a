use Rattle.std.proofs.Common.{refl}
use Rattle.sqlite.specs.Held.{state}
use Rattle.bank_policy.specs.PolicyWrites.{in_session}
use Rattle.sql_writes.proofs.KeptLemmas.{session_moves}
use Rattle.sql_writes.proofs.ThenLemmas.{moves_stopped, user_changes}
use Rattle.sql_writes.proofs.policy_writes.write_session.Goals as goal

pub returns-in_err-kept-clause-moves : goal.returns-in_err-kept-clause-moves
returns-in_err-kept-clause-moves g c = moves_stopped _ c.from_residual.result c.from_residual.ensures.0 c.user_row.ensures.step

pub returns-clause-moves : goal.returns-clause-moves
returns-clause-moves g c =
    let old = state g.S.Store c.args.tx.now.conn.now in
    let mid = state g.S.Store c.user_row.new.tx.conn.now in
    let new = state g.S.Store c.set_user.new.tx.conn.now in
    let kept = c.in_ok-kept.kept in
    let steps = user_changes old mid new c.args.session.now.user (λ u. record u { row = in_session c.args.session.now u.row }) kept (record kept { row = in_session c.args.session.now kept.row }) c.set_user.result refl refl c.in_ok-kept.ensures.found c.in_ok-kept.ensures.step.steps c.set_user.ensures.step.survives c.set_user.ensures.step.steps in
    session_moves old new c.args.session.now c.set_user.result steps

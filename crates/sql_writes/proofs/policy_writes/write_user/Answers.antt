use Rattle.std.proofs.Common.{subst}
use Rattle.sqlite.specs.Held.{state}
use Rattle.keyed_rows.specs.Ordered.{add_row}
use Rattle.bank_policy.specs.declared.policy_write.PolicyWrite.TheVariants as policy
use Rattle.book_kept.specs.Named.{IsFree}
use Rattle.book_kept.specs.Sheets.{slip_no, user_no}
use Rattle.sql_schema.specs.Steps.{Steps, Tells}
use Rattle.sql_writes.proofs.KeptLemmas.{policy_moves}
use Rattle.sql_writes.proofs.policy_writes.write_user.Goals as goal

pub returns-clause-moves : goal.returns-clause-moves
returns-clause-moves g c =
    let old = state g.S.Store c.args.tx.now.conn.now in
    let new = state g.S.Store c.put_user.new.tx.conn.now in
    policy_moves old new (policy.User c.args.user.now) c.put_user.result
    (subst (λ kept. Steps old new (λ s. record s { users = add_row user_no kept s.users; slip_counts = add_row slip_no (record { user = kept.row.user; slips = 0 }) s.slip_counts }) c.put_user.result) c.in_ok-kept.ensures c.put_user.ensures.step.steps)
    (subst (λ kept. Tells old new (λ s. IsFree user_no s.users (user_no kept)) c.put_user.result) c.in_ok-kept.ensures c.put_user.ensures.free)

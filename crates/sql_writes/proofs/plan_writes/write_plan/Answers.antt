use Rattle.std.proofs.Common.{◌∙◌, IsTrue, List, subst, sym}
use Rattle.sqlite.specs.Held.{state}
use Rattle.bank_books.specs.Effects.{all_written}
use Rattle.bank_books.specs.Version.{has_version_for}
use Rattle.bank_books.specs.declared.row_write.RowWrite.{RowWrite}
use Rattle.sql_schema.specs.Held.{HoldsWorld}
use Rattle.sql_schema.proofs.StepLemmas.{early, kept_then, ok_weaker}
use Rattle.sql_writes.proofs.KnownLemmas.{known_applied}
use Rattle.sql_writes.proofs.PlanLemmas.{applied_raised, ok_both, room_before, room_unasked}
use Rattle.sql_writes.proofs.plan_writes.write_plan.Goals as goal

pub returns-then-changes_policy-clause-moves : goal.returns-then-changes_policy-clause-moves
returns-then-changes_policy-clause-moves g c clean inside w holds known =
    let first = state g.S.Store c.args.tx.now.conn.now in
    let start = state g.S.Store c.look.new.tx.conn.now in
    let mid = state g.S.Store c.write_changes.new.tx.conn.now in
    let last = state g.S.Store c.raise_version.new.tx.conn.now in
    let before = early mid last _ c.raise_version.ensures.frame.survives clean in
    let seen = c.in_ok-look.ensures.moves (early start mid _ c.write_changes.ensures.frame.survives before) inside w holds in
    let it = c.in_ok-write_changes.ensures.moves before seen.0.0 w seen.0.1 known in
    let rows = all_written c.args.plan.now w in
    let next = c.raise_version.ensures.moves clean it.0.0 rows it.0.1 in (
      ok_both c.raise_version.result _ ((plan : List RowWrite) → IsTrue (has_version_for plan rows.version)) _ (λ h room. (h.0, subst (HoldsWorld last.now) (applied_raised c.args.plan.now w (sym c.changes_policy.ensures ∙ c.if-changes_policy.true) (room c.args.plan.now)) h.1)) next.0 (c.raise_version.ensures.room clean it.0.0 rows it.0.1),
      kept_then first mid last (kept_then first start mid seen.1 it.1) next.1,
    )

pub returns-then-changes_policy-clause-room : goal.returns-then-changes_policy-clause-room
returns-then-changes_policy-clause-room g c clean inside w holds known =
    let start = state g.S.Store c.look.new.tx.conn.now in
    let mid = state g.S.Store c.write_changes.new.tx.conn.now in
    let last = state g.S.Store c.raise_version.new.tx.conn.now in
    let before = early mid last _ c.raise_version.ensures.frame.survives clean in
    let seen = c.in_ok-look.ensures.moves (early start mid _ c.write_changes.ensures.frame.survives before) inside w holds in
    let it = c.in_ok-write_changes.ensures.moves before seen.0.0 w seen.0.1 known in
    ok_weaker c.raise_version.result _ _ (λ room. room_before c.args.plan.now w (room c.args.plan.now)) (c.raise_version.ensures.room clean it.0.0 (all_written c.args.plan.now w) it.0.1)

pub returns-then-changes_policy-clause-known : goal.returns-then-changes_policy-clause-known
returns-then-changes_policy-clause-known g c clean inside w holds known =
    let start = state g.S.Store c.look.new.tx.conn.now in
    let mid = state g.S.Store c.write_changes.new.tx.conn.now in
    let last = state g.S.Store c.raise_version.new.tx.conn.now in
    let before = early mid last _ c.raise_version.ensures.frame.survives clean in
    let seen = c.in_ok-look.ensures.moves (early start mid _ c.write_changes.ensures.frame.survives before) inside w holds in
    let it = c.in_ok-write_changes.ensures.moves before seen.0.0 w seen.0.1 known in
    let left = c.in_ok-write_changes.ensures.known before seen.0.0 w seen.0.1 known in
    ok_weaker c.raise_version.result _ _ (λ room. known_applied c.args.plan.now w _ (room_before c.args.plan.now w (room c.args.plan.now)) left) (c.raise_version.ensures.room clean it.0.0 (all_written c.args.plan.now w) it.0.1)

pub returns-else-changes_policy-clause-room : goal.returns-else-changes_policy-clause-room
returns-else-changes_policy-clause-room g c clean inside w holds known = room_unasked c.args.plan.now w.version (sym c.changes_policy.ensures ∙ c.if-changes_policy.false)

pub returns-else-changes_policy-clause-known : goal.returns-else-changes_policy-clause-known
returns-else-changes_policy-clause-known g c clean inside w holds known =
    let start = state g.S.Store c.look.new.tx.conn.now in
    let mid = state g.S.Store c.write_changes.new.tx.conn.now in
    let seen = c.in_ok-look.ensures.moves (early start mid _ c.write_changes.ensures.frame.survives clean) inside w holds in
    known_applied c.args.plan.now w _ (room_unasked c.args.plan.now w.version (sym c.changes_policy.ensures ∙ c.if-changes_policy.false)) (c.in_ok-write_changes.ensures.known clean seen.0.0 w seen.0.1 known)

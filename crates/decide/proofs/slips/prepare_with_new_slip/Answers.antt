use Rattle.std.proofs.Common.{◌≡◌, ◌<◌, ◌≤◌, ◌∷◌, [], ◌++◌, Ok, Result, rules, ap, subst, ◌∙◌}
use Rattle.bank_terms.specs.Limits.{max_slips}
use Rattle.bank_terms.specs.declared.rule.Rule.{Rule}
use Rattle.bank_books.specs.Records.{slip_count}
use Rattle.bank_books.specs.declared.row_write.RowWrite.TheVariants as write
use Rattle.counter_ops.specs.Rows.{row_of}
use Rattle.bank_meaning.specs.Executions.{execution_verdict}
use Rattle.op_prepare.specs.Judged.{IsReady, LeavesPolicyReady}
use Rattle.op_prepare.specs.declared.prepared.Ready.{Ready}
use Rattle.op_prepare.proofs.CountedDenials.{counted_from, none_denies}
use Rattle.decide.proofs.CountedDenials.{on_fault}
use Rattle.decide.proofs.SlipVerdict.{denied_full, denied_new, denies_new, made_new}
use Rattle.decide.proofs.slips.prepare_with_new_slip.Goals as goal

pub returns-then-branch-ge-MAX_SLIPS-clause-judged : goal.returns-then-branch-ge-MAX_SLIPS-clause-judged
returns-then-branch-ge-MAX_SLIPS-clause-judged g c = record {
  stated = λ honest w holds new.
      let before = c.rule_with_no_room.ensures.kept.answers.honest honest in
      let count : c.in_ok-slips.field-0 ≡ slip_count c.args.user w.slips = c.in_ok-slips.ensures.stated before w holds in
      denied_full w c.args.execution.now c.args.user c.args.number c.requires.named c.requires.number c.in_ok-first.first c.requires.some new.1
      (subst (λ n. max_slips ≤ n) count c.if-branch-ge-MAX_SLIPS.true) (c.in_ok-first.ensures.stated honest w (c.in_ok-slips.ensures.kept.kept w holds) new.0);
  kept = search rules;
}

pub returns-in-Err-clause-judged : goal.returns-in-Err-clause-judged
returns-in-Err-clause-judged g c = record {
  stated = λ honest w holds new.
      denied_new w c.args.execution.now c.args.user c.args.number c.requires.named c.requires.number c.in-Err.rule new.1
      (subst (IsReady (execution_verdict c.args.execution.now) w) c.in-Err.is (c.in_ok-rule.ensures.judged.stated honest w (c.in_ok-slips.ensures.kept.kept w holds) new.0));
  kept = search rules;
}

pub returns-in_ok-plan-in-Ok-Change-clause-judged : goal.returns-in_ok-plan-in-Ok-Change-clause-judged
returns-in_ok-plan-in-Ok-Change-clause-judged g c =
    let change = c.in-Ok-Change.is ∙ ap (λ (a : Ready). Ok a) c.in-Ok-Change.field-0-is in
    record {
      stated = λ honest w holds new.
          let before = c.prepare.ensures.judged.kept.answers.honest honest in
          let x = c.args.execution.now in
          let judged = subst (IsReady (execution_verdict x) w) change (c.in_ok-rule.ensures.judged.stated honest w (c.in_ok-slips.ensures.kept.kept w holds) new.0) in
          let policy = subst (λ (r : Result Ready Rule). LeavesPolicyReady (Ok r)) change c.in_ok-rule.ensures.policy in
          let count : c.in_ok-slips.field-0 ≡ slip_count c.args.user w.slips = c.in_ok-slips.ensures.stated before w holds in
          made_new w x c.args.user c.args.number c.requires.named c.requires.number c.in-Ok-Change.field-0-0 c.in_ok-plan-in-Ok-Change.plan c.requires.some new.1
          (subst (λ n. n < max_slips) count c.if-branch-ge-MAX_SLIPS.false) judged policy
          (c.in_ok-plan-in-Ok-Change.ensures
          ∙ ap (λ o. c.in-Ok-Change.field-0-0.plan.items ++ write.Slip (record { user = c.args.user; number = c.args.number; operation = o; reply = c.deref.result.now }) ∷ []) c.to_row-operation.ensures
          ∙ ap (λ t. c.in-Ok-Change.field-0-0.plan.items ++ write.Slip (record { user = c.args.user; number = c.args.number; operation = row_of x.op; reply = t }) ∷ []) c.deref.ensures.value);
      kept = search rules;
    }

-- a denial is returned, or the store counted the fault
pub returns-in_err-rule-clause-denied : goal.returns-in_err-rule-clause-denied
returns-in_err-rule-clause-denied g c = λ honest w holds new some.
    let before = c.prepare.ensures.judged.kept.answers.honest honest in
    let count : c.in_ok-slips.field-0 ≡ slip_count c.args.user w.slips = c.in_ok-slips.ensures.stated before w holds in
    let denied = denies_new w c.args.execution.now c.args.user c.args.number c.requires.named c.requires.number c.requires.some new.1
    (subst (λ n. n < max_slips) count c.if-branch-ge-MAX_SLIPS.false) some in
    counted_from _ _ _ _ c.in_ok-slips.ensures.counted (on_fault _ (c.in_err-rule.ensures.denied honest w (c.in_ok-slips.ensures.kept.kept w holds) new.0 denied))

pub returns-in_err-plan-in-Ok-Change-clause-denied : goal.returns-in_err-plan-in-Ok-Change-clause-denied
returns-in_err-plan-in-Ok-Change-clause-denied g c = λ honest w holds new some.
    let change = c.in-Ok-Change.is ∙ ap (λ (a : Ready). Ok a) c.in-Ok-Change.field-0-is in
    let before = c.prepare.ensures.judged.kept.answers.honest honest in
    let judged = subst (IsReady (execution_verdict c.args.execution.now) w) change (c.in_ok-rule.ensures.judged.stated honest w (c.in_ok-slips.ensures.kept.kept w holds) new.0) in
    let count : c.in_ok-slips.field-0 ≡ slip_count c.args.user w.slips = c.in_ok-slips.ensures.stated before w holds in
    none_denies _ judged.allowed (denies_new w c.args.execution.now c.args.user c.args.number c.requires.named c.requires.number c.requires.some new.1
    (subst (λ n. n < max_slips) count c.if-branch-ge-MAX_SLIPS.false) some)

-- The authorization follows from what is sought and from what was looked up for it.
use Rattle.std.proofs.Common.{rules, ◌≡◌, Ok, sym, subst, ◌∙◌}
use Rattle.bank_meaning.specs.PolicyRules.{grounds, leave_sought}
use Rattle.decide.proofs.LeaveByRelease.{by_release, refused_by_release, refused_before}
use Rattle.decide.proofs.policy_rules.policy_authorization.Goals as goal

pub returns-in-Err : goal.returns-in-Err
returns-in-Err g c = record {
  stated = λ honest w holds known. refused_before w c.args.execution.now c.in-Err.rule (sym c.in-Err.is ∙ c.in_ok-rule.ensures.stated honest w holds known);
  kept = search rules;
  counted = search rules;
}

pub returns-then-is_released : goal.returns-then-is_released
returns-then-is_released g c = record {
  stated = λ honest w holds known.
      let before = c.load_named_release.ensures.kept.answers.honest honest in
      by_release w c.args.execution.now c.in-Some.user c.in-Ok-Release.number c.in_ok-named-in-Ok-Release.named c.in-Some.is
      (subst (λ l. Ok l ≡ leave_sought (grounds w c.args.execution.now)) c.in-Ok-Release.field-0-is (sym c.in-Ok-Release.is ∙ c.in_ok-rule.ensures.stated before w holds known))
      (c.in_ok-named-in-Ok-Release.ensures.stated honest w (c.in_ok-rule.ensures.kept.kept w holds) c.args.execution.now.moment) c.if-is_released.ensures;
  kept = search rules;
  counted = search rules;
}

pub returns : goal.returns
returns g c = record {
  stated = λ honest w holds known.
      let before = c.load_named_release.ensures.kept.answers.honest honest in
      refused_by_release w c.args.execution.now c.in-Some.user c.in-Ok-Release.number c.in_ok-named-in-Ok-Release.named c.in-Some.is
      (subst (λ l. Ok l ≡ leave_sought (grounds w c.args.execution.now)) c.in-Ok-Release.field-0-is (sym c.in-Ok-Release.is ∙ c.in_ok-rule.ensures.stated before w holds known))
      (c.in_ok-named-in-Ok-Release.ensures.stated honest w (c.in_ok-rule.ensures.kept.kept w holds) c.args.execution.now.moment) c.if-is_released.ensures;
  kept = search rules;
  counted = search rules;
}

use Rattle.std.proofs.Common.{ap, refl, sym, ◌∙◌}
use Rattle.bank_books.specs.Effects.{applied}
use Rattle.bank_books.specs.Version.{changes_policy}
use Rattle.bank_books.specs.declared.row_write.RowWrite.TheVariants as write
use Rattle.bank_meaning.specs.PolicyRules.{used_by}
use Rattle.decide.proofs.UsedUp.{same_after, used_up_after}
use Rattle.decide.proofs.judge.with_leave.Goals as goal
use Rattle.decide.proofs.judge.with_leave.Goals.{in-Triple, in-Release+in_ok-push-in-Release}

pub returns-clause-used : goal.returns-clause-used
returns-clause-used c =
    λ none w. elim c.match-leave.branch [
      | in-Triple v ↦ ap (λ p. applied p.items w) v.plan-is ∙ ap (λ l. used_by l c.args.user (applied c.args.plan.items w)) (sym v.in-Triple.is)
      | in-Release+in_ok-push-in-Release v ↦
          ap (λ p. applied p.items w) v.plan-is
          ∙ ap (λ items. applied items w) v.in_ok-push-in-Release.ensures.items
          ∙ used_up_after c.args.plan.items c.args.user v.in-Release.number none w
          ∙ ap (λ l. used_by l c.args.user (applied c.args.plan.items w)) (sym v.in-Release.is)
    ]

pub returns-clause-policy : goal.returns-clause-policy
returns-clause-policy c =
    elim c.match-leave.branch [
      | in-Triple v ↦ ap (λ p. changes_policy p.items) v.plan-is
      | in-Release+in_ok-push-in-Release v ↦
          ap (λ p. changes_policy p.items) v.plan-is
          ∙ ap changes_policy v.in_ok-push-in-Release.ensures.items
          ∙ same_after c.args.plan.items (write.Used (record { user = c.args.user; number = v.in-Release.number })) refl
    ]

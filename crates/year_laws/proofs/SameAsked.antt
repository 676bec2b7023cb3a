-- An operation is judged by its policy as it is asked for at either bank: it executes the same procedure, touches the
-- same and comes to the same amount.
use Rattle.std.proofs.Common.{◌≡◌, ◌==◌, ◌&&◌, ◌∙◌, ℕ, Bool, not, List, [], ◌∷◌, refl, ap, ap₂}
use Rattle.std.specs.Prelude.{option_and_then, if◌then◌else◌}
use Rattle.bank_terms.specs.declared.procedure.Procedure.{Procedure}
use Rattle.bank_terms.specs.declared.rule.Rule.{Rule}
use Rattle.bank_terms.specs.declared.rule.Rule.TheVariants as rule
use Rattle.bank_policy.specs.HeldRows.{relations_of, standing, triples_of}
use Rattle.bank_policy.specs.Policy.{PolicyLists}
use Rattle.bank_policy.specs.Tests.{current, is_certified, is_held, is_held_for}
use Rattle.bank_terms.specs.declared.item.Cdi.{Cdi}
use Rattle.bank_books.specs.WorldLists.{WorldLists}
use Rattle.counter_ops.specs.Op.{procedure_of}
use Rattle.counter_ops.specs.Touched.{amount, amount_of_releasable, touched, touched_by_releasable}
use Rattle.counter_ops.specs.declared.op.Op.{Op}
use Rattle.counter_ops.specs.declared.op.Op.TheVariants as op
use Rattle.counter_ops.specs.declared.releasable.Releasable.{Releasable}
use Rattle.counter_ops.specs.declared.releasable.Releasable.TheVariants as form
use Rattle.rule_tests.specs.Denial.{is_denial}
use Rattle.bank_meaning.specs.PolicyRules.{Grounds, asker, grounds, is_identified, is_released, leave_of, policy_denies}
use Rattle.bank_meaning.specs.declared.leave.Authorization.{Authorization}
use Rattle.bank_meaning.specs.declared.leave.Authorization.TheVariants as leave
use Rattle.bank_meaning.specs.declared.who.Who.{Who}
use Rattle.year_laws.specs.GoesOn.{Turn, op_at_old, releasable_at_old}

pub same_procedure : (t : Turn) (x : Op) → procedure_of (op_at_old t x) ≡ procedure_of x
same_procedure t (op.Correct f) = refl
same_procedure t other = refl

released_touches : (t : Turn) (o : Releasable) → touched_by_releasable (releasable_at_old t o) ≡ touched_by_releasable o
released_touches t (form.Correct f) = refl
released_touches t other = refl

pub same_touched : (t : Turn) (x : Op) → touched (op_at_old t x) ≡ touched x
same_touched t (op.Correct f) = refl
same_touched t (op.Release f) = released_touches t f.operation
same_touched t other = refl

released_amount : (t : Turn) (o : Releasable) → amount_of_releasable (releasable_at_old t o) ≡ amount_of_releasable o
released_amount t (form.Correct f) = refl
released_amount t other = refl

pub same_amount : (t : Turn) (x : Op) → amount (op_at_old t x) ≡ amount x
same_amount t (op.Correct f) = refl
same_amount t (op.Release f) = released_amount t f.operation
same_amount t other = refl

module _ (who : Who) (moment : ℕ) where
  -- the rules of the policy, by all that they look at
  abbrev tests : PolicyLists → Procedure → List Cdi → ℕ → ℕ → Bool → List (Rule × Bool)
  tests p procedure items most release released =
      let held = current moment (triples_of p (asker who) procedure) in
      (rule.Identity, not (is_identified (option_and_then (λ user. standing p user) who.user) who.session))
      ∷ (rule.NotCertified, not (is_certified (relations_of p procedure) items))
      ∷ (rule.NoTriple, not (is_held held items))
      ∷ (rule.Limit, not (is_held_for held items most) && release == 0)
      ∷ (rule.Release, not (is_held_for held items most) && (not (release == 0) && not released))
      ∷ []

  -- Where the release that is named authorizes it at both or at neither, the rules of the policy deny it at both or at
  -- neither, and a release is used up at both or at neither.
  module _ (t : Turn) (old new : WorldLists) (x : Op) (same : old.policy ≡ new.policy) where
    abbrev old_grounds : Grounds
    old_grounds = grounds old (record { who = who; moment = moment; op = op_at_old t x })

    abbrev new_grounds : Grounds
    new_grounds = grounds new (record { who = who; moment = moment; op = x })

    pub policy_judges : is_released old_grounds ≡ is_released new_grounds → (r : Rule) → policy_denies r old_grounds ≡ policy_denies r new_grounds
    policy_judges released r =
        ap (λ p. is_denial r (tests p (procedure_of (op_at_old t x)) (touched (op_at_old t x)) (amount (op_at_old t x)) who.release (is_released old_grounds))) same
        ∙ ap (λ p. is_denial r (tests new.policy p (touched (op_at_old t x)) (amount (op_at_old t x)) who.release (is_released old_grounds))) (same_procedure t x)
        ∙ ap₂ (λ items most. is_denial r (tests new.policy (procedure_of x) items most who.release (is_released old_grounds))) (same_touched t x) (same_amount t x)
        ∙ ap (λ b. is_denial r (tests new.policy (procedure_of x) (touched x) (amount x) who.release b)) released

    abbrev leave_at : PolicyLists → Procedure → List Cdi → ℕ → Authorization
    leave_at p procedure items most = if is_held_for (current moment (triples_of p (asker who) procedure)) items most then leave.Triple else leave.Release who.release

    pub same_leave : leave_of old_grounds ≡ leave_of new_grounds
    same_leave =
        ap₂ (λ p procedure. leave_at p procedure (touched (op_at_old t x)) (amount (op_at_old t x))) same (same_procedure t x)
        ∙ ap₂ (λ items most. leave_at new.policy (procedure_of x) items most) (same_touched t x) (same_amount t x)

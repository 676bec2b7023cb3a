-- What a rule of the policy denies is denied before the books are looked at.
use Rattle.std.proofs.Common.{◌≡◌, ◌≢◌, Bool, true, false, not, List, [], ◌∷◌, Option, Some, cond, refl, ap, sym, subst, ◌∙◌}
use Rattle.std.specs.Prelude.{option_and_then}
use Rattle.std.specs.List.{find, list_all}
use Rattle.std.proofs.lemmas.Bool.{and_parts, false≢true}
use Rattle.bank_policy.specs.HeldRows.{relations_of, standing, triples_of}
use Rattle.bank_policy.specs.Tests.{current}
use Rattle.bank_policy.specs.Policy.{PolicyLists}
use Rattle.bank_terms.specs.declared.rule.Rule.{Rule}
use Rattle.bank_terms.specs.declared.rule.Rule.TheVariants as rule
use Rattle.bank_books.specs.WorldLists.{WorldLists}
use Rattle.counter_ops.specs.Op.{procedure_of}
use Rattle.counter_ops.specs.Rows.{row_of}
use Rattle.counter_ops.specs.Touched.{amount, touched}
use Rattle.bank_meaning.specs.Executions.{execution_meaning}
use Rattle.bank_meaning.specs.Laws.{DeniedBeforeTheBooks, is_before_books}
use Rattle.bank_meaning.specs.Meaning.{rules_after_policy}
use Rattle.bank_meaning.specs.NamedRelease.{ReleaseGrounds, release_grounds}
use Rattle.bank_meaning.specs.PolicyRules.{Grounds, asker, grounds, policy_denies}
use Rattle.bank_meaning.specs.Slips.{is_of_another, slip_grounds, with_slip}
use Rattle.bank_meaning.specs.declared.execution.Execution.{Execution}

-- what is found in a list is as all of the list is
as_all : (p q : Rule → Bool) (xs : List Rule) (r : Rule) → list_all q xs ≡ true → find p xs ≡ Some r → q r ≡ true
as_all p q [] r all at = absurd cc
as_all p q (x ∷ xs) r all at = go (p x) at (as_all p q xs r parts.1)
  where
    parts : (q x ≡ true) × (list_all q xs ≡ true)
    parts = and_parts (q x) (list_all q xs) all

    go : (b : Bool) → cond b (Some x) (find p xs) ≡ Some r → (find p xs ≡ Some r → q r ≡ true) → q r ≡ true
    go true at rest = let same : x ≡ r = cc in subst (λ y. q y ≡ true) same parts.0
    go false at rest = rest at

-- no rule after those of the policy is one before those of the books
following : (m : Rule → Bool) (r : Rule) → is_before_books r ≡ true → find m rules_after_policy ≡ Some r → ⊥
following m r of at = false≢true (sym (ap not of) ∙ as_all m (λ other. not (is_before_books other)) rules_after_policy r refl at)

-- Six tests stand in front of the others: that of identity, that of the slip, and four of the policy.
abbrev by_six : Bool → Bool → Bool → Bool → Bool → Bool → Option Rule → Option Rule
by_six a s b c d e rest =
    cond a (Some rule.Identity)
    (cond s (Some rule.Slip) (cond b (Some rule.NotCertified) (cond c (Some rule.NoTriple) (cond d (Some rule.Limit) (cond e (Some rule.Release) rest)))))

-- after the test of the slip, the first three are the same in both
in_front : (b c d e f : Bool) (rest other : Option Rule) (r : Rule) → (r ≡ rule.Release → f ≡ e) → (rest ≡ Some r → ⊥)
    → by_six false false b c d e rest ≡ Some r → by_six false false b c d f other ≡ Some r
in_front true c d e f rest other r same none is = is
in_front false true d e f rest other r same none is = is
in_front false false true e f rest other r same none is = is
in_front false false false true f rest other r same none is =
    let named : r ≡ rule.Release = cc in
    subst (λ b. cond b (Some rule.Release) other ≡ Some r) (sym (same named)) is
in_front false false false false f rest other r same none is = absurd (none is)

-- what is found after the rule on identity is another rule
no_identity : (s b c d e : Bool) (rest : Option Rule) (r : Rule) → (rest ≡ Some r → ⊥) → by_six false s b c d e rest ≡ Some r → r ≡ rule.Identity → ⊥
no_identity true b c d e rest r none is same = cc
no_identity false true c d e rest r none is same = cc
no_identity false false true d e rest r none is same = cc
no_identity false false false true e rest r none is same = cc
no_identity false false false false true rest r none is same = cc
no_identity false false false false false rest r none is same = none is

-- the slip is judged alike in both where it is not that of identity
in_front_of_slip : (s t b c d e f : Bool) (rest other : Option Rule) (r : Rule) → t ≡ s → (r ≡ rule.Release → f ≡ e) → (rest ≡ Some r → ⊥)
    → by_six false s b c d e rest ≡ Some r → by_six false t b c d f other ≡ Some r
in_front_of_slip true true b c d e f rest other r alike same none is = is
in_front_of_slip true false b c d e f rest other r alike same none is = absurd cc
in_front_of_slip false true b c d e f rest other r alike same none is = absurd cc
in_front_of_slip false false b c d e f rest other r alike same none is = in_front b c d e f rest other r same none is

first_in_both : (a s t b c d e f : Bool) (rest other : Option Rule) (r : Rule) → (r ≢ rule.Identity → t ≡ s) → (r ≡ rule.Release → f ≡ e) → (rest ≡ Some r → ⊥)
    → by_six a s b c d e rest ≡ Some r → by_six a t b c d f other ≡ Some r
first_in_both true s t b c d e f rest other r alike same none is = is
first_in_both false s t b c d e f rest other r alike same none is =
    in_front_of_slip s t b c d e f rest other r (alike (no_identity s b c d e rest r none is)) same none is

-- what is judged by, of a policy and a release
abbrev judged_by : PolicyLists → Option ReleaseGrounds → Execution → Grounds
judged_by p released x = record {
  user = asker x.who;
  standing = option_and_then (λ user. standing p user) x.who.user;
  session = x.who.session;
  relations = relations_of p (procedure_of x.op);
  held = current x.moment (triples_of p (asker x.who) (procedure_of x.op));
  operation = row_of x.op;
  items = touched x.op;
  amount = amount x.op;
  release = x.who.release;
  released = released;
}

-- the tests, one after another
abbrev tested : Grounds → Bool → Bool → Option Rule → Option Rule
tested g s e rest = by_six (policy_denies rule.Identity g) s (policy_denies rule.NotCertified g) (policy_denies rule.NoTriple g) (policy_denies rule.Limit g) e rest

pub denied_before_the_books : DeniedBeforeTheBooks
denied_before_the_books w v x r of alike is =
    let denied : WorldLists → Rule → Bool = λ u. with_slip (slip_grounds u x) (execution_meaning u x).denies in
    let books : WorldLists → Option Rule = λ u. find (denied u) rules_after_policy in
    let on_release : PolicyLists → Option ReleaseGrounds → Bool = λ p released. policy_denies rule.Release (judged_by p released x) in
    let here = release_grounds w (asker x.who) x.who.release x.moment in
    let there = release_grounds v (asker x.who) x.who.release x.moment in
    let other : WorldLists → Bool = λ u. is_of_another (slip_grounds u x) in
    subst (λ p. tested (judged_by p there x) (other v) (on_release p there) (books v) ≡ Some r) (sym alike.policy)
    (first_in_both (policy_denies rule.Identity (grounds w x)) (other w) (other v) (policy_denies rule.NotCertified (grounds w x)) (policy_denies rule.NoTriple (grounds w x))
    (policy_denies rule.Limit (grounds w x)) (on_release w.policy here) (on_release w.policy there) (books w) (books v) r alike.slip
    (λ named. ap (on_release w.policy) (alike.release named)) (following (denied w) r of) is)

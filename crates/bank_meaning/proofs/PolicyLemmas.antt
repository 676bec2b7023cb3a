-- What the rules of the policy say by relations and triples, and that the rules of the policy come before those of the
-- books.
use Rattle.std.proofs.Common.{◌≡◌, ◌≢◌, ℕ, ◌<◌, ◌≤◌, ◌==◌, ◌&&◌, List, Bool, true, false, not, IsTrue, Option, None, Some, Result, Ok, Err, cond, refl, ap, sym, ◌∙◌}
use Rattle.std.specs.Prelude.{if◌then◌else◌, nat_le}
use Rattle.std.proofs.lemmas.Bool.{eq-eqb, false≢true, leb-false, leb-true, ne_eqb}
use Rattle.bank_policy.specs.HeldRows.{CertifiedSet, HeldTriple}
use Rattle.bank_policy.specs.Tests.{is_certified, is_held, is_held_for}
use Rattle.bank_policy.specs.Triples.{IsBestLimit, IsCertified}
use Rattle.bank_terms.specs.declared.item.Cdi.{Cdi}
use Rattle.bank_terms.specs.declared.rule.Rule.{Rule}
use Rattle.bank_terms.specs.declared.rule.Rule.TheVariants as rule
use Rattle.bank_policy.proofs.Tested.{certified_tested, certified_of_test, held_for, held_up_to, none_held, not_held_for, some_held}
use Rattle.bank_books.specs.WorldLists.{WorldLists}
use Rattle.bank_meaning.specs.PolicyRules.{Grounds, first_of_policy, grounds, is_identified, is_in_limit, is_released, leave_by_policy, authorization_by_triples, leave_of, leave_sought, unless_denied}
use Rattle.bank_meaning.specs.Meaning.{by_books}
use Rattle.bank_meaning.specs.Executions.{books_meaning, execution_verdict}
use Rattle.bank_meaning.specs.declared.leave.Authorization.{Authorization}
use Rattle.bank_meaning.specs.declared.leave.Authorization.TheVariants as leave
use Rattle.bank_meaning.specs.declared.execution.Execution.{Execution}

not_true : (b : Bool) → (b ≡ true → ⊥) → b ≡ false
not_true false none = refl
not_true true none = absurd (none refl)

pub certified_same : (rows : List CertifiedSet) (items : List Cdi) (r : Bool) → (IsTrue r → IsCertified rows items) × (IsCertified rows items → IsTrue r) → r ≡ is_certified rows items
certified_same rows items true says = sym (certified_tested rows items (says.0 refl))
certified_same rows items false says = sym (not_true (is_certified rows items) (λ is. false≢true (says.1 (certified_of_test rows items is))))

-- ---- by the best limit of a user's triples

abbrev by_tests : Bool → Bool → ℕ → Result Authorization Rule
by_tests held enough release =
    if not held then Err rule.NoTriple else (if enough then Ok leave.Triple else (if release == 0 then Err rule.Limit else Ok (leave.Release release)))

pub none_holds : (held : List HeldTriple) (items : List Cdi) (amount release : ℕ) → IsBestLimit held items None → Err rule.NoTriple ≡ authorization_by_triples held items amount release
none_holds held items amount release best = sym (ap (λ b. by_tests b (is_held_for held items amount) release) (none_held held items best))

pub one_reaches : (held : List HeldTriple) (items : List Cdi) (limit amount release : ℕ) → IsBestLimit held items (Some limit) → amount ≤ limit → Ok leave.Triple ≡ authorization_by_triples held items amount release
one_reaches held items limit amount release best enough =
    sym (ap (λ b. by_tests b (is_held_for held items amount) release) (some_held held items limit best)
    ∙ ap (λ b. by_tests true b release) (held_for held items limit amount best enough))

-- where none reaches the amount, it is asked whether a release is named
none_reaches : (held : List HeldTriple) (items : List Cdi) (limit amount release : ℕ) → IsBestLimit held items (Some limit) → limit < amount
    → by_tests true false release ≡ authorization_by_triples held items amount release
none_reaches held items limit amount release best less =
    sym (ap (λ b. by_tests b (is_held_for held items amount) release) (some_held held items limit best)
    ∙ ap (λ b. by_tests true b release) (not_held_for held items limit amount best less))

pub none_named : (held : List HeldTriple) (items : List Cdi) (limit amount release : ℕ) → IsBestLimit held items (Some limit) → limit < amount → release ≡ 0
    → Err rule.Limit ≡ authorization_by_triples held items amount release
none_named held items limit amount release best less none =
    sym (ap (λ (b : Bool). if b then Err rule.Limit else Ok (leave.Release release)) (eq-eqb release 0 none)) ∙ none_reaches held items limit amount release best less

pub one_named : (held : List HeldTriple) (items : List Cdi) (limit amount release : ℕ) → IsBestLimit held items (Some limit) → limit < amount → release ≢ 0
    → Ok (leave.Release release) ≡ authorization_by_triples held items amount release
one_named held items limit amount release best less some =
    sym (ap (λ (b : Bool). if b then Err rule.Limit else Ok (leave.Release release)) (ne_eqb release 0 some)) ∙ none_reaches held items limit amount release best less

-- whether the best limit reaches an amount, some one triple does
pub limit_reaches : (held : List HeldTriple) (items : List Cdi) (limit amount : ℕ) → IsBestLimit held items (Some limit) → nat_le amount limit ≡ is_held_for held items amount
limit_reaches held items limit amount best = go (nat_le amount limit) refl
  where
    go : (b : Bool) → nat_le amount limit ≡ b → b ≡ is_held_for held items amount
    go true is = sym (held_for held items limit amount best (leb-true amount limit is))
    go false is = sym (not_held_for held items limit amount best (leb-false amount limit is))

-- no triple that has the items is none that reaches an amount
pub none_held_for : (held : List HeldTriple) (items : List Cdi) (amount : ℕ) → IsBestLimit held items None → is_held_for held items amount ≡ false
none_held_for held items amount best = not_true (is_held_for held items amount) (λ is. let some = held_up_to held items amount is in best some.0 some.1.0)

-- ---- the authorization by the policy, by its parts

abbrev by_five : Bool → Bool → Bool → Bool → Bool → Bool → ℕ → Result Authorization Rule
by_five known certified held enough none_named counts release =
    unless_denied
    (cond (not known) (Some rule.Identity)
    (cond (not certified) (Some rule.NotCertified)
    (cond (not held) (Some rule.NoTriple)
    (cond (not enough && none_named) (Some rule.Limit) (cond (not enough && (not none_named && not counts)) (Some rule.Release) None)))))
    (if enough then leave.Triple else leave.Release release)

-- the authorization that is sought, once it is known whether the release is valid
abbrev pub if_counts : Bool → Result Authorization Rule → Result Authorization Rule
if_counts counts (Err rule) = Err rule
if_counts counts (Ok leave.Triple) = Ok leave.Triple
if_counts counts (Ok (leave.Release number)) = if counts then Ok (leave.Release number) else Err rule.Release

abbrev by_four : Bool → Bool → Bool → Bool → Bool → ℕ → Result Authorization Rule
by_four known certified held enough none_named release =
    if not known then Err rule.Identity
    else (if not certified then Err rule.NotCertified
    else (if not held then Err rule.NoTriple else (if enough then Ok leave.Triple else (if none_named then Err rule.Limit else Ok (leave.Release release)))))

joined : (known certified held enough none_named counts : Bool) (release : ℕ)
    → by_five known certified held enough none_named counts release ≡ if_counts counts (by_four known certified held enough none_named release)
joined false certified held enough none_named counts release = refl
joined true false held enough none_named counts release = refl
joined true true false enough none_named counts release = refl
joined true true true true none_named counts release = refl
joined true true true false true counts release = refl
joined true true true false false true release = refl
joined true true true false false false release = refl

pub leave_joined : (g : Grounds) → leave_by_policy g ≡ if_counts (is_released g) (leave_sought g)
leave_joined g =
    joined (is_identified g.standing g.session) (is_certified g.relations g.items) (is_held g.held g.items) (is_in_limit g) (g.release == 0) (is_released g) g.release

-- five tests of the policy stand in front of those of the books
none_of_five : (a b c d e : Bool) (rest : Option Rule) →
    cond a (Some rule.Identity) (cond b (Some rule.NotCertified) (cond c (Some rule.NoTriple) (cond d (Some rule.Limit) (cond e (Some rule.Release) None)))) ≡ None →
    cond a (Some rule.Identity) (cond b (Some rule.NotCertified) (cond c (Some rule.NoTriple) (cond d (Some rule.Limit) (cond e (Some rule.Release) rest)))) ≡ rest
none_of_five true b c d e rest none = cc
none_of_five false true c d e rest none = cc
none_of_five false false true d e rest none = cc
none_of_five false false false true e rest none = cc
none_of_five false false false false true rest none = cc
none_of_five false false false false false rest none = refl

one_of_five : (a b c d e : Bool) (rest : Option Rule) (r : Rule) →
    cond a (Some rule.Identity) (cond b (Some rule.NotCertified) (cond c (Some rule.NoTriple) (cond d (Some rule.Limit) (cond e (Some rule.Release) None)))) ≡ Some r →
    cond a (Some rule.Identity) (cond b (Some rule.NotCertified) (cond c (Some rule.NoTriple) (cond d (Some rule.Limit) (cond e (Some rule.Release) rest)))) ≡ Some r
one_of_five true b c d e rest r some = some
one_of_five false true c d e rest r some = some
one_of_five false false true d e rest r some = some
one_of_five false false false true e rest r some = some
one_of_five false false false false true rest r some = some
one_of_five false false false false false rest r some = cc

-- the first rule beside the slip
abbrev pub plain_first : WorldLists → Execution → Option Rule
plain_first w q = (execution_verdict q w).first

-- where no rule of the policy denies, the books decide
pub books_decide : (w : WorldLists) (q : Execution) → first_of_policy (grounds w q) ≡ None → plain_first w q ≡ (by_books (books_meaning w q)).first
books_decide w q none = none_of_five _ _ _ _ _ _ none

-- and a rule of the policy that denies comes first
pub policy_decides : (w : WorldLists) (q : Execution) (r : Rule) → first_of_policy (grounds w q) ≡ Some r → plain_first w q ≡ Some r
policy_decides w q r some = one_of_five _ _ _ _ _ _ r some

-- a release that is sought is the one that is named
pub sought_is_named : (g : Grounds) (number : ℕ) → leave_sought g ≡ Ok (leave.Release number) → number ≡ g.release
sought_is_named g number is =
    go (is_identified g.standing g.session) (is_certified g.relations g.items) (is_held g.held g.items) (is_in_limit g) (g.release == 0) is
  where
    go : (known certified held enough none_named : Bool) → by_four known certified held enough none_named g.release ≡ Ok (leave.Release number) → number ≡ g.release
    go false certified held enough none_named is = absurd cc
    go true false held enough none_named is = absurd cc
    go true true false enough none_named is = absurd cc
    go true true true true none_named is = absurd cc
    go true true true false true is = absurd cc
    go true true true false false is = cc

-- ---- the authorization, and the first rule

-- an authorization that is given is that of the grounds, and no rule of the policy denies
pub leave_given : (g : Grounds) (l : Authorization) → leave_by_policy g ≡ Ok l → (first_of_policy g ≡ None) × (leave_of g ≡ l)
leave_given g l is = go (first_of_policy g) refl is
  where
    go : (o : Option Rule) → first_of_policy g ≡ o → unless_denied o (leave_of g) ≡ Ok l → (first_of_policy g ≡ None) × (leave_of g ≡ l)
    go None at is = (at, cc)
    go (Some r) at is = absurd cc

-- and the rule is the first of the policy's
pub rule_of_leave : (g : Grounds) (r : Rule) → leave_by_policy g ≡ Err r → first_of_policy g ≡ Some r
rule_of_leave g r is = go (first_of_policy g) refl is
  where
    go : (o : Option Rule) → first_of_policy g ≡ o → unless_denied o (leave_of g) ≡ Err r → first_of_policy g ≡ Some r
    go None at is = absurd cc
    go (Some s) at is = let same : s ≡ r = cc in at ∙ ap Some same

pub leave_refused : (w : WorldLists) (q : Execution) (r : Rule) → leave_by_policy (grounds w q) ≡ Err r → plain_first w q ≡ Some r
leave_refused w q r is = policy_decides w q r (rule_of_leave (grounds w q) r is)

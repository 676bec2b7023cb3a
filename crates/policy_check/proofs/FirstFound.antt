-- The first row found in order of keys is the least of those that could be found.
use Rattle.std.proofs.Common.{◌≡◌, ℕ, ◌+◌, ◌*◌, ◌^◌, ◌<◌, ◌≤◌, List, length, get_or, All, IsTrue, Option, Some, None, MatchOption, arith, sym, ap, subst, refl, inl, inr, ◌⊎◌}
use Rattle.std.specs.Option.{IsSomeAnd}
use Rattle.std.specs.List.{HoldsAt, AllWithin}
use Rattle.std.specs.List.Sorted.{IsNonDecreasingBy}
use Rattle.std.proofs.lemmas.Bool.{cases_lt}
use Rattle.bank_policy.specs.Policy.{PolicyLists}
use Rattle.bank_policy.specs.PolicyKeys.{user_key, triple_key}
use Rattle.policy_check.specs.PolicyVerdict.{IsBefore, IsLeastBreak, IsLeastOfficer}
use Rattle.bank_terms.specs.Procedure.{number_of}
use Rattle.policy_check.specs.Separation.{BreaksSeparation, Certifies, Holds, OfficerHolds}
use Rattle.policy_check.specs.Soundness.{IsNumber}
use Rattle.bank_terms.specs.declared.procedure.Procedure.{Procedure}
use Rattle.bank_policy.specs.declared.rows.Triple.{Triple}
use Rattle.bank_policy.specs.declared.rows.User.{User}
use Rattle.bank_terms.proofs.Procedures.{at_most_thirteen}

-- x stands at the first place where P holds
abbrev pub IsFirst : {X : Type 0} → (X → Type 0) → List X → X → Type 0
IsFirst P xs x = P x × (i : ℕ) × (i < length xs) × HoldsAt (λ y. y ≡ x) xs i × AllWithin (λ y. ¬ P y) xs 0 i

first_is_least : {X : Type 0} (key : X → ℕ) (P : X → Type 0) (xs : List X) (x y : X) (j : ℕ) → IsNonDecreasingBy key xs → IsFirst P xs x
    → j < length xs → get_or xs j y ≡ y → P y → key x ≤ key y
first_is_least {X = X} key P xs x y j order found below at passes = elim (cases_lt j found.1) [
  | inl sooner ↦ absurd (found.4 j y (omega arith) sooner (subst P (sym at) passes))
  | inr later ↦
      let first : key (get_or xs found.1 y) ≡ key x = ap key (found.3 y) in
      let last : key (get_or xs j y) ≡ key y = ap key at in
      omega (arith, first, last, order found.1 j y later below)
]

abbrev pub HoldsAsOfficer : PolicyLists → User → Type 0
HoldsAsOfficer policy row = IsTrue row.officer × Holds policy row.user

pub no_officer : (policy : PolicyLists) → AllWithin (λ row. ¬ HoldsAsOfficer policy row) policy.users 0 (length policy.users) → (user : ℕ) → ¬ OfficerHolds policy user
no_officer policy none user (there, holds) =
    let row : User = there.1 in
    let here : HoldsAsOfficer policy row = (there.4.1, subst (Holds policy) (sym there.4.0) holds) in
    none there.0 row (omega arith) there.2 (subst (HoldsAsOfficer policy) (sym there.3) here)

pub least_officer : (policy : PolicyLists) (row : User) → IsNonDecreasingBy user_key policy.users → IsFirst (HoldsAsOfficer policy) policy.users row → IsLeastOfficer policy row.user
least_officer policy row order first = (
  ((first.1, row, first.2, first.3 row, (refl, first.0.0)), first.0.1),
  λ other less (there, holds).
      let here : HoldsAsOfficer policy there.1 = (there.4.1, subst (Holds policy) (sym there.4.0) holds) in
      let least = first_is_least user_key (HoldsAsOfficer policy) policy.users row there.1 there.0 order first there.2 there.3 here in
      omega (arith, less, least, there.4.0),
)

abbrev pub Breaks : PolicyLists → Triple → Type 0
Breaks policy row = Certifies policy row.user row.procedure

breaks_there : (policy : PolicyLists) (row : Triple) (user : ℕ) (procedure : Procedure) → row.user ≡ user → row.procedure ≡ procedure → Certifies policy user procedure → Breaks policy row
breaks_there policy row user procedure user_is procedure_is certifies =
    subst (λ u. Certifies policy u row.procedure) (sym user_is) (subst (λ p. Certifies policy user p) (sym procedure_is) certifies)

pub no_break : (policy : PolicyLists) → AllWithin (λ row. ¬ Breaks policy row) policy.triples 0 (length policy.triples) → (user : ℕ) (procedure : Procedure) → ¬ BreaksSeparation policy user procedure
no_break policy none user procedure (certifies, there) =
    none there.0 there.1 (omega arith) there.2 (subst (Breaks policy) (sym there.3) (breaks_there policy there.1 user procedure there.4.0 there.4.1 certifies))

-- a row in order of user, procedure and set is not before one that is no greater
not_before : (u p s v q t : ℕ) → 2 ^ 64 * u + 2 ^ 32 * p + s ≤ 2 ^ 64 * v + 2 ^ 32 * q + t → q ≤ 13 → t ≤ 999999999 → (v < u) ⊎ ((v ≡ u) × (q < p)) → ⊥
not_before u p s v q t below few small (inl less) = omega arith
not_before u p s v q t below few small (inr same) = omega arith

pub least_break : (policy : PolicyLists) (row : Triple) → All (λ r. IsNumber r.set) policy.triples → IsNonDecreasingBy triple_key policy.triples → IsFirst (Breaks policy) policy.triples row → IsLeastBreak policy row.user row.procedure
least_break policy row numbers order first = (
  (first.0, (first.1, row, first.2, first.3 row, (refl, refl))),
  λ user procedure less (certifies, there).
      let y = there.1 in
      let here = breaks_there policy y user procedure there.4.0 there.4.1 certifies in
      let least = first_is_least triple_key (Breaks policy) policy.triples row y there.0 order first there.2 there.3 here in
      let small : y.set ≤ 999999999 = omega (arith, (numbers there.0 y there.2).1, ap (λ (r : Triple). r.set) there.3) in
      let moved : IsBefore y.user y.procedure row.user row.procedure =
      subst (λ u. IsBefore u y.procedure row.user row.procedure) (sym there.4.0) (subst (λ p. IsBefore user p row.user row.procedure) (sym there.4.1) less) in
      not_before row.user (number_of row.procedure) row.set y.user (number_of y.procedure) y.set least (at_most_thirteen y.procedure) small moved,
)

-- what is made of the value that was found, if one was
pub made_of : {A B : Type 0} (r : Option A) (s : Option B) (Missed Missing : Type 0) (Found : A → Type 0) (Makes : A → B → Type 0) (Made : B → Type 0)
    → MatchOption r Missed Found → MatchOption r (s ≡ None) (λ x. IsSomeAnd s (Makes x)) → (Missed → Missing) → ((x : A) (y : B) → Found x → Makes x y → Made y)
    → MatchOption s Missing Made
made_of {B = B} None s Missed Missing Found Makes Made found made none some =
    let P : Option B → Type 0 = λ o. MatchOption o Missing Made in
    subst P (sym made) (none found)
made_of (Some x) None Missed Missing Found Makes Made found made none some = absurd made
made_of (Some x) (Some y) Missed Missing Found Makes Made found made none some = some x y found made

-- What follows from a test that a rule computes, where it lets an operation pass.
use Rattle.std.proofs.Common.{◌≡◌, ℕ, ◌+◌, ◌≤◌, ◌==◌, ℤ, Bool, true, false, cond, not, refl, arith, List, [], ◌∷◌, Option, Some, None, int_lt}
use Rattle.std.specs.Prelude.{◌≤ℤ◌, IsNone, is_none, nat_le, option_map}
use Rattle.std.proofs.lemmas.Bool.{and_parts, leb-false, true≢false}
use Rattle.std.proofs.lemmas.Int.{ints}
use Rattle.money.specs.Range.{IsCents, is_cents}
use Rattle.bank_terms.specs.Rule.{number_of}
use Rattle.bank_terms.specs.declared.rule.Rule.{Rule}
use Rattle.row_members.specs.Ranges.{IsKeyOrZero}
use Rattle.rule_tests.specs.Denial.{first_denial, is_denial}

-- where none is named there is none
pub none_of : {A : Type 0} (o : Option A) → IsNone o → o ≡ None
none_of None none = refl
none_of (Some a) none = absurd (true≢false none)

-- the first rule does not deny, and neither do those after it
pub passed_by : {R : Type 0} (b : Bool) (r : R) (rest : Option R) → cond b (Some r) rest ≡ None → (b ≡ false) × (rest ≡ None)
passed_by true r rest is = absurd cc
passed_by false r rest is = (refl, is)

-- where none denies, this one does not
pub no_denial : (tests : List (Rule × Bool)) (rule : Rule) → first_denial tests ≡ None → is_denial rule tests ≡ false
no_denial [] rule none = refl
no_denial ((other, denies) ∷ rest) rule none =
    let parts = passed_by denies other (first_denial rest) none in
    elim (number_of other == number_of rule) as (λ b. cond b denies (is_denial rule rest) ≡ false) [ true ↦ parts.0 | false ↦ no_denial rest rule parts.1 ]

-- what is made of a row is there, and so is the row
pub source_of : {A B : Type 0} (f : A → B) (o : Option A) → is_none (option_map f o) ≡ false → (a : A) × (o ≡ Some a)
source_of f None some = absurd cc
source_of f (Some a) some = (a, refl)

pub at_least : (a b : ℤ) → not (int_lt a b) ≡ true → b ≤ℤ a
at_least a b e = grind (arith, ints)

pub cents_from : (z : ℤ) → is_cents z ≡ true → IsCents z
cents_from z is =
    let parts = and_parts _ _ is in
    (at_least _ _ parts.0, at_least _ _ parts.1)

-- there is room for one more
pub one_fits : (most n : ℕ) → nat_le most n ≡ false → n + 1 ≤ most
one_fits most n e = omega (arith, leb-false most n e)

pub none_named : IsKeyOrZero 0
none_named = (omega arith, omega arith)

-- What is known of a row that was found, and of the tests that it passed.
use Rattle.std.proofs.Common.{◌≡◌, ℤ, pos, sym, ◌∙◌, subst, true, not, Option, Some, int_lt}
use Rattle.std.specs.Prelude.{◌≤ℤ◌}
use Rattle.std.proofs.lemmas.Bool.{and_parts}
use Rattle.std.proofs.lemmas.Option.{same_Some}
use Rattle.money.specs.Range.{is_cents, max_cents}
use Rattle.rule_tests.proofs.RuleTests.{at_least}

-- what holds of the row that was found holds of each that is
pub for_found : {X : Type 0} (P : X → Type 0) (o : Option X) (found row : X) → o ≡ Some found → P found → o ≡ Some row → P row
for_found P o found row is holds also = subst P (same_Some found row (sym is ∙ also)) holds

-- an amount of money that is not below zero
pub cash_from : (z : ℤ) → not (int_lt z (pos 0)) ≡ true → is_cents z ≡ true → (pos 0 ≤ℤ z) × (z ≤ℤ max_cents)
cash_from z covers within = (at_least z (pos 0) covers, at_least max_cents z (and_parts _ _ within).1)

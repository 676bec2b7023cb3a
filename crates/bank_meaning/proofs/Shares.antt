-- What the changes of each operation add, one by one, comes to what the operation is said to move.
use Rattle.std.proofs.Common.{Bool, ap, arith, false, pos, refl, true, ℤ, ◌&&◌, ◌+ℤ◌, ◌+◌, ◌∙◌, ◌≡◌}
use Rattle.std.proofs.lemmas.Int.{ints}
use Rattle.std.specs.Prelude.{if◌then◌else◌, neg_ℤ}

-- ---- sums of two or three

pub one_alone : (z : ℤ) → z +ℤ (pos 0 +ℤ pos 0) ≡ z
one_alone z = omega (arith, ints)

pub two_alone : (y z : ℤ) → y +ℤ (z +ℤ pos 0) ≡ y +ℤ z
two_alone y z = omega (arith, ints)

pub opposite : (z : ℤ) → neg_ℤ z +ℤ (z +ℤ pos 0) ≡ pos 0
opposite z = omega (arith, ints)

-- the line of an entry's cash
pub cash_alone : (b : Bool) (z : ℤ) → pos 0 +ℤ ((if b && true then z else pos 0) +ℤ pos 0) ≡ (if b then z else pos 0)
cash_alone true z = omega (arith, ints)
cash_alone false z = refl

-- two legs at one place
pub legs_cancel : (b : Bool) (z : ℤ) → (if b then neg_ℤ z else pos 0) +ℤ ((if b then z else pos 0) +ℤ pos 0) ≡ pos 0
legs_cancel true z = opposite z
legs_cancel false z = refl

pub legs_count : (b : Bool) → (0 + (if b then 1 else 0)) + (if b then 1 else 0) ≡ (if b then 2 else 0)
legs_count true = refl
legs_count false = refl

pub one_counts : (b : Bool) → (0 + (if b then 1 else 0)) + 0 ≡ (if b then 1 else 0)
one_counts true = refl
one_counts false = refl

-- a line that came with no entry
pub no_cash_entry : (b : Bool) (z : ℤ) → (if b && false then z else pos 0) ≡ pos 0
no_cash_entry true z = refl
no_cash_entry false z = refl

pub two_none : (a b : Bool) (y z : ℤ) → (if a && false then y else pos 0) +ℤ ((if b && false then z else pos 0) +ℤ pos 0) ≡ pos 0
two_none a b y z = ap (λ v. v +ℤ ((if b && false then z else pos 0) +ℤ pos 0)) (no_cash_entry a y) ∙ ap (λ v. pos 0 +ℤ (v +ℤ pos 0)) (no_cash_entry b z)

-- ---- what is said of a correction, by what it corrects

-- ---- the operations

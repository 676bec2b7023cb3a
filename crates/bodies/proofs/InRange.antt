-- What is said of a value that was read, step by step, and of the whole numbers among members.
use Rattle.std.proofs.Common.{◌≡◌, ℕ, ℤ, pos, negsuc, ◌≤ℤ◌, Bool, true, false, cond, List, Option, Some, None, IfSome, option_and_then, option_map, unsigned_abs, refl, arith}
use Rattle.std.proofs.lemmas.Grind.{common_steps}
use Rattle.std.proofs.lemmas.Int.{ints}
use Rattle.serde_json.specs.Data.{Data}
use Rattle.money.specs.Range.{IsDelta, max_delta, min_delta}
use Rattle.bank_terms.specs.Limits.{max_key}
use Rattle.row_members.specs.Ranges.{IsKey, IsWithin}
use Rattle.bodies.specs.Body.{delta_member, key_member, natural_member, number_member, within}

-- the next step of a reading, of what was found
pub next : {A B : Type 0} (o : Option A) (f : A → Option B) (P : A → Type 0) (Q : B → Type 0) → IfSome o P → ((a : A) → P a → IfSome (f a) Q) → IfSome (option_and_then f o) Q
next None f P Q found more = tt
next (Some a) f P Q found more = more a found

-- and of whatever was found
pub whatever : {A B : Type 0} (o : Option A) (f : A → Option B) (Q : B → Type 0) → ((a : A) → IfSome (f a) Q) → IfSome (option_and_then f o) Q
whatever None f Q more = tt
whatever (Some a) f Q more = more a

pub mapped : {A B : Type 0} (o : Option A) (f : A → B) (P : A → Type 0) (Q : B → Type 0) → IfSome o P → ((a : A) → P a → Q (f a)) → IfSome (option_map f o) Q
mapped None f P Q found more = tt
mapped (Some a) f P Q found more = more a found

-- only if a test passes
pub passed : {A : Type 0} (test : Bool) (o : Option A) (P : A → Type 0) → (test ≡ true → IfSome o P) → IfSome (cond test o None) P
passed true o P is = is refl
passed false o P is = tt

-- or only if it fails
pub failed : {A : Type 0} (test : Bool) (o : Option A) (P : A → Type 0) → (test ≡ false → IfSome o P) → IfSome (cond test None o) P
failed true o P is = tt
failed false o P is = is refl

pub within_range : (low high z : ℤ) → IfSome (within low high z) (λ z. (low ≤ℤ z) × (z ≤ℤ high))
within_range low high z = grind (arith, common_steps)

pub number_in_range : (name : List ℕ) (low high : ℤ) (value : Data) → IfSome (number_member name low high value) (λ z. (low ≤ℤ z) × (z ≤ℤ high))
number_in_range name low high value = whatever _ (within low high) (λ z. (low ≤ℤ z) × (z ≤ℤ high)) (within_range low high)

pub natural_from : (low high : ℕ) (z : ℤ) → (pos low ≤ℤ z) × (z ≤ℤ pos high) → IsWithin low high (unsigned_abs z)
natural_from low high (pos n) is = (omega (arith, ints), omega (arith, ints))
natural_from low high (negsuc n) is = absurd (omega (arith, ints))

pub natural_in_range : (name : List ℕ) (low high : ℕ) (value : Data) → IfSome (natural_member name low high value) (IsWithin low high)
natural_in_range name low high value =
    mapped _ unsigned_abs (λ z. (pos low ≤ℤ z) × (z ≤ℤ pos high)) (IsWithin low high) (number_in_range name (pos low) (pos high) value) (natural_from low high)

pub key_in_range : (name : List ℕ) (value : Data) → IfSome (key_member name value) IsKey
key_in_range name value = natural_in_range name 1 max_key value

pub delta_in_range : (name : List ℕ) (value : Data) → IfSome (delta_member name value) IsDelta
delta_in_range name value = number_in_range name min_delta max_delta value

-- Rows of which none is beyond the count of its group, and one that bears the next number of its group.
use Rattle.std.proofs.Common.{◌≡◌, ℕ, ◌+◌, ◌*◌, ◌^◌, ◌<◌, ◌≤◌, List, refl, arith, sym, ◌∙◌, subst, ◌==◌, Contains, inl, inr}
use Rattle.std.specs.List.{count_by}
use Rattle.std.proofs.lemmas.Bool.{eq-eqb}
use Rattle.keyed_rows.specs.Ordered.{add_row}
use Rattle.keyed_rows.proofs.DistinctKeys.{key_parts}
use Rattle.keyed_rows.proofs.Rows.{Contains-add_row_cases, count-add_row, count_named}
use Rattle.book_kept.specs.Named.{IsFree}

-- none is beyond the count of its group
abbrev pub AreCounted : {X : Type 0} → (X → ℕ) → (X → ℕ) → List X → Type 0
AreCounted {X} group number xs = (x : X) → Contains xs x → number x ≤ count_by (λ r. group r == group x) xs

-- it bears the next number
abbrev pub IsNextNumber : {X : Type 0} → (X → ℕ) → (X → ℕ) → X → List X → Type 0
IsNextNumber group number e xs = number e ≡ count_by (λ r. group r == group e) xs + 1

past : (n m c : ℕ) → n ≤ c → m ≡ c + 1 → n ≡ m → ⊥
past n m c low next same = omega arith

-- so no row has its key
pub next_is_free : {X : Type 0} (key group number : X → ℕ) (e : X) (xs : List X) → ((x : X) → key x ≡ 2 ^ 32 * group x + number x) → ((x : X) → Contains xs x → number x < 2 ^ 32) → number e < 2 ^ 32
    → AreCounted group number xs → IsNextNumber group number e xs → IsFree key xs (key e)
next_is_free key group number e xs made small small_too counted next x there same =
    let parts = key_parts (group x) (number x) (group e) (number e) (small x there) small_too (sym (made x) ∙ same ∙ made e) in
    past (number x) (number e) (count_by (λ r. group r == group e) xs) (subst (λ k. number x ≤ count_by (λ r. group r == k) xs) parts.0 (counted x there)) next parts.1

still : (n c c' d : ℕ) → n ≤ c → c' ≡ c + d → n ≤ c'
still n c c' d low more = omega arith

last : (n c c' : ℕ) → n ≡ c + 1 → c' ≡ c + 1 → n ≤ c'
last n c c' is more = omega arith

-- and with it none is beyond the count of its group
pub AreCounted-add_row : {X : Type 0} (key group number : X → ℕ) (e : X) (xs : List X) → AreCounted group number xs → IsNextNumber group number e xs → AreCounted group number (add_row key e xs)
AreCounted-add_row key group number e xs counted next x there = elim (Contains-add_row_cases key e xs x there) [
  | inl new ↦ subst (λ y. number y ≤ count_by (λ r. group r == group y) (add_row key e xs)) new
      (last (number e) _ _ next (count_named key (λ r. group r == group e) e xs (eq-eqb (group e) (group e) refl)))
  | inr old ↦ still (number x) _ _ _ (counted x old) (count-add_row key (λ r. group r == group x) e xs)
]

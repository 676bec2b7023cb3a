-- The first row of a key, found at the point where the keys below it end.
use Rattle.std.proofs.Common.{◌≡◌, ◌==◌, ℕ, ◌<◌, ◌≤◌, zero, suc, List, [], ◌∷◌, length, get_or, Bool, true, false, cond, Some, None, ltb, refl, ap, arith, sym, ◌∙◌, inl, inr}
use Rattle.std.specs.List.{find, All}
use Rattle.std.specs.List.Sorted.{IsNonDecreasingBy, IsPartitionPoint}
use Rattle.std.proofs.lemmas.Bool.{cases_lt}
use Rattle.std.proofs.lemmas.Bool.Decides.{nat_tests}
use Rattle.std.proofs.lemmas.List.{get_or_default}
use Rattle.std.proofs.lemmas.List.Elements.{All-head, All-tail}

find_none : {X : Type 0} (p : X → Bool) (xs : List X) → All (λ x. p x ≡ false) xs → find p xs ≡ None
find_none p [] none = refl
find_none p (x ∷ xs) none = go (p x) (All-head (λ y. p y ≡ false) x xs none) (find_none p xs (All-tail (λ y. p y ≡ false) x xs none))
  where
    go : (b : Bool) → b ≡ false → find p xs ≡ None → cond b (Some x) (find p xs) ≡ None
    go false e rest = rest
    go true e rest = cc

find_at : {X : Type 0} (p : X → Bool) (xs : List X) (i : ℕ) (d : X) → i < length xs → ((j : ℕ) → j < i → p (get_or xs j d) ≡ false) → p (get_or xs i d) ≡ true
    → find p xs ≡ Some (get_or xs i d)
find_at p [] i d below before here = absurd (omega arith)
find_at {X} p (x ∷ xs) zero d below before here = go (p x) here
  where
    go : (b : Bool) → b ≡ true → cond b (Some x) (find p xs) ≡ Some x
    go true e = refl
    go false e = cc
find_at {X} p (x ∷ xs) (suc i) d below before here = go (p x) (before 0 (omega arith)) (find_at p xs i d (omega arith) (λ j less. before (suc j) (omega arith)) here)
  where
    go : (b : Bool) → b ≡ false → find p xs ≡ Some (get_or xs i d) → cond b (Some x) (find p xs) ≡ Some (get_or xs i d)
    go false e rest = rest
    go true e rest = cc

other_passes_not : (a k : ℕ) → (a ≡ k → ⊥) → (a == k) ≡ false
other_passes_not a k e = grind (arith, nat_tests)

same_passes : (a k : ℕ) → a ≡ k → (a == k) ≡ true
same_passes a k e = grind (arith, nat_tests)

within : {i n : ℕ} → true ≡ ltb i n → i < n
within e = grind (arith, nat_tests)

ends : {i n : ℕ} → false ≡ ltb i n → n ≤ i
ends e = grind (arith, nat_tests)

-- the keys below k end at i
abbrev pub EndsBelow : {X : Type 0} → (X → ℕ) → List X → ℕ → ℕ → Type 0
EndsBelow key xs k i = IsPartitionPoint (λ y. key y < k) (λ y. k ≤ key y) xs i

-- from the point of a test that computes
pub EndsBelow-from_test : {X : Type 0} (key : X → ℕ) (xs : List X) (k i : ℕ) → IsPartitionPoint (λ y. ltb (key y) k ≡ true) (λ y. ltb (key y) k ≡ false) xs i → EndsBelow key xs k i
EndsBelow-from_test key xs k i parts = (λ j d low high. within (sym (parts.0 j d low high)), λ j d low high. ends (sym (parts.1 j d low high)))

-- each key is below
pub found_past_end : {X : Type 0} (key : X → ℕ) (xs : List X) (k i : ℕ) → EndsBelow key xs k i → false ≡ ltb i (length xs) → find (λ x. key x == k) xs ≡ None
found_past_end key xs k i parts past =
    let last : length xs ≤ i = ends past in
    find_none (λ x. key x == k) xs (λ j d here.
    let less = parts.0 j d (omega arith) (omega arith) in
    other_passes_not _ k (λ same. omega (arith, less, same)))

-- the first row that isn't below has the key
pub found_here : {X : Type 0} (key : X → ℕ) (xs : List X) (k i : ℕ) (row : X) → EndsBelow key xs k i → true ≡ ltb i (length xs) → row ≡ get_or xs i row → key row ≡ k
    → find (λ x. key x == k) xs ≡ Some row
found_here key xs k i row parts inside is same =
    find_at (λ x. key x == k) xs i row (within inside)
    (λ j before.
    let less = parts.0 j row (omega arith) before in
    other_passes_not _ k (λ equal. omega (arith, less, equal)))
    (same_passes _ k (ap key (sym is) ∙ same)) ∙ ap Some (sym is)

-- the first row that isn't below has another key, so the rest are above
pub found_above : {X : Type 0} (key : X → ℕ) (xs : List X) (k i : ℕ) (row : X) → EndsBelow key xs k i → true ≡ ltb i (length xs) → row ≡ get_or xs i row → (key row ≡ k → ⊥)
    → IsNonDecreasingBy key xs → find (λ x. key x == k) xs ≡ None
found_above key xs k i row parts inside is other order = find_none (λ x. key x == k) xs (λ j d here. elim (cases_lt j i) [
  | inl before ↦
      let less = parts.0 j d (omega arith) before in
      other_passes_not _ k (λ equal. omega (arith, less, equal))
  | inr after ↦
      let least = parts.1 i d (omega arith) (within inside) in
      let later = order i j d after here in
      other_passes_not _ k (λ equal. other (ap key is ∙ ap key (get_or_default xs i row d (within inside)) ∙ omega (arith, least, later, equal)))
])

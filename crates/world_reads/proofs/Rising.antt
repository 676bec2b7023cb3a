-- Rows in order of a key that no two of them bear.
use Rattle.std.proofs.Common.{◌≡◌, ℕ, ◌<◌, ◌≤◌, zero, suc, List, [], ◌∷◌, ◌++◌, Bool, true, false, ◌||◌, eqb, map, length, get_or, All, refl, sym, ◌∙◌, arith}
use Rattle.std.specs.List.{list_any}
use Rattle.std.specs.List.Sorted.{IsNonDecreasingBy}
use Rattle.std.proofs.lemmas.Bool.{eq-eqb, false≢true}
use Rattle.std.proofs.lemmas.List.Elements.{All-append, All-from_get_or, All-head, All-tail}
use Rattle.keyed_rows.specs.Ordered.{AreDistinct}

-- each row's key lies above those of the rows before it
abbrev pub Rises : {X : Type 0} → (X → ℕ) → List X → Type 0
Rises key [] = Unit {0}
Rises key (x ∷ xs) = All (λ y. key x < key y) xs × Rises key xs

or-left : (a b : Bool) → (a || b) ≡ false → a ≡ false
or-left true b e = e
or-left false b e = refl

or-right : (a b : Bool) → (a || b) ≡ false → b ≡ false
or-right true b e = absurd (false≢true (sym e))
or-right false b e = e

differs : {X : Type 0} (key : X → ℕ) (k : ℕ) (xs : List X) (i : ℕ) (d : X) → list_any (λ j. eqb j k) (map key xs) ≡ false → i < length xs → key (get_or xs i d) ≡ k → ⊥
differs key k [] i d none below same = omega arith
differs key k (x ∷ xs) zero d none below same = false≢true (sym (or-left (eqb (key x) k) _ none) ∙ eq-eqb (key x) k same)
differs key k (x ∷ xs) (suc i) d none below same = differs key k xs i d (or-right (eqb (key x) k) _ none) (omega arith) same

above : (a b : ℕ) → a ≤ b → (b ≡ a → ⊥) → a < b
above a b le ne = omega arith

pub rises : {X : Type 0} (key : X → ℕ) (xs : List X) → IsNonDecreasingBy key xs → AreDistinct (map key xs) → Rises key xs
rises key [] in_order distinct = tt
rises key (x ∷ xs) in_order distinct = (
  All-from_get_or (λ y. key x < key y) xs x (λ i below. above (key x) (key (get_or xs i x)) (in_order 0 (suc i) x (omega arith) (omega arith)) (differs key (key x) xs i x distinct.0 below)),
  rises key xs (λ i j d le below. in_order (suc i) (suc j) d (omega arith) (omega arith)) distinct.1,
)

-- two lists one after the other, where all keys of the second lie above those of the first
pub rises-joined : {X : Type 0} (key : X → ℕ) (xs ys : List X) → Rises key xs → Rises key ys → All (λ x. All (λ y. key x < key y) ys) xs → Rises key (xs ++ ys)
rises-joined key [] ys first second apart = second
rises-joined key (x ∷ xs) ys first second apart = (
  All-append (λ y. key x < key y) xs ys first.0 (All-head (λ z. All (λ y. key z < key y) ys) x xs apart),
  rises-joined key xs ys first.1 second (All-tail (λ z. All (λ y. key z < key y) ys) x xs apart),
)

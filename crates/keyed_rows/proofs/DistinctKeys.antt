-- Which keys are distinct, by their places in the list.
use Rattle.std.proofs.Common.{◌≡◌, ◌≢◌, ◌==◌, ℕ, ◌+◌, ◌*◌, ◌^◌, ◌<◌, ◌≤◌, zero, suc, ◌||◌, List, [], ◌∷◌, length, get_or, map, Bool, true, false, leb, ltb, IsTrue, refl, ap, arith, sym, ◌∙◌}
use Rattle.std.specs.List.{IsAllAdjacentAnswer, list_any}
use Rattle.std.specs.List.Sorted.{IsNonDecreasingBy}
use Rattle.std.proofs.lemmas.Bool.Decides.{nat_tests}
use Rattle.std.proofs.lemmas.Bool.{false≢true}
use Rattle.std.proofs.lemmas.List.Elements.{All-map}
use Rattle.std.proofs.lemmas.List.Folds.{list_any_none}
use Rattle.std.proofs.lemmas.List.Sorted.{IsNonDecreasingBy-from_all_adjacent}
use Rattle.keyed_rows.specs.Ordered.{AreDistinct}

apart_test : (a b : ℕ) → b ≢ a → (a == b) ≡ false
apart_test a b apart = grind (arith, nat_tests)

same_test : (a b : ℕ) → b ≡ a → (a == b) ≡ true
same_test a b same = grind (arith, nat_tests)

-- keys that differ at each two places are distinct
pub AreDistinct-from_apart : {X : Type 0} (key : X → ℕ) (xs : List X) → ((i j : ℕ) (d : X) → i < j → j < length xs → key (get_or xs i d) ≢ key (get_or xs j d)) → AreDistinct (map key xs)
AreDistinct-from_apart key [] apart = tt
AreDistinct-from_apart key (x ∷ xs) apart = (
  list_any_none (λ j. j == key x) (map key xs) (All-map (λ j. (j == key x) ≡ false) key xs (λ k d below. apart_test _ _ (apart 0 (suc k) d (omega arith) (omega arith)))),
  AreDistinct-from_apart key xs (λ i j d before below. apart (suc i) (suc j) d (omega arith) (omega arith)),
)

in_map : {X : Type 0} (key : X → ℕ) (k : ℕ) (xs : List X) (i : ℕ) (d : X) → i < length xs → key (get_or xs i d) ≡ k → list_any (λ j. j == k) (map key xs) ≡ true
in_map key k [] i d below same = absurd (omega arith)
in_map key k (x ∷ xs) zero d below same = ap (λ b. b || list_any (λ j. j == k) (map key xs)) (same_test _ _ (sym same))
in_map key k (x ∷ xs) (suc i) d below same = go (key x == k) (in_map key k xs i d (omega arith) same)
  where
    go : (b : Bool) → list_any (λ j. j == k) (map key xs) ≡ true → (b || list_any (λ j. j == k) (map key xs)) ≡ true
    go true rest = refl
    go false rest = rest

-- and the way back
pub apart-from_AreDistinct : {X : Type 0} (key : X → ℕ) (xs : List X) (i j : ℕ) (d : X) → AreDistinct (map key xs) → i < j → j < length xs → key (get_or xs i d) ≢ key (get_or xs j d)
apart-from_AreDistinct key [] i j d distinct before below = absurd (omega arith)
apart-from_AreDistinct key (x ∷ xs) i zero d distinct before below = absurd (omega arith)
apart-from_AreDistinct key (x ∷ xs) zero (suc j) d distinct before below = λ same. false≢true (sym distinct.0 ∙ in_map key (key x) xs j d (omega arith) (sym same))
apart-from_AreDistinct key (x ∷ xs) (suc i) (suc j) d distinct before below = apart-from_AreDistinct key xs i j d distinct.1 (omega arith) (omega arith)

rises : (a b : ℕ) → true ≡ ltb a b → a < b
rises a b e = grind (arith, nat_tests)

stays : (a b : ℕ) → false ≡ ltb a b → b ≤ a
stays a b e = grind (arith, nat_tests)

-- what the test of each row against the next says of rows in order
pub distinct_by_neighbours : {X : Type 0} (key : X → ℕ) (xs : List X) (r : Bool) → IsAllAdjacentAnswer (λ x y b. b ≡ ltb (key x) (key y)) xs r → IsNonDecreasingBy key xs
    → (IsTrue r → AreDistinct (map key xs)) × (AreDistinct (map key xs) → IsTrue r)
distinct_by_neighbours key xs true all order = (
  λ _. AreDistinct-from_apart key xs (λ i j d before below.
      let step = rises _ _ (all i d (omega arith)) in
      let rest = order (i + 1) j d (omega arith) below in
      λ same. omega (arith, step, rest, same)),
  λ _. refl,
)
distinct_by_neighbours key [] false (k, below, some) order = (λ is. absurd (false≢true is), λ distinct. absurd (omega arith))
distinct_by_neighbours key (x ∷ xs) false (k, below, some) order = (
  λ is. absurd (false≢true is),
  λ distinct.
      let falls = stays _ _ (some x) in
      let rises' = order k (k + 1) x (omega arith) below in
      absurd (apart-from_AreDistinct key (x ∷ xs) k (k + 1) x distinct (omega arith) below (omega (arith, falls, rises'))),
)

follows : (a b : ℕ) → true ≡ leb a b → a ≤ b
follows a b e = grind (arith, nat_tests)

exceeds : (a b : ℕ) → false ≡ leb a b → b < a
exceeds a b e = grind (arith, nat_tests)

-- what the test of each row against the next says of the order of all
pub in_order_by_neighbours : {X : Type 0} (key : X → ℕ) (xs : List X) (r : Bool) → IsAllAdjacentAnswer (λ x y b. b ≡ leb (key x) (key y)) xs r
    → (IsTrue r → IsNonDecreasingBy key xs) × (IsNonDecreasingBy key xs → IsTrue r)
in_order_by_neighbours key xs true all = (λ _. IsNonDecreasingBy-from_all_adjacent key xs (λ k d below. follows _ _ (all k d below)), λ _. refl)
in_order_by_neighbours key [] false (k, below, some) = (λ is. absurd (false≢true is), λ order. absurd (omega arith))
in_order_by_neighbours key (x ∷ xs) false (k, below, some) = (
  λ is. absurd (false≢true is),
  λ order.
      let falls = exceeds _ _ (some x) in
      absurd (omega (arith, falls, order k (k + 1) x (omega arith) below)),
)

-- a key that is made of two numbers determines both, where the second is of 32 bits
pub key_parts : (b n b' n' : ℕ) → n < 2 ^ 32 → n' < 2 ^ 32 → 2 ^ 32 * b + n ≡ 2 ^ 32 * b' + n' → (b ≡ b') × (n ≡ n')
key_parts b n b' n' small small' same = (omega arith, omega arith)

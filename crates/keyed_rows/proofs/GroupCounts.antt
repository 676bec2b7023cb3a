-- How many rows of one group stand among rows in order of their groups.
use Rattle.std.proofs.Common.{◌≡◌, ◌≢◌, ◌==◌, ℕ, ◌+◌, ◌<◌, ◌≤◌, zero, suc, List, [], ◌∷◌, length, get_or, count_by, cond, drop, Bool, true, false, IsTrue, MatchBool, refl, ap, arith, sym, ◌∙◌, subst, length-drop, ◌-◌}
use Rattle.std.specs.List.Sorted.{IsNonDecreasingBy}
use Rattle.std.specs.List.{filter, zip, HoldsAt, AllWithin}
use Rattle.std.proofs.lemmas.Bool.Decides.{nat_tests}
use Rattle.std.proofs.lemmas.Bool.{false≢true}
use Rattle.std.proofs.lemmas.List.{get_or-drop}
use Rattle.std.proofs.lemmas.List.Sums.{length-filter}
use Rattle.std.proofs.lemmas.Slice.Zip.{length-zip, get_or-zip}
use Rattle.keyed_rows.proofs.Rows.{rest_in_order}

one_more : (a b c d : ℕ) → c ≡ a → d ≡ b → c ≡ suc d → a ≡ 1 + b
one_more a b c d left right step = omega arith

counted : {X : Type 0} (p : X → Bool) (x : X) (xs : List X) → p x ≡ true → count_by p (x ∷ xs) ≡ 1 + count_by p xs
counted p x xs is = one_more _ _ _ _ (length-filter p (x ∷ xs)) (length-filter p xs) (ap (λ b. length (cond b (x ∷ filter p xs) (filter p xs))) is)

passed_over : {X : Type 0} (p : X → Bool) (x : X) (xs : List X) → p x ≡ false → count_by p (x ∷ xs) ≡ count_by p xs
passed_over p x xs is = sym (length-filter p (x ∷ xs)) ∙ ap (λ b. length (cond b (x ∷ filter p xs) (filter p xs))) is ∙ length-filter p xs

-- where none passes from a place on, no more pass than stand before it
few_before : {X : Type 0} (p : X → Bool) (xs : List X) (m : ℕ) → ((k : ℕ) (d : X) → m ≤ k → k < length xs → p (get_or xs k d) ≡ false) → count_by p xs ≤ m
few_before p [] m none = omega arith
few_before p (x ∷ xs) zero none =
    let rest = few_before p xs 0 (λ k d from below. none (suc k) d (omega arith) (omega arith)) in
    omega (arith, rest, passed_over p x xs (none 0 x (omega arith) (omega arith)))
few_before p (x ∷ xs) (suc m) none = go (p x) refl (few_before p xs m (λ k d from below. none (suc k) d (omega arith) (omega arith)))
  where
    go : (b : Bool) → p x ≡ b → count_by p xs ≤ m → count_by p (x ∷ xs) ≤ suc m
    go true is rest = omega (arith, rest, counted p x xs is)
    go false is rest = omega (arith, rest, passed_over p x xs is)

not_above : (u a b c : ℕ) → (a == u) ≡ true → a ≤ b → a ≢ b → b ≤ c → (c == u) ≡ false
not_above u a b c is low apart high = grind (arith, nat_tests)

is_group : (u a : ℕ) → a ≡ u → (a == u) ≡ true
is_group u a is = grind (arith, nat_tests)

-- where each row is of another group than the row n places after it, no group has more than n rows
pub small_from_apart : {X : Type 0} (group : X → ℕ) (xs : List X) (most u : ℕ) → IsNonDecreasingBy group xs
    → ((i j : ℕ) (d : X) → j ≡ i + most → j < length xs → group (get_or xs i d) ≢ group (get_or xs j d)) → count_by (λ x. group x == u) xs ≤ most
small_from_apart group [] most u order apart = omega arith
small_from_apart group (x ∷ xs) most u order apart =
    go (group x == u) refl (small_from_apart group xs most u (rest_in_order group x xs order) (λ i j d at below. apart (suc i) (suc j) d (omega arith) (omega arith)))
  where
    go : (b : Bool) → (group x == u) ≡ b → count_by (λ y. group y == u) xs ≤ most → count_by (λ y. group y == u) (x ∷ xs) ≤ most
    go true is rest = few_before (λ y. group y == u) (x ∷ xs) most
        (λ k d from below. not_above u (group x) (group (get_or (x ∷ xs) most d)) _ is (order 0 most d (omega arith) (omega arith)) (apart 0 most d (omega arith) (omega arith))
        (order most k d from below))
    go false is rest = omega (arith, rest, passed_over (λ y. group y == u) x xs is)

-- each row between two of one group is of that group
pub many_between : {X : Type 0} (group : X → ℕ) (xs : List X) (a b u : ℕ) (d : X) → IsNonDecreasingBy group xs → a ≤ b → b < length xs
    → group (get_or xs a d) ≡ u → group (get_or xs b d) ≡ u → b + 1 ≤ a + count_by (λ x. group x == u) xs
many_between group [] a b u d order before below first last = absurd (omega arith)
many_between group (x ∷ xs) zero zero u d order before below first last =
    omega (arith, counted (λ y. group y == u) x xs (is_group u (group x) first))
many_between group (x ∷ xs) zero (suc b) u d order before below first last =
    let low = order 0 1 d (omega arith) (omega arith) in
    let high = order 1 (suc b) d (omega arith) below in
    let next : group (get_or xs 0 d) ≡ u = omega (arith, low, high, first, last) in
    let rest = many_between group xs 0 b u d (rest_in_order group x xs order) (omega arith) (omega arith) next last in
    omega (arith, rest, counted (λ y. group y == u) x xs (is_group u (group x) first))
many_between group (x ∷ xs) (suc a) zero u d order before below first last = absurd (omega arith)
many_between group (x ∷ xs) (suc a) (suc b) u d order before below first last =
    go (group x == u) refl (many_between group xs a b u d (rest_in_order group x xs order) (omega arith) (omega arith) first last)
  where
    go : (t : Bool) → (group x == u) ≡ t → b + 1 ≤ a + count_by (λ y. group y == u) xs → suc b + 1 ≤ suc a + count_by (λ y. group y == u) (x ∷ xs)
    go true is rest = omega (arith, rest, counted (λ y. group y == u) x xs is)
    go false is rest = omega (arith, rest, passed_over (λ y. group y == u) x xs is)

-- each row with the row n places after it
abbrev pub Pairs : {X : Type 0} → List X → ℕ → List (X × X)
Pairs xs most = zip xs (drop most xs)

length-Pairs : {X : Type 0} (xs : List X) (most : ℕ) → length (Pairs xs most) ≡ length xs - most
length-Pairs xs most = omega (arith, length-zip xs (drop most xs), length-drop most xs)

get_or-Pairs : {X : Type 0} (xs : List X) (most i j : ℕ) (d : X) → j ≡ i + most → j < length xs → get_or (Pairs xs most) i (d, d) ≡ (get_or xs i d, get_or xs j d)
get_or-Pairs xs most i j d at below =
    let at' : most + i ≡ j = omega arith in
    get_or-zip xs (drop most xs) i (d, d) (omega arith) (omega (arith, length-drop most xs))
    ∙ ap (λ y. (get_or xs i d, y)) (get_or-drop most xs i d ∙ ap (λ k. get_or xs k d) at')

-- what the test of each pair says of the counts
pub small_by_pairs : {X : Type 0} (group : X → ℕ) (xs : List X) (most : ℕ) (r : Bool)
    → MatchBool r (AllWithin (λ p. group p.0 ≢ group p.1) (Pairs xs most) 0 (length (Pairs xs most)))
    ((k : ℕ) × (k < length (Pairs xs most)) × HoldsAt (λ p. group p.0 ≡ group p.1) (Pairs xs most) k)
    → IsNonDecreasingBy group xs → (IsTrue r → (u : ℕ) → count_by (λ x. group x == u) xs ≤ most) × (((u : ℕ) → count_by (λ x. group x == u) xs ≤ most) → IsTrue r)
small_by_pairs {X = X} group xs most true all order = (
  λ _ u. small_from_apart group xs most u order (λ i j d at below.
      let P : X × X → Type 0 = λ p. group p.0 ≢ group p.1 in
      subst P (get_or-Pairs xs most i j d at below) (all i (d, d) (omega arith) (omega (arith, length-Pairs xs most)))),
  λ _. refl,
)
small_by_pairs {X = X} group [] most false (k, below, same) order = (λ is. absurd (false≢true is), λ few. absurd (omega (arith, length-Pairs {X = X} [] most)))
small_by_pairs {X = X} group (x ∷ xs) most false (k, below, same) order = (
  λ is. absurd (false≢true is),
  λ few.
      let P : X × X → Type 0 = λ p. group p.0 ≡ group p.1 in
      let inside : k + most < length (x ∷ xs) = omega (arith, length-Pairs (x ∷ xs) most) in
      let twice = subst P (get_or-Pairs (x ∷ xs) most k (k + most) x refl inside) (same (x, x)) in
      let many = many_between group (x ∷ xs) k (k + most) (group (get_or (x ∷ xs) k x)) x order (omega arith) inside refl (sym twice) in
      absurd (omega (arith, many, few (group (get_or (x ∷ xs) k x)))),
)

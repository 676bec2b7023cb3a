-- Rows by key: at most one has it, and those in order of keys that differ rise.
use Rattle.std.proofs.Common.{◌≡◌, ◌≢◌, ℕ, ◌≤◌, ◌<◌, suc, List, [], ◌∷◌, map, filter, length, get_or, Bool, true, false, not, cond, refl, ap, arith, sym, ◌∙◌, subst, ◌==◌, ◌||◌, Some, None, Option, IsPermutation}
use Rattle.std.specs.Prelude.{if◌then◌else◌, option_map}
use Rattle.std.specs.List.{find, list_any, cons_option}
use Rattle.std.specs.List.Sorted.{IsNonDecreasingBy}
use Rattle.std.proofs.lemmas.Bool.{eqb-true}
use Rattle.std.proofs.lemmas.List.Sorted.{IsPermutation-refl, IsPermutation-cons, IsPermutation-trans, IsPermutation-middle, IsPermutation-insert}
use Rattle.sqlite_trees.specs.Tree.{IsAscending}
use Rattle.sqlite_rules.proofs.ListLemmas.{all_from, all_has, contains_had, has_filtered}
use Rattle.keyed_rows.specs.Ordered.{AreDistinct, add_row}
use Rattle.keyed_rows.proofs.AddRow.{insert-place, place}
use Rattle.keyed_rows.proofs.DistinctKeys.{apart-from_AreDistinct}
use Rattle.keyed_rows.proofs.MadeRows.{IsNonDecreasingBy-made}
use Rattle.book_kept.specs.Sheets.{set_row}

pub swap : {X : Type 0} (x y : X) (xs : List X) → IsPermutation (x ∷ y ∷ xs) (y ∷ x ∷ xs)
swap x y xs = IsPermutation-middle (x ∷ []) y xs

pub add_row-permutes : {X : Type 0} (key : X → ℕ) (e : X) (xs : List X) → IsPermutation (e ∷ xs) (add_row key e xs)
add_row-permutes key e xs = subst (IsPermutation (e ∷ xs)) (insert-place key e xs) (IsPermutation-insert xs (place key e xs) e)

module _ {X : Type 0} (key : X → ℕ) where
  none : (k : ℕ) (xs : List X) → list_any (λ j. j == k) (map key xs) ≡ false → filter (λ x. key x == k) xs ≡ []
  none k [] h = refl
  none k (x ∷ xs) h = go (key x == k) refl h (none k xs)
    where
      go : (b : Bool) → (key x == k) ≡ b → (b || list_any (λ j. j == k) (map key xs)) ≡ false → (list_any (λ j. j == k) (map key xs) ≡ false → filter (λ y. key y == k) xs ≡ []) → cond b (x ∷ filter (λ y. key y == k) xs) (filter (λ y. key y == k) xs) ≡ []
      go true is h rest = absurd cc
      go false is h rest = rest h

  pub one_of_key : (k : ℕ) (xs : List X) → AreDistinct (map key xs) → filter (λ x. key x == k) xs ≡ cons_option (find (λ x. key x == k) xs) []
  one_of_key k [] distinct = refl
  one_of_key k (x ∷ xs) distinct = go (key x == k) refl (one_of_key k xs distinct.1)
    where
      go : (b : Bool) → (key x == k) ≡ b → filter (λ y. key y == k) xs ≡ cons_option (find (λ y. key y == k) xs) []
          → cond b (x ∷ filter (λ y. key y == k) xs) (filter (λ y. key y == k) xs) ≡ cons_option (cond b (Some x) (find (λ y. key y == k) xs)) []
      go true is rest = ap (λ ys. x ∷ ys) (none k xs (subst (λ j. list_any (λ i. i == j) (map key xs) ≡ false) (eqb-true (key x) k is) distinct.0))
      go false is rest = rest

  same : (new : X) (xs : List X) → list_any (λ j. j == key new) (map key xs) ≡ false → (filter (λ y. not (key y == key new)) xs ≡ xs) × (set_row key new xs ≡ xs)
  same new [] h = (refl, refl)
  same new (x ∷ xs) h = go (key x == key new) h (same new xs)
    where
      go : (b : Bool) → (b || list_any (λ j. j == key new) (map key xs)) ≡ false
          → (list_any (λ j. j == key new) (map key xs) ≡ false → (filter (λ y. not (key y == key new)) xs ≡ xs) × (set_row key new xs ≡ xs))
          → (cond (not b) (x ∷ filter (λ y. not (key y == key new)) xs) (filter (λ y. not (key y == key new)) xs) ≡ x ∷ xs) × (cond b new x ∷ set_row key new xs ≡ x ∷ xs)
      go true h rest = absurd cc
      go false h rest = (ap (λ ys. x ∷ ys) (rest h).0, ap (λ ys. x ∷ ys) (rest h).1)

  in_front : (o : Option X) (x new : X) (ys zs : List X) → IsPermutation (cons_option (option_map (λ _. new) o) ys) zs → IsPermutation (cons_option (option_map (λ _. new) o) (x ∷ ys)) (x ∷ zs)
  in_front None x new ys zs h = IsPermutation-cons x ys zs h
  in_front (Some y) x new ys zs h = IsPermutation-trans _ _ _ (swap new x ys) (IsPermutation-cons x _ zs h)

  -- with a row in place of the one of its key, where that is there
  pub set_row-permutes : (new : X) (xs : List X) → AreDistinct (map key xs)
      → IsPermutation (cons_option (option_map (λ _. new) (find (λ x. key x == key new) xs)) (filter (λ y. not (key y == key new)) xs)) (set_row key new xs)
  set_row-permutes new [] distinct = IsPermutation-refl []
  set_row-permutes new (x ∷ xs) distinct = go (key x == key new) refl (set_row-permutes new xs distinct.1)
    where
      go : (b : Bool) → (key x == key new) ≡ b → IsPermutation (cons_option (option_map (λ _. new) (find (λ y. key y == key new) xs)) (filter (λ y. not (key y == key new)) xs)) (set_row key new xs)
          → IsPermutation (cons_option (option_map (λ _. new) (cond b (Some x) (find (λ y. key y == key new) xs))) (cond (not b) (x ∷ filter (λ y. not (key y == key new)) xs) (filter (λ y. not (key y == key new)) xs)))
          (cond b new x ∷ set_row key new xs)
      go true is rest =
          let both = same new xs (subst (λ j. list_any (λ i. i == j) (map key xs) ≡ false) (eqb-true (key x) (key new) is) distinct.0) in
          subst (λ ys. IsPermutation (new ∷ filter (λ y. not (key y == key new)) xs) (new ∷ ys)) (both.0 ∙ sym both.1) (IsPermutation-refl _)
      go false is rest = in_front (find (λ y. key y == key new) xs) x new _ _ rest

  -- a row is set where its key is, and the keys stay
  key-set : (new x : X) (b : Bool) → (key x == key new) ≡ b → key (cond b new x) ≡ key x
  key-set new x true is = sym (eqb-true (key x) (key new) is)
  key-set new x false is = refl

  pub keys-set_row : (new : X) (xs : List X) → map key (set_row key new xs) ≡ map key xs
  keys-set_row new [] = refl
  keys-set_row new (x ∷ xs) = ap (λ k. k ∷ map key (set_row key new xs)) (key-set new x (key x == key new) refl) ∙ ap (λ ks. key x ∷ ks) (keys-set_row new xs)

  pub order-set_row : (new : X) (xs : List X) → IsNonDecreasingBy key xs → IsNonDecreasingBy key (set_row key new xs)
  order-set_row new xs = IsNonDecreasingBy-made key (λ x. if key x == key new then new else x) (λ x. key-set new x (key x == key new) refl) xs

  -- where no row has the key, nothing is set
  pub set_row-absent : (new : X) (xs : List X) → find (λ x. key x == key new) xs ≡ None → set_row key new xs ≡ xs
  set_row-absent new [] h = refl
  set_row-absent new (x ∷ xs) h = go (key x == key new) h (set_row-absent new xs)
    where
      go : (b : Bool) → cond b (Some x) (find (λ y. key y == key new) xs) ≡ None → (find (λ y. key y == key new) xs ≡ None → set_row key new xs ≡ xs) → cond b new x ∷ set_row key new xs ≡ x ∷ xs
      go true h rest = absurd cc
      go false h rest = ap (λ ys. x ∷ ys) (rest h)

  less : (a b : ℕ) → a ≤ b → a ≢ b → a < b
  less a b most apart = grind arith

  abbrev pub Rises : List X → Type 0
  Rises = IsAscending (λ x y. key x < key y)

  pub rising : (xs : List X) → AreDistinct (map key xs) → IsNonDecreasingBy key xs → Rises xs
  rising [] distinct order = tt
  rising (x ∷ xs) distinct order = (
    all_from (λ y. key x < key y) xs (λ y has.
        let there = contains_had xs y has in
        let below : there.0 < length xs = there.1 in
        let most = order 0 (suc there.0) y (omega arith) (omega arith) in
        let apart = apart-from_AreDistinct key (x ∷ xs) 0 (suc there.0) y distinct (omega arith) (omega arith) in
        subst (λ z. key x < key z) there.2 (less (key x) (key (get_or xs there.0 y)) most apart)),
    rising xs distinct.1 (λ i j d before below. order (suc i) (suc j) d (omega arith) (omega arith)),
  )

  -- what is so of two rows that pass, the first with the lower key, is so along those that pass
  pub picked_rise : (p : X → Bool) (R : X → X → Type 0) → ((x y : X) → p x ≡ true → p y ≡ true → key x < key y → R x y) → (xs : List X) → Rises xs → IsAscending R (filter p xs)
  picked_rise p R each [] up = tt
  picked_rise p R each (x ∷ xs) up = go (p x) refl (picked_rise p R each xs up.1)
    where
      go : (b : Bool) → p x ≡ b → IsAscending R (filter p xs) → IsAscending R (cond b (x ∷ filter p xs) (filter p xs))
      go false is rest = rest
      go true is rest = (all_from (R x) (filter p xs) (λ y has. let kept = has_filtered p xs y has in each x y is kept.1 (all_has (λ z. key x < key z) xs y up.0 kept.0)), rest)

-- Rows in order of their keys, where those of one key keep their order, are in one order only.
use Rattle.std.proofs.Common.{◌≡◌, ◌==◌, ◌&&◌, ℕ, ◌<◌, ◌≤◌, zero, suc, List, [], ◌∷◌, ◌++◌, length, get_or, Bool, true, false, not, cond, refl, ap, ap₂, arith, sym, ◌∙◌, append_assoc, append-nil}
use Rattle.std.specs.Prelude.{fold, nat_le}
use Rattle.std.specs.List.{AllByRecursion, filter}
use Rattle.std.specs.List.Sorted.{IsNonDecreasingBy, IsStableByKey}
use Rattle.std.specs.Ordering.{is_lt, nat_cmp}
use Rattle.std.proofs.lemmas.Bool.Decides.{nat_tests}
use Rattle.keyed_rows.specs.Ordered.{add_row}
use Rattle.keyed_rows.proofs.AddRow.{IsNonDecreasingBy-add_row}
use Rattle.list_order.specs.Sorted.{in_order}

module _ {T : Type 0} (key : T → ℕ) where
  -- the rows of this key
  abbrev like : ℕ → List T → List T
  like k rows = filter (λ row. key row == k) rows

  -- no key is above one after it
  abbrev pub Rises : List T → Type 0
  Rises [] = Unit {0}
  Rises (x ∷ xs) = AllByRecursion (λ y. key x ≤ key y) xs × Rises xs

  all_from : (k : ℕ) (xs : List T) → ((i : ℕ) (d : T) → i < length xs → k ≤ key (get_or xs i d)) → AllByRecursion (λ y. k ≤ key y) xs
  all_from k [] above = tt
  all_from k (x ∷ xs) above = (above 0 x (omega arith), all_from k xs (λ i d below. above (suc i) d (omega arith)))

  pub rises : (xs : List T) → IsNonDecreasingBy key xs → Rises xs
  rises [] order = tt
  rises (x ∷ xs) order = (
    all_from (key x) xs (λ i d below. order 0 (suc i) d (omega arith) (omega arith)),
    rises xs (λ i j d before below. order (suc i) (suc j) d (omega arith) (omega arith)),
  )

  above_at : (k : ℕ) (xs : List T) (i : ℕ) (d : T) → AllByRecursion (λ y. k ≤ key y) xs → i < length xs → k ≤ key (get_or xs i d)
  above_at k [] i d all below = absurd (omega arith)
  above_at k (x ∷ xs) zero d all below = all.0
  above_at k (x ∷ xs) (suc i) d all below = above_at k xs i d all.1 (omega arith)

  pub from-rises : (xs : List T) → Rises xs → IsNonDecreasingBy key xs
  from-rises [] up i j d before below = absurd (omega arith)
  from-rises (x ∷ xs) up zero zero d before below = omega arith
  from-rises (x ∷ xs) up zero (suc j) d before below = above_at (key x) xs j d up.0 (omega arith)
  from-rises (x ∷ xs) up (suc i) zero d before below = absurd (omega arith)
  from-rises (x ∷ xs) up (suc i) (suc j) d before below = from-rises xs up.1 i j d (omega arith) (omega arith)

  kept : (k : ℕ) (x : T) (xs : List T) → (key x == k) ≡ true → like k (x ∷ xs) ≡ x ∷ like k xs
  kept k x xs is = ap (λ b. cond b (x ∷ like k xs) (like k xs)) is

  left : (k : ℕ) (x : T) (xs : List T) → (key x == k) ≡ false → like k (x ∷ xs) ≡ like k xs
  left k x xs is = ap (λ b. cond b (x ∷ like k xs) (like k xs)) is

  its_own : (x : T) → (key x == key x) ≡ true
  its_own x = grind (arith, nat_tests)

  at_least : (a b k : ℕ) → (b == k) ≡ true → a ≤ b → a ≤ k
  at_least a b k is low = grind (arith, nat_tests)

  -- a key that some row has is not below the least
  least : (a k : ℕ) (xs rest : List T) (x : T) → AllByRecursion (λ y. a ≤ key y) xs → like k xs ≡ x ∷ rest → a ≤ k
  least a k [] rest x low some = cc
  least a k (y ∷ ys) rest x low some = go (λ e. least a k ys rest x low.1 e) (key y == k) refl some
    where
      go : (like k ys ≡ x ∷ rest → a ≤ k) → (b : Bool) → (key y == k) ≡ b → cond b (y ∷ like k ys) (like k ys) ≡ x ∷ rest → a ≤ k
      go following true is e = at_least a (key y) k is low.0
      go following false is e = following e

  least_first : (a : T) (us : List T) (k : ℕ) (rest : List T) (x : T) → AllByRecursion (λ y. key a ≤ key y) us → like k (a ∷ us) ≡ x ∷ rest → key a ≤ k
  least_first a us k rest x low some = least (key a) k (a ∷ us) rest x (omega arith, low) some

  same_test : (a b k : ℕ) (t : Bool) → a ≡ b → (a == k) ≡ t → (b == k) ≡ t
  same_test a b k t is e = rw is at e

  -- rows in order that have the same rows of each key are the same
  pub one_order : (us vs : List T) → Rises us → Rises vs → ((x : T) → like (key x) us ≡ like (key x) vs) → us ≡ vs
  one_order [] [] a b same = refl
  one_order [] (y ∷ ys) a b same = let e = same y ∙ kept (key y) y ys (its_own y) in cc
  one_order (x ∷ xs) [] a b same = let e = sym (kept (key x) x xs (its_own x)) ∙ same x in cc
  one_order (x ∷ xs) (y ∷ ys) a b same =
      let from_x = sym (same x) ∙ kept (key x) x xs (its_own x) in
      let from_y = same y ∙ kept (key y) y ys (its_own y) in
      let low = least_first y ys (key x) (like (key x) xs) x b.0 from_x in
      let high = least_first x xs (key y) (like (key y) ys) y a.0 from_y in
      let level : key x ≡ key y = omega (arith, low, high) in
      let heads = sym (kept (key x) x xs (its_own x)) ∙ same x ∙ kept (key x) y ys (same_test (key x) (key y) (key x) true level (its_own x)) in
      let first : x ≡ y = cc in
      ap₂ (λ z zs. z ∷ zs) first (one_order xs ys a.1 b.1 (λ z. tails x y xs ys (key z) level heads (same z)))
    where
      tails : (x y : T) (xs ys : List T) (k : ℕ) → key x ≡ key y → x ∷ like (key x) xs ≡ y ∷ like (key x) ys → like k (x ∷ xs) ≡ like k (y ∷ ys) → like k xs ≡ like k ys
      tails x y xs ys k level heads both = go (key x == k) refl
        where
          go : (b : Bool) → (key x == k) ≡ b → like k xs ≡ like k ys
          go true is = let e = sym (kept k x xs is) ∙ both ∙ kept k y ys (same_test (key x) (key y) k true level is) in cc
          go false is = sym (left k x xs is) ∙ both ∙ left k y ys (same_test (key x) (key y) k false level is)

  -- ---- the rows written one after another

  none_like : (k a : ℕ) (ys : List T) → k < a → AllByRecursion (λ y. a ≤ key y) ys → like k ys ≡ []
  none_like k a [] above low = refl
  none_like k a (y ∷ ys) above low = left k y ys (other k a (key y) above low.0) ∙ none_like k a ys above low.1
    where
      other : (k a b : ℕ) → k < a → a ≤ b → (b == k) ≡ false
      other k a b above low = grind (arith, nat_tests)

  added : (k : ℕ) (e : T) (ys : List T) → Rises ys → like k (add_row key e ys) ≡ like k ys ++ like k (e ∷ [])
  added k e [] order = refl
  added k e (y ∷ ys) order = go (nat_le (key y) (key e)) refl (added k e ys order.1)
    where
      low : (a b : ℕ) → nat_le a b ≡ false → b < a
      low a b is = grind (arith, nat_tests)

      is_key : (a k : ℕ) → (a == k) ≡ true → a ≡ k
      is_key a k is = grind (arith, nat_tests)

      before : (b : Bool) → (key e == k) ≡ b → key e < key y → like k (e ∷ y ∷ ys) ≡ like k (y ∷ ys) ++ like k (e ∷ [])
      before true is above =
          let none = none_like k (key y) (y ∷ ys) (let same = is_key (key e) k is in omega arith) (omega arith, order.0) in
          kept k e (y ∷ ys) is ∙ ap (λ l. e ∷ l) none ∙ sym (kept k e [] is) ∙ ap (λ l. l ++ like k (e ∷ [])) (sym none)
      before false is above = left k e (y ∷ ys) is ∙ sym (append-nil (like k (y ∷ ys))) ∙ ap (λ l. like k (y ∷ ys) ++ l) (sym (left k e [] is))

      following : (b : Bool) → (key y == k) ≡ b → like k (add_row key e ys) ≡ like k ys ++ like k (e ∷ []) → like k (y ∷ add_row key e ys) ≡ like k (y ∷ ys) ++ like k (e ∷ [])
      following true is rest = kept k y (add_row key e ys) is ∙ ap (λ l. y ∷ l) rest ∙ ap (λ l. l ++ like k (e ∷ [])) (sym (kept k y ys is))
      following false is rest = left k y (add_row key e ys) is ∙ rest ∙ ap (λ l. l ++ like k (e ∷ [])) (sym (left k y ys is))

      go : (b : Bool) → nat_le (key y) (key e) ≡ b → like k (add_row key e ys) ≡ like k ys ++ like k (e ∷ []) → like k (cond b (y ∷ add_row key e ys) (e ∷ y ∷ ys)) ≡ like k (y ∷ ys) ++ like k (e ∷ [])
      go true is rest = following (key y == k) refl rest
      go false is rest = before (key e == k) refl (low (key y) (key e) is)

  two : (k : ℕ) (x : T) (xs : List T) → like k (x ∷ []) ++ like k xs ≡ like k (x ∷ xs)
  two k x xs = go (key x == k)
    where
      go : (b : Bool) → cond b (x ∷ []) [] ++ like k xs ≡ cond b (x ∷ like k xs) (like k xs)
      go true = refl
      go false = refl

  written : (k : ℕ) (placed xs : List T) → IsNonDecreasingBy key placed → like k (fold (λ ys x. add_row key x ys) placed xs) ≡ like k placed ++ like k xs
  written k placed [] order = sym (append-nil (like k placed))
  written k placed (x ∷ xs) order =
      written k (add_row key x placed) xs (IsNonDecreasingBy-add_row key x placed order)
      ∙ ap (λ l. l ++ like k xs) (added k x placed (rises placed order)) ∙ append_assoc (like k placed) (like k (x ∷ [])) (like k xs) ∙ ap (λ l. like k placed ++ l) (two k x xs)

  ordered : (placed xs : List T) → IsNonDecreasingBy key placed → IsNonDecreasingBy key (fold (λ ys x. add_row key x ys) placed xs)
  ordered placed [] order = order
  ordered placed (x ∷ xs) order = ordered (add_row key x placed) xs (IsNonDecreasingBy-add_row key x placed order)

  none_in_order : IsNonDecreasingBy key []
  none_in_order i j d before below = absurd (omega arith)

  -- ---- what a stable sort makes

  filter_same : (p q : T → Bool) (xs : List T) → ((x : T) → p x ≡ q x) → filter p xs ≡ filter q xs
  filter_same p q [] same = refl
  filter_same p q (x ∷ xs) same = ap₂ (λ b l. cond b (x ∷ l) l) (same x) (filter_same p q xs same)

  tied : (a b : ℕ) → (not (is_lt (nat_cmp a b)) && not (is_lt (nat_cmp b a))) ≡ (b == a)
  tied a b = grind (arith, nat_tests)

  pub sorted-is : (xs ys : List T) → IsNonDecreasingBy key ys → IsStableByKey key nat_cmp xs ys → ys ≡ in_order key xs
  sorted-is xs ys order stable = one_order ys (in_order key xs) (rises ys order) (rises (in_order key xs) (ordered [] xs none_in_order))
      (λ x. sym (filter_same _ _ ys (λ y. tied (key x) (key y))) ∙ stable x ∙ filter_same _ _ xs (λ y. tied (key x) (key y)) ∙ sym (written (key x) [] xs none_in_order))

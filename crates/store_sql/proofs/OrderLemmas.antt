-- Rows in order of distinct keys have one order, so a table is of one list.
use Rattle.std.proofs.Common.{◌≡◌, ℕ, suc, ◌+◌, ◌≤◌, ◌<◌, List, [], ◌∷◌, map, length, get_or, Bool, true, false, ◌||◌, ◌==◌, refl, ap, arith, sym, ◌∙◌, subst, Less, is_lt, IsPermutation, IsSorted, Contains}
use Rattle.std.specs.List.{AllByRecursion, list_any}
use Rattle.std.specs.List.Sorted.{IsNonDecreasingBy}
use Rattle.std.specs.Ordering.{nat_cmp}
use Rattle.std.specs.Cmp.{nat_cmp_total, on_total}
use Rattle.std.proofs.lemmas.Bool.Decides.{nat_tests}
use Rattle.std.proofs.lemmas.List.Sorted.{IsPermutation-map, IsPermutation-sym, IsPermutation-trans}
use Rattle.sqlite_trees.specs.Tree.{IsAscending}
use Rattle.sqlite_keyed.proofs.SortLemmas.{sorted_unique}
use Rattle.sqlite.specs.Order.{Row}
use Rattle.keyed_rows.specs.Ordered.{AreDistinct}
use Rattle.keyed_rows.proofs.Rows.{Contains-head, Contains-tail}
use Rattle.book_kept.specs.Keepable.{IsOrdered}
use Rattle.sql_schema.specs.HeldRows.{HoldsRows}

not_less : (m n : ℕ) → m ≤ n → is_lt (nat_cmp n m) ≡ false
not_less m n h = grind (arith, nat_tests)

less : (m n : ℕ) → m ≤ n → (n == m) ≡ false → nat_cmp m n ≡ Less
less m n h apart = grind (arith, nat_tests)

module _ {X : Type 0} (key : X → ℕ) where
  sorted : (xs : List X) → IsNonDecreasingBy key xs → IsSorted (λ a b. nat_cmp (key a) (key b)) xs
  sorted xs h = λ k d low high. not_less _ _ (h k (k + 1) d (omega arith) high)

  all_above : (n : ℕ) (xs : List X) → ((i : ℕ) (d : X) → i < length xs → n ≤ key (get_or xs i d)) → list_any (λ j. j == n) (map key xs) ≡ false → AllByRecursion (λ y. nat_cmp n (key y) ≡ Less) xs
  all_above n [] low apart = tt
  all_above n (x ∷ xs) low apart = go (key x == n) refl apart (all_above n xs (λ i d below. low (suc i) d (omega arith)))
    where
      go : (b : Bool) → (key x == n) ≡ b → (b || list_any (λ j. j == n) (map key xs)) ≡ false → (list_any (λ j. j == n) (map key xs) ≡ false → AllByRecursion (λ y. nat_cmp n (key y) ≡ Less) xs)
          → (nat_cmp n (key x) ≡ Less) × AllByRecursion (λ y. nat_cmp n (key y) ≡ Less) xs
      go true is h rest = absurd cc
      go false is h rest = (less n (key x) (low 0 x (omega arith)) is, rest h)

  strict : (xs : List X) → AreDistinct (map key xs) → IsNonDecreasingBy key xs → IsAscending (λ a b. nat_cmp (key a) (key b) ≡ Less) xs
  strict [] distinct order = tt
  strict (x ∷ xs) distinct order =
      (all_above (key x) xs (λ i d below. order 0 (suc i) d (omega arith) (omega arith)) distinct.0, strict xs distinct.1 (λ i j d le below. order (suc i) (suc j) d (omega arith) (omega arith)))

  pub one_order : (xs ys : List X) → IsOrdered key xs → IsOrdered key ys → IsPermutation xs ys → xs ≡ ys
  one_order xs ys h k same = sym (sorted_unique (λ a b. nat_cmp (key a) (key b)) (on_total key nat_cmp_total) xs ys (strict xs h.distinct h.in_order) same (sorted ys k.in_order))

-- a table holds one list, where its cells determine its rows
module _ {X : Type 0} (shows : Row → Row) (cells : X → Row) (key : X → ℕ) (Fits : X → Type 0) (back : Row → X) (tells : (x : X) → Fits x → back (cells x) ≡ x) where
  back_all : (xs : List X) → ((x : X) → Contains xs x → Fits x) → map back (map cells xs) ≡ xs
  back_all [] fit = refl
  back_all (x ∷ xs) fit = ap (λ y. y ∷ map back (map cells xs)) (tells x (fit x (Contains-head x xs))) ∙ ap (λ ys. x ∷ ys) (back_all xs (λ y there. fit y (Contains-tail x xs y there)))

  -- equal cells are of equal rows
  pub same_rows : (xs ys : List X) → ((x : X) → Contains xs x → Fits x) → ((y : X) → Contains ys y → Fits y) → map cells xs ≡ map cells ys → xs ≡ ys
  same_rows xs ys h k same = sym (back_all xs h) ∙ ap (map back) same ∙ back_all ys k

  pub one_list : (xs ys : List X) (tree : List Row) → HoldsRows shows cells key Fits xs tree → HoldsRows shows cells key Fits ys tree → xs ≡ ys
  one_list xs ys tree h k =
      let both = IsPermutation-map back _ _ (IsPermutation-trans _ _ _ h.same (IsPermutation-sym _ _ k.same)) in
      one_order key xs ys h.ordered k.ordered (subst (λ l. IsPermutation l ys) (back_all xs h.fit) (subst (IsPermutation (map back (map cells xs))) (back_all ys k.fit) both))

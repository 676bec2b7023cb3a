-- Rows each of which lies below those after it: the same as rows in order of distinct keys.
use Rattle.std.proofs.Common.{◌≡◌, ◌≢◌, ℕ, ◌<◌, ◌≤◌, zero, suc, List, [], ◌∷◌, ◌++◌, map, get_or, ap, arith, sym, ◌∙◌, subst, Contains, inl, inr}
use Rattle.std.specs.List.Sorted.{IsNonDecreasingBy}
use Rattle.std.proofs.lemmas.List.Elements.{Contains-append_cases, Contains-get_or}
use Rattle.keyed_rows.specs.Ordered.{AreDistinct}
use Rattle.keyed_rows.proofs.Rows.{Contains-head, Contains-map_source, Contains-tail, first_apart, none_of_key, rest_in_order}
use Rattle.book_kept.specs.Keepable.{IsOrdered}

-- each lies below those after it
abbrev pub Rises : {X : Type 0} → (X → ℕ) → List X → Type 0
Rises key [] = Unit {0}
Rises {X} key (x ∷ xs) = ((y : X) → Contains xs y → key x < key y) × Rises key xs

-- no row has a lower key than the first
pub first_lowest : {X : Type 0} (key : X → ℕ) (x : X) (xs : List X) (y : X) → IsNonDecreasingBy key (x ∷ xs) → Contains (x ∷ xs) y → key x ≤ key y
first_lowest key x xs y order (k, within, is) = subst (λ z. key x ≤ key z) is (order 0 k y (omega arith) within)

lower : (a b : ℕ) → a ≤ b → a ≢ b → a < b
lower a b low apart = omega arith

pub Rises-from_order : {X : Type 0} (key : X → ℕ) (xs : List X) → IsNonDecreasingBy key xs → AreDistinct (map key xs) → Rises key xs
Rises-from_order key [] order distinct = tt
Rises-from_order key (x ∷ xs) order distinct = (
  λ y there. lower (key x) (key y) (first_lowest key x xs y order (Contains-tail x xs y there)) (first_apart key x xs y distinct there),
  Rises-from_order key xs (rest_in_order key x xs order) distinct.1,
)

weaker : (a b : ℕ) → a < b → a ≤ b
weaker a b low = omega arith

in_order : {X : Type 0} (key : X → ℕ) (xs : List X) → Rises key xs → IsNonDecreasingBy key xs
in_order key [] rises i j d low within = absurd (omega arith)
in_order key (x ∷ xs) rises zero zero d low within = omega arith
in_order key (x ∷ xs) rises zero (suc j) d low within = weaker (key x) (key (get_or xs j d)) (rises.0 (get_or xs j d) (Contains-get_or xs j d (omega arith)))
in_order key (x ∷ xs) rises (suc i) zero d low within = absurd (omega arith)
in_order key (x ∷ xs) rises (suc i) (suc j) d low within = in_order key xs rises.1 i j d (omega arith) (omega arith)

other_key : (a b : ℕ) → a < b → b ≢ a
other_key a b low same = omega arith

distinct : {X : Type 0} (key : X → ℕ) (xs : List X) → Rises key xs → AreDistinct (map key xs)
distinct key [] rises = tt
distinct key (x ∷ xs) rises = (none_of_key key (key x) xs (λ y there. other_key (key x) (key y) (rises.0 y there)), distinct key xs rises.1)

pub IsOrdered-from_rising : {X : Type 0} (key : X → ℕ) (xs : List X) → Rises key xs → IsOrdered key xs
IsOrdered-from_rising key xs rises = record { in_order = in_order key xs rises; distinct = distinct key xs rises }

-- what is made of each row rises where it has the row's key
Rises-map : {X Y : Type 0} (key : X → ℕ) (shown : Y → ℕ) (f : X → Y) → ((x : X) → shown (f x) ≡ key x) → (xs : List X) → Rises key xs → Rises shown (map f xs)
Rises-map key shown f same [] rises = tt
Rises-map {X} {Y} key shown f same (x ∷ xs) rises = (λ y there. by y (Contains-map_source f xs y there), Rises-map key shown f same xs rises.1)
  where
    by : (y : Y) → (z : X) × (Contains xs z × (f z ≡ y)) → shown (f x) < shown y
    by y (z, (there, is)) = subst (λ n. n < shown y) (sym (same x)) (subst (λ n. key x < n) (sym (same z) ∙ ap shown is) (rises.0 z there))

pub IsOrdered-map : {X Y : Type 0} (key : X → ℕ) (shown : Y → ℕ) (f : X → Y) → ((x : X) → shown (f x) ≡ key x) → (xs : List X) → IsOrdered key xs → IsOrdered shown (map f xs)
IsOrdered-map key shown f same xs was = IsOrdered-from_rising shown (map f xs) (Rises-map key shown f same xs (Rises-from_order key xs was.in_order was.distinct))

-- two lists one after the other, where the second lies above the first
pub Rises-append : {X : Type 0} (key : X → ℕ) (xs ys : List X) → Rises key xs → Rises key ys → ((x : X) → Contains xs x → (y : X) → Contains ys y → key x < key y) → Rises key (xs ++ ys)
Rises-append key [] ys first second apart = second
Rises-append {X} key (x ∷ xs) ys first second apart = (
  λ y there. elim (Contains-append_cases xs ys y there) [ inl here ↦ first.0 y here | inr following ↦ apart x (Contains-head x xs) y following ],
  Rises-append key xs ys first.1 second (λ z there. apart z (Contains-tail x xs z there)),
)

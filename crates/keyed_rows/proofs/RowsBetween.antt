-- The rows whose keys lie between two, as those that stand between two places.
use Rattle.std.proofs.Common.{◌≡◌, ℕ, ◌+◌, ◌-◌, ◌<◌, ◌≤◌, ◌&&◌, List, [], ◌∷◌, ◌++◌, length, get_or, take, drop, Bool, true, false, cond, ltb, leb, refl, ap, arith, sym, subst, ◌∙◌}
use Rattle.std.specs.List.{All, filter}
use Rattle.std.specs.List.Sorted.{IsNonDecreasingBy}
use Rattle.std.proofs.lemmas.Bool.{le-leb, lt-leb, lt-ltb, le-ltb}
use Rattle.std.proofs.lemmas.List.{append-nil, get_or-drop, get_or-take, length-drop, length-take, take-append-drop, take_rest}
use Rattle.std.proofs.lemmas.List.Elements.{All-head, All-tail, filter-append}
use Rattle.std.proofs.lemmas.List.Sorted.{IsNonDecreasingBy-drop}
use Rattle.keyed_rows.proofs.FirstRow.{EndsBelow}

filter_all : {X : Type 0} (p : X → Bool) (xs : List X) → All (λ x. p x ≡ true) xs → filter p xs ≡ xs
filter_all p [] all = refl
filter_all {X} p (x ∷ xs) all = go (p x) (All-head (λ y. p y ≡ true) x xs all) (filter_all p xs (All-tail (λ y. p y ≡ true) x xs all))
  where
    go : (b : Bool) → b ≡ true → filter p xs ≡ xs → cond b (x ∷ filter p xs) (filter p xs) ≡ x ∷ xs
    go true e rest = ap (λ ys. x ∷ ys) rest
    go false e rest = cc

filter_none : {X : Type 0} (p : X → Bool) (xs : List X) → All (λ x. p x ≡ false) xs → filter p xs ≡ []
filter_none p [] none = refl
filter_none {X} p (x ∷ xs) none = go (p x) (All-head (λ y. p y ≡ false) x xs none) (filter_none p xs (All-tail (λ y. p y ≡ false) x xs none))
  where
    go : (b : Bool) → b ≡ false → filter p xs ≡ [] → cond b (x ∷ filter p xs) (filter p xs) ≡ []
    go false e rest = rest
    go true e rest = cc

below_fails : (low high k : ℕ) → k < low → (leb low k && ltb k high) ≡ false
below_fails low high k below = ap (λ b. b && ltb k high) (lt-leb low k below)

between_passes : (low high k : ℕ) → low ≤ k → k < high → (leb low k && ltb k high) ≡ true
between_passes low high k above below = ap (λ b. b && ltb k high) (le-leb low k above) ∙ lt-ltb k high below

above_fails : (low high k : ℕ) → high ≤ k → (leb low k && ltb k high) ≡ false
above_fails low high k above = ap (λ b. leb low k && b) (le-ltb k high above) ∙ and_false (leb low k)
  where
    and_false : (b : Bool) → (b && false) ≡ false
    and_false true = refl
    and_false false = refl

between : {X : Type 0} (key : X → ℕ) (xs : List X) (low high i j : ℕ) → IsNonDecreasingBy key xs → i ≤ length xs → j ≤ length (drop i xs) → EndsBelow key xs low i →
    (IsNonDecreasingBy key (drop i xs) → EndsBelow key (drop i xs) high j) → take j (drop i xs) ≡ filter (λ x. leb low (key x) && ltb (key x) high) xs
between {X} key xs low high i j order within_i within_j first last =
    let p : X → Bool = λ x. leb low (key x) && ltb (key x) high in
    let rest : List X = drop i xs in
    let parts = last (IsNonDecreasingBy-drop key i xs order) in
    let front : filter p (take i xs) ≡ [] = filter_none p (take i xs) (λ k d below.
    let inside : k < i = omega (arith, length-take i xs) in
    ap p (get_or-take i xs k d inside) ∙ below_fails low high (key (get_or xs k d)) (first.0 k d (omega arith) inside)) in
    let middle : filter p (take j rest) ≡ take j rest = filter_all p (take j rest) (λ k d below.
    let inside : k < j = omega (arith, length-take j rest) in
    let long : length rest ≡ length xs - i = length-drop i xs in
    let least = first.1 (i + k) d (omega arith) (omega (arith, within_j, within_i)) in
    let less = parts.0 k d (omega arith) inside in
    ap p (get_or-take j rest k d inside) ∙ between_passes low high (key (get_or rest k d)) (omega (arith, least, ap key (get_or-drop i xs k d))) less) in
    let back : filter p (drop j rest) ≡ [] = filter_none p (drop j rest) (λ k d below.
    let inside : j + k < length rest = omega (arith, length-drop j rest) in
    ap p (get_or-drop j rest k d) ∙ above_fails low high (key (get_or rest (j + k) d)) (parts.1 (j + k) d (omega arith) inside)) in
    sym (
    ap (filter p) (sym (take-append-drop i xs)) ∙ filter-append p (take i xs) rest
    ∙ ap (λ ys. ys ++ filter p rest) front
    ∙ ap (filter p) (sym (take-append-drop j rest)) ∙ filter-append p (take j rest) (drop j rest)
    ∙ ap (λ ys. ys ++ filter p (drop j rest)) middle ∙ ap (λ ys. take j rest ++ ys) back ∙ append-nil (take j rest))

-- the same, where the rows from the first place on were taken by their number
pub taken_between : {X : Type 0} (key : X → ℕ) (xs : List X) (low high i j : ℕ) → IsNonDecreasingBy key xs → i ≤ length xs → j ≤ length (take (length xs - i) (drop i xs)) → EndsBelow key xs low i →
    (IsNonDecreasingBy key (take (length xs - i) (drop i xs)) → EndsBelow key (take (length xs - i) (drop i xs)) high j) →
    take j (take (length xs - i) (drop i xs)) ≡ filter (λ x. leb low (key x) && ltb (key x) high) xs
taken_between {X} key xs low high i j order within_i within_j first last =
    let P : List X → Type 0 = λ ys. j ≤ length ys → (IsNonDecreasingBy key ys → EndsBelow key ys high j) → take j ys ≡ filter (λ x. leb low (key x) && ltb (key x) high) xs in
    subst P (sym (take_rest xs i)) (λ inside parts. between key xs low high i j order within_i inside first parts) within_j last

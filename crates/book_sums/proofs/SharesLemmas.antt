-- Sums and counts over parts: the order of the parts is nothing to them, and those over parts are those over the rows that the parts are of.
use Rattle.std.proofs.Common.{◌≡◌, ℕ, ◌+◌, suc, ℤ, pos, negsuc, ◌+ℤ◌, ◌-ℤ◌, List, [], ◌∷◌, map, Bool, cond, Contains, refl, ap, arith, sym, ◌∙◌}
use Rattle.std.specs.List.{count_by, sum_by}
use Rattle.std.specs.List.Sorted.{IsPermutation}
use Rattle.std.proofs.lemmas.Int.{ints}
use Rattle.std.proofs.lemmas.List.Sorted.{sum_by-IsPermutation}
use Rattle.std.proofs.lemmas.List.Sums.{sum_by-cons}
use Rattle.keyed_rows.specs.Totals.{total}

-- how far a number is above 0, and how far below
abbrev above : ℤ → ℕ
above (pos n) = n
above (negsuc n) = 0

abbrev below : ℤ → ℕ
below (pos n) = 0
below (negsuc n) = suc n

is_difference : (z : ℤ) → z ≡ pos (above z) -ℤ pos (below z)
is_difference (pos n) = omega (arith, ints)
is_difference (negsuc n) = omega (arith, ints)

step : (z rest : ℤ) (a b m n s t : ℕ) → z ≡ pos a -ℤ pos b → rest ≡ pos m -ℤ pos n → s ≡ a + m → t ≡ b + n → z +ℤ rest ≡ pos s -ℤ pos t
step z rest a b m n s t one others up down = omega (arith, ints)

total_by_sides : {X : Type 0} (f : X → ℤ) (xs : List X) → total (map f xs) ≡ pos (sum_by (λ x. above (f x)) xs) -ℤ pos (sum_by (λ x. below (f x)) xs)
total_by_sides f [] = omega (arith, ints)
total_by_sides f (x ∷ xs) =
    step (f x) (total (map f xs)) (above (f x)) (below (f x)) (sum_by (λ y. above (f y)) xs) (sum_by (λ y. below (f y)) xs)
    (sum_by (λ y. above (f y)) (x ∷ xs)) (sum_by (λ y. below (f y)) (x ∷ xs))
    (is_difference (f x)) (total_by_sides f xs) (sum_by-cons (λ y. above (f y)) x xs) (sum_by-cons (λ y. below (f y)) x xs)

-- a total, in any order
pub total-IsPermutation : {X : Type 0} (f : X → ℤ) (xs ys : List X) → IsPermutation xs ys → total (map f ys) ≡ total (map f xs)
total-IsPermutation f xs ys moved =
    total_by_sides f ys
    ∙ ap (λ n. pos n -ℤ pos (sum_by (λ x. below (f x)) ys)) (sum_by-IsPermutation (λ x. above (f x)) xs ys moved)
    ∙ ap (λ n. pos (sum_by (λ x. above (f x)) xs) -ℤ pos n) (sum_by-IsPermutation (λ x. below (f x)) xs ys moved)
    ∙ sym (total_by_sides f xs)

-- a count, in any order
pub count_by-IsPermutation : {X : Type 0} (p : X → Bool) (xs ys : List X) → IsPermutation xs ys → count_by p ys ≡ count_by p xs
count_by-IsPermutation p xs ys moved = sum_by-IsPermutation (λ x. cond (p x) 1 0) xs ys moved

total-map : {X Y : Type 0} (f : Y → ℤ) (part : X → Y) (rows : List X) → total (map f (map part rows)) ≡ total (map (λ x. f (part x)) rows)
total-map f part [] = refl
total-map f part (x ∷ xs) = ap (λ z. f (part x) +ℤ z) (total-map f part xs)

count_by-map : {X Y : Type 0} (p : Y → Bool) (part : X → Y) (rows : List X) → count_by p (map part rows) ≡ count_by (λ x. p (part x)) rows
count_by-map p part [] = refl
count_by-map p part (x ∷ xs) =
    sum_by-cons (λ y. cond (p y) 1 0) (part x) (map part xs)
    ∙ ap (λ n. cond (p (part x)) 1 0 + n) (count_by-map p part xs)
    ∙ sym (sum_by-cons (λ y. cond (p (part y)) 1 0) x xs)

-- a total over the parts of rows is one over the rows
pub of_rows : {X Y : Type 0} (f : Y → ℤ) (part : X → Y) (rows : List X) (shares : List Y) → IsPermutation (map part rows) shares →
    total (map f shares) ≡ total (map (λ x. f (part x)) rows)
of_rows f part rows shares moved = total-IsPermutation f (map part rows) shares moved ∙ total-map f part rows

-- and so is a count
pub count_of_rows : {X Y : Type 0} (p : Y → Bool) (part : X → Y) (rows : List X) (shares : List Y) → IsPermutation (map part rows) shares →
    count_by p shares ≡ count_by (λ x. p (part x)) rows
count_of_rows p part rows shares moved = count_by-IsPermutation p (map part rows) shares moved ∙ count_by-map p part rows

-- sums of shares that are the same for each row
pub same_totals : {X : Type 0} (f g : X → ℤ) (xs : List X) → ((x : X) → Contains xs x → f x ≡ g x) → total (map f xs) ≡ total (map g xs)
same_totals f g [] same = refl
same_totals f g (x ∷ xs) same =
    ap (λ z. z +ℤ total (map f xs)) (same x (0, omega arith, refl))
    ∙ ap (λ z. g x +ℤ z) (same_totals f g xs (λ y there. same y (suc there.0, omega (arith, there.1), there.2)))

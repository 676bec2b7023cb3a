-- Sums of the shares of rows.
use Rattle.std.proofs.Common.{◌≡◌, ℕ, ◌+◌, ◌<◌, ℤ, pos, ◌+ℤ◌, List, [], ◌∷◌, ◌++◌, map, take, length, get_or, refl, ap, arith, sym, ◌∙◌}
use Rattle.std.proofs.lemmas.Int.{ints}
use Rattle.std.proofs.lemmas.List.{take_more}
use Rattle.keyed_rows.specs.Totals.{total}

pub total-append : (xs ys : List ℤ) → total (xs ++ ys) ≡ total xs +ℤ total ys
total-append [] ys = omega (arith, ints)
total-append (x ∷ xs) ys = omega (arith, ints, total-append xs ys)

map-append' : {A B : Type 0} (f : A → B) (xs ys : List A) → map f (xs ++ ys) ≡ map f xs ++ map f ys
map-append' f [] ys = refl
map-append' f (x ∷ xs) ys = ap (λ zs. f x ∷ zs) (map-append' f xs ys)

-- a loop's step: one row more adds its share
pub total-take_more : {X : Type 0} (f : X → ℤ) (xs : List X) (i : ℕ) (x : X) → i < length xs → x ≡ get_or xs i x
    → total (map f (take (i + 1) xs)) ≡ total (map f (take i xs)) +ℤ f x
total-take_more f xs i x in_xs is =
    ap (λ zs. total (map f zs)) (take_more xs i x in_xs)
    ∙ ap total (map-append' f (take i xs) (get_or xs i x ∷ []))
    ∙ total-append (map f (take i xs)) (f (get_or xs i x) ∷ [])
    ∙ ap (λ y. total (map f (take i xs)) +ℤ (f y +ℤ pos 0)) (sym is)
    ∙ plus_zero (total (map f (take i xs))) (f x)
  where
    plus_zero : (a b : ℤ) → a +ℤ (b +ℤ pos 0) ≡ a +ℤ b
    plus_zero a b = omega (arith, ints)

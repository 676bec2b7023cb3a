-- The first row that passes a test, among rows that are made of other rows.
use Rattle.std.proofs.Common.{◌≡◌, ℕ, ◌+◌, ◌<◌, List, [], ◌∷◌, ◌++◌, Bool, true, false, cond, Option, Some, None, map, option_map, drop, drop-drop, length, get_or, refl, ap, sym, ◌∙◌}
use Rattle.std.specs.List.{enumerate_from, find, flat_map}
use Rattle.std.specs.Option.{option_or}
use Rattle.std.proofs.lemmas.List.{drop_more}
use Rattle.std.proofs.lemmas.List.Folds.{find-append}

cond-map : {X Y : Type 0} (f : X → Y) (b : Bool) (x : X) (o : Option X) (r : Option Y) → r ≡ option_map f o → cond b (Some (f x)) r ≡ option_map f (cond b (Some x) o)
cond-map f true x o r e = refl
cond-map f false x o r e = e

find-map : {X Y : Type 0} (p : Y → Bool) (f : X → Y) (xs : List X) → find p (map f xs) ≡ option_map f (find (λ x. p (f x)) xs)
find-map p f [] = refl
find-map p f (x ∷ xs) = cond-map f (p (f x)) x (find (λ z. p (f z)) xs) (find p (map f xs)) (find-map p f xs)

-- among rows made of others
pub found-made : {X Y : Type 0} (p : Y → Bool) (f : X → Y) (xs : List X) (o : Option X) → o ≡ find (λ x. p (f x)) xs → option_map f o ≡ find p (map f xs)
found-made p f xs o is = ap (option_map f) is ∙ sym (find-map p f xs)

-- one of the rows at the front passes
pub found-front : {X : Type 0} (p : X → Bool) (xs ys : List X) (x : X) → Some x ≡ find p xs → Some x ≡ find p (xs ++ ys)
found-front p xs ys x is = ap (λ o. option_or o (find p ys)) is ∙ sym (find-append p xs ys)

-- none of them does
pub found-following : {X : Type 0} (p : X → Bool) (xs ys : List X) (o : Option X) → None ≡ find p xs → o ≡ find p ys → o ≡ find p (xs ++ ys)
found-following p xs ys o none is = is ∙ ap (λ q. option_or q (find p ys)) none ∙ sym (find-append p xs ys)

missed-next : {X Y : Type 0} (p : Y → Bool) (f : ℕ × X → Y) (place : ℕ) (xs : List X) → ((x : X) → p (f (place, x)) ≡ false) →
    find p (map f (enumerate_from place xs)) ≡ find p (map f (enumerate_from (place + 1) (drop 1 xs)))
missed-next p f place [] fails = refl
missed-next p f place (x ∷ xs) fails = ap (λ b. cond b (Some (f (place, x))) (find p (map f (enumerate_from (place + 1) xs)))) (fails x)

-- no row at that place passes
pub missed-placed : {X Y : Type 0} (p : Y → Bool) (f : ℕ × X → Y) (xs : List X) (i place : ℕ) (all : Option Y) → ((x : X) → p (f (place, x)) ≡ false) →
    find p (map f (enumerate_from place (drop i xs))) ≡ all → find p (map f (enumerate_from (place + 1) (drop (i + 1) xs))) ≡ all
missed-placed p f xs i place all fails all_is =
    ap (λ ys. find p (map f (enumerate_from (place + 1) ys))) (sym (drop-drop 1 i xs)) ∙ sym (missed-next p f place (drop i xs) fails) ∙ all_is

next-list : {X Y : Type 0} (p : Y → Bool) (g : X → List Y) (xs : List X) (i : ℕ) (x : X) → i < length xs → x ≡ get_or xs i x →
    option_or (find p (g x)) (find p (flat_map g (drop (i + 1) xs))) ≡ find p (flat_map g (drop i xs))
next-list p g xs i x within is =
    sym (find-append p (g x) (flat_map g (drop (i + 1) xs)))
    ∙ ap (λ z. find p (g z ++ flat_map g (drop (i + 1) xs))) is
    ∙ ap (λ ys. find p (flat_map g ys)) (sym (drop_more xs i x within))

-- some row of the next list passes
pub found-list : {X Y : Type 0} (p : Y → Bool) (g : X → List Y) (xs : List X) (i : ℕ) (x : X) (y : Y) (all : Option Y) → i < length xs → x ≡ get_or xs i x →
    Some y ≡ find p (g x) → find p (flat_map g (drop i xs)) ≡ all → Some y ≡ all
found-list p g xs i x y all within is found all_is =
    ap (λ o. option_or o (find p (flat_map g (drop (i + 1) xs)))) found ∙ next-list p g xs i x within is ∙ all_is

-- none does
pub missed-list : {X Y : Type 0} (p : Y → Bool) (g : X → List Y) (xs : List X) (i : ℕ) (x : X) (all : Option Y) → i < length xs → x ≡ get_or xs i x →
    None ≡ find p (g x) → find p (flat_map g (drop i xs)) ≡ all → find p (flat_map g (drop (i + 1) xs)) ≡ all
missed-list p g xs i x all within is missed all_is =
    ap (λ o. option_or o (find p (flat_map g (drop (i + 1) xs)))) missed ∙ next-list p g xs i x within is ∙ all_is

-- Rows that are counted, rows with distinct keys, and the rows that a list is made of.
use Rattle.std.proofs.Common.{◌≡◌, ℕ, ◌+◌, ◌<◌, ◌≤◌, suc, List, [], ◌∷◌, map, length, get_or, Bool, true, false, cond, ◌==◌, ◌||◌, ◌&&◌, Contains, refl, ap, arith, sym, ◌∙◌, subst}
use Rattle.std.specs.List.{count_by, list_any}
use Rattle.std.proofs.lemmas.Bool.Decides.{nat_tests}
use Rattle.std.proofs.lemmas.List.{get_or-map, get_or_default, length-map}
use Rattle.std.proofs.lemmas.List.Sums.{sum_by-cons}
use Rattle.keyed_rows.specs.Ordered.{AreDistinct}

-- the first row of a list, and the others
contains_first : {X : Type 0} (x : X) (xs : List X) → Contains (x ∷ xs) x
contains_first x xs = (0, omega arith, refl)

contains_later : {X : Type 0} (x y : X) (xs : List X) → Contains xs y → Contains (x ∷ xs) y
contains_later x y xs there = (suc there.0, omega (arith, there.1), there.2)

-- what a row adds to a count
abbrev pub one_if : Bool → ℕ
one_if b = cond b 1 0

pub count_cons : {X : Type 0} (p : X → Bool) (x : X) (xs : List X) → count_by p (x ∷ xs) ≡ one_if (p x) + count_by p xs
count_cons p x xs = sum_by-cons (λ y. cond (p y) 1 0) x xs

-- where some are counted, there is one
pub counted_row : {X : Type 0} (p : X → Bool) (xs : List X) → 1 ≤ count_by p xs → (x : X) × (Contains xs x × (p x ≡ true))
counted_row p [] some = absurd (omega arith)
counted_row {X} p (x ∷ xs) some = go (p x) refl (omega (arith, count_cons p x xs, some)) (λ more. counted_row p xs more)
  where
    go : (b : Bool) → p x ≡ b → 1 ≤ one_if (p x) + count_by p xs → (1 ≤ count_by p xs → (y : X) × (Contains xs y × (p y ≡ true))) → (y : X) × (Contains (x ∷ xs) y × (p y ≡ true))
    go true passes more later = (x, (contains_first x xs, passes))
    go false fails more later =
        let none : one_if (p x) ≡ 0 = ap one_if fails in
        let rest = later (omega (arith, more, none)) in
        (rest.0, (contains_later x rest.0 xs rest.1.0, rest.1.1))

or_left : (a b : Bool) → (a || b) ≡ false → a ≡ false
or_left false b e = refl
or_left true b e = e

or_right : (a b : Bool) → (a || b) ≡ false → b ≡ false
or_right false b e = e
or_right true b e = cc

pub both_true : (a b : Bool) → (a && b) ≡ true → (a ≡ true) × (b ≡ true)
both_true true b e = (refl, e)
both_true false b e = cc

differ : (a b : ℕ) → (a == b) ≡ false → a ≡ b → ⊥
differ a b e same = grind (arith, nat_tests)

-- rows of one key, where no row has it
none_counted : {X : Type 0} (key : X → ℕ) (p : X → Bool) (k : ℕ) → ((x : X) → p x ≡ true → key x ≡ k) → (xs : List X) → list_any (λ j. j == k) (map key xs) ≡ false → count_by p xs ≡ 0
none_counted key p k one_key [] none = refl
none_counted {X} key p k one_key (x ∷ xs) none =
    omega (
      arith,
      count_cons p x xs,
      go (p x) refl (or_left (key x == k) (list_any (λ j. j == k) (map key xs)) none),
      none_counted key p k one_key xs (or_right (key x == k) (list_any (λ j. j == k) (map key xs)) none),
    )
  where
    go : (b : Bool) → p x ≡ b → (key x == k) ≡ false → one_if (p x) ≡ 0
    go true passes other = absurd (differ (key x) k other (one_key x passes))
    go false fails other = ap one_if fails

-- of rows with distinct keys, one at most has this key
pub one_of_key : {X : Type 0} (key : X → ℕ) (p : X → Bool) (k : ℕ) → ((x : X) → p x ≡ true → key x ≡ k) → (xs : List X) → AreDistinct (map key xs) → count_by p xs ≤ 1
one_of_key key p k one_key [] distinct = omega arith
one_of_key {X} key p k one_key (x ∷ xs) distinct = go (p x) refl (one_of_key key p k one_key xs distinct.1) (count_cons p x xs)
  where
    go : (b : Bool) → p x ≡ b → count_by p xs ≤ 1 → count_by p (x ∷ xs) ≡ one_if (p x) + count_by p xs → count_by p (x ∷ xs) ≤ 1
    go true passes rest counted =
        let P : ℕ → Type 0 = λ j. list_any (λ i. i == j) (map key xs) ≡ false in
        let one : one_if (p x) ≡ 1 = ap one_if passes in
        omega (arith, counted, one, none_counted key p k one_key xs (subst P (one_key x passes) distinct.0))
    go false fails rest counted =
        let none : one_if (p x) ≡ 0 = ap one_if fails in
        omega (arith, counted, none, rest)

-- the rows that a list is made of
pub source_of : {X Y : Type 0} (f : X → Y) (xs : List X) (ys : List Y) (y : Y) → map f xs ≡ ys → Contains ys y → (x : X) × (Contains xs x × (f x ≡ y))
source_of f [] ys y same there = absurd (omega (arith, ap length same, there.1))
source_of {X} {Y} f (x ∷ xs) ys y same there =
    let source = get_or (x ∷ xs) there.0 x in
    let long = length-map (x ∷ xs) f in
    let within : there.0 < length (x ∷ xs) = omega (arith, ap length same, long, there.1) in
    (source, ((there.0, within, default there.0 within), sym (get_or-map f (x ∷ xs) there.0 x y within) ∙ ap (λ l. get_or l there.0 y) same ∙ there.2))
  where
    default : (i : ℕ) → i < length (x ∷ xs) → get_or (x ∷ xs) i (get_or (x ∷ xs) i x) ≡ get_or (x ∷ xs) i x
    default i within = get_or_default (x ∷ xs) i (get_or (x ∷ xs) i x) x within

pub made_of : {X Y : Type 0} (f : X → Y) (xs : List X) (ys : List Y) (x : X) → map f xs ≡ ys → Contains xs x → Contains ys (f x)
made_of f xs ys x same there = (
  there.0,
  omega (arith, ap length same, length-map xs f, there.1),
  ap (λ l. get_or l there.0 (f x)) (sym same) ∙ get_or-map f xs there.0 x (f x) there.1 ∙ ap f there.2,
)

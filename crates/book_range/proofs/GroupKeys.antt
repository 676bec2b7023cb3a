-- Where a key is made of a group and a number, keys are distinct exactly where no number stands twice in a group.
use Rattle.std.proofs.Common.{refl, ◌≡◌, ◌==◌, ℕ, ◌+◌, ◌*◌, ◌^◌, ◌≤◌, ◌&&◌, Bool, true, false, cond, List, [], ◌∷◌, get_or, map, Contains, ap, arith, sym, ◌∙◌}
use Rattle.std.specs.List.{count_by, filter}
use Rattle.std.proofs.lemmas.Bool.{and_from, eq-eqb, eqb-true, false≢true, ne_eqb}
use Rattle.std.proofs.lemmas.List.Elements.{All-map, Contains-get_or}
use Rattle.std.proofs.lemmas.List.Folds.{list_any_none}
use Rattle.std.proofs.lemmas.List.Sums.{length-filter}
use Rattle.keyed_rows.specs.Ordered.{AreDistinct}
use Rattle.book_sums.proofs.Counting.{both_true, count_cons, one_if, one_of_key}
use Rattle.book_sums.proofs.GroupRows.{from_filter, in_filter}

-- each number of a group stands once, where the key is made of both
pub once : {X : Type 0} (key group number : X → ℕ) → ((x : X) → key x ≡ 2 ^ 32 * group x + number x) → (rows : List X) (of n : ℕ) → AreDistinct (map key rows) →
    count_by (λ x. group x == of && number x == n) rows ≤ 1
once key group number made rows of n distinct =
    one_of_key key (λ x. group x == of && number x == n) (2 ^ 32 * of + n)
    (λ x passes.
    let both = both_true (group x == of) (number x == n) passes in
    made x ∙ ap (λ g. 2 ^ 32 * g + number x) (eqb-true _ _ both.0) ∙ ap (λ m. 2 ^ 32 * of + m) (eqb-true _ _ both.1))
    rows distinct

-- a row that passes is counted
counts : {X : Type 0} (p : X → Bool) (xs : List X) (x : X) → Contains xs x → p x ≡ true → 1 ≤ count_by p xs
counts p xs x there passes = let kept = in_filter p xs x there passes in omega (arith, kept.1, length-filter p xs)

-- a test that passes only where a first one does counts the same among the rows that pass the first
count_within : {X : Type 0} (p r : X → Bool) → ((x : X) → r x ≡ true → p x ≡ true) → (xs : List X) → count_by r (filter p xs) ≡ count_by r xs
count_within p r inside [] = refl
count_within {X} p r inside (x ∷ xs) = go (p x) (r x) refl refl (count_within p r inside xs)
  where
    go : (a b : Bool) → p x ≡ a → r x ≡ b → count_by r (filter p xs) ≡ count_by r xs → count_by r (cond a (x ∷ filter p xs) (filter p xs)) ≡ count_by r (x ∷ xs)
    go true b passes is rest = omega (arith, count_cons r x (filter p xs), count_cons r x xs, rest)
    go false true fails is rest = absurd (false≢true (sym fails ∙ inside x is))
    go false false fails is rest = omega (arith, count_cons r x xs, ap one_if is, rest)

-- no number stands twice in a group whose keys are distinct
pub once_from_distinct : {X : Type 0} (key group number : X → ℕ) → ((x : X) → key x ≡ 2 ^ 32 * group x + number x) → (rows : List X) (of n : ℕ) →
    AreDistinct (map key (filter (λ x. group x == of) rows)) → count_by (λ x. group x == of && number x == n) rows ≤ 1
once_from_distinct key group number made rows of n distinct =
    omega (
      arith,
      count_within (λ x. group x == of) (λ x. group x == of && number x == n) (λ x passes. (both_true (group x == of) (number x == n) passes).0) rows,
      once key group number made (filter (λ x. group x == of) rows) of n distinct,
    )

-- and the way back
pub distinct_from_once : {X : Type 0} (key group number : X → ℕ) → ((x : X) → key x ≡ 2 ^ 32 * group x + number x) → (rows : List X) (of : ℕ) →
    ((n : ℕ) → count_by (λ x. group x == of && number x == n) rows ≤ 1) → AreDistinct (map key (filter (λ x. group x == of) rows))
distinct_from_once key group number made [] of few = tt
distinct_from_once {X} key group number made (x ∷ xs) of few =
    go (group x == of) refl (distinct_from_once key group number made xs of (λ n. omega (arith, few n, count_cons (λ y. group y == of && number y == n) x xs)))
  where
    same_number : (y : X) → group x ≡ of → group y ≡ of → key y ≡ key x → number y ≡ number x
    same_number y first other same = omega (arith, made x, made y, first, other, same)

    passes : (y : X) (n : ℕ) → group y ≡ of → number y ≡ n → (group y == of && number y == n) ≡ true
    passes y n of_group of_number = and_from (group y == of) (number y == n) (eq-eqb _ _ of_group) (eq-eqb _ _ of_number)

    none : (y : X) → group x ≡ of → Contains xs y → group y ≡ of → key y ≡ key x → ⊥
    none y first there other same =
        let n = number x in
        omega (
          arith,
          few n,
          count_cons (λ z. group z == of && number z == n) x xs,
          ap one_if (passes x n first refl),
          counts (λ z. group z == of && number z == n) xs y there (passes y n other (same_number y first other same)),
        )

    go : (b : Bool) → (group x == of) ≡ b → AreDistinct (map key (filter (λ y. group y == of) xs)) →
        AreDistinct (map key (cond b (x ∷ filter (λ y. group y == of) xs) (filter (λ y. group y == of) xs)))
    go false fails rest = rest
    go true is rest = (
      list_any_none (λ j. j == key x) (map key (filter (λ y. group y == of) xs))
          (All-map (λ j. (j == key x) ≡ false) key (filter (λ y. group y == of) xs)
          (λ k d below.
          let y = get_or (filter (λ z. group z == of) xs) k d in
          let within = from_filter (λ z. group z == of) xs y (Contains-get_or (filter (λ z. group z == of) xs) k d below) in
          ne_eqb (key y) (key x) (λ same. none y (eqb-true _ _ is) within.0 (eqb-true _ _ within.1) same))),
      rest,
    )

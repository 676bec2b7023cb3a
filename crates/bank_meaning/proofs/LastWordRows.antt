-- What is found of rows of which one is added, some are removed, or one is changed; and that two lists of rows in order
-- are the same where the same rows are in both.
use Rattle.std.proofs.Common.{◌≡◌, ℕ, ◌==◌, ◌≤◌, suc, List, [], ◌∷◌, map, Bool, true, false, cond, not, unwrap_or, Option, Some, None, Contains, inl, inr, refl, ap, arith, sym, subst, ◌∙◌}
use Rattle.std.specs.Prelude.{nat_le, option_map, if◌then◌else◌}
use Rattle.std.specs.List.{filter, find, list_any}
use Rattle.std.specs.List.Sorted.{IsNonDecreasingBy}
use Rattle.std.proofs.lemmas.Bool.{cases_eq, eq-eqb, false≢true, ne_eqb, or_parts}
use Rattle.keyed_rows.specs.Changed.{change_rows}
use Rattle.keyed_rows.specs.Ordered.{AreDistinct, add_row}
use Rattle.book_laws.proofs.ChangedRows.{changed_same}
use Rattle.rule_tests.proofs.RuleTests.{passed_by}
use Rattle.keyed_rows.proofs.Rows.{Contains-cons_cases, Contains-head, Contains-tail, find-add_row, find-found, find_of_key, first_apart, found_row, none_passes, none_there, rest_in_order}
use Rattle.bank_meaning.specs.InForce.{said_if}

-- ---- one row more

pub none_found : {X : Type 0} (p : X → Bool) (xs : List X) → list_any p xs ≡ false → find p xs ≡ None
none_found p [] none = refl
none_found {X = X} p (x ∷ xs) none =
    let parts = or_parts (p x) (list_any p xs) none in
    ap (λ b. cond b (Some x) (find p xs)) parts.0 ∙ none_found p xs parts.1

-- a row that passes is found among those of which none does
find-new : {X : Type 0} (key : X → ℕ) (p : X → Bool) (e : X) (xs : List X) → p e ≡ true → find p xs ≡ None → find p (add_row key e xs) ≡ Some e
find-new key p e [] passes none = ap (λ b. cond b (Some e) None) passes
find-new {X = X} key p e (x ∷ xs) passes none =
    let parts = passed_by (p x) x (find p xs) none in
    go (nat_le (key x) (key e)) parts.0 (find-new key p e xs passes parts.1)
  where
    go : (b : Bool) → p x ≡ false → find p (add_row key e xs) ≡ Some e → find p (cond b (x ∷ add_row key e xs) (e ∷ x ∷ xs)) ≡ Some e
    go true fails rest = ap (λ c. cond c (Some x) (find p (add_row key e xs))) fails ∙ rest
    go false fails rest = ap (λ c. cond c (Some e) (find p (x ∷ xs))) passes

-- what is found by a test beside a new row, where no old one has the key of the new one
pub found_beside : {X : Type 0} (key : X → ℕ) (of p : X → Bool) (e : X) (xs : List X) → find of xs ≡ None → (p e ≡ true → p ≡ of)
    → find p (add_row key e xs) ≡ unwrap_or (said_if (p e) (Some e)) (find p xs)
found_beside {X = X} key of p e xs none same = go (p e) refl
  where
    go : (b : Bool) → p e ≡ b → find p (add_row key e xs) ≡ unwrap_or (said_if b (Some e)) (find p xs)
    go true passes = find-new key p e xs passes (ap (λ q. find q xs) (same passes) ∙ none)
    go false fails = find-add_row key p e xs fails

-- ---- fewer rows

-- none is found where those that pass go
none_left : {X : Type 0} (stays p : X → Bool) (xs : List X) → ((x : X) → Contains xs x → p x ≡ true → stays x ≡ false) → find p (filter stays xs) ≡ None
none_left stays p [] each = refl
none_left {X = X} stays p (x ∷ xs) each = go (stays x) refl (p x) refl (none_left stays p xs (λ y there. each y (Contains-tail x xs y there)))
  where
    go : (c : Bool) → stays x ≡ c → (b : Bool) → p x ≡ b → find p (filter stays xs) ≡ None → find p (cond c (x ∷ filter stays xs) (filter stays xs)) ≡ None
    go true kept true passes rest = absurd (false≢true (sym (each x (Contains-head x xs) passes) ∙ kept))
    go true kept false fails rest = ap (λ b. cond b (Some x) (find p (filter stays xs))) fails ∙ rest
    go false gone b at rest = rest

-- and what was found is, where they stay
all_left : {X : Type 0} (stays p : X → Bool) (xs : List X) → ((x : X) → Contains xs x → p x ≡ true → stays x ≡ true) → find p (filter stays xs) ≡ find p xs
all_left stays p [] each = refl
all_left {X = X} stays p (x ∷ xs) each = go (stays x) refl (p x) refl (all_left stays p xs (λ y there. each y (Contains-tail x xs y there)))
  where
    go : (c : Bool) → stays x ≡ c → (b : Bool) → p x ≡ b → find p (filter stays xs) ≡ find p xs → find p (cond c (x ∷ filter stays xs) (filter stays xs)) ≡ cond (p x) (Some x) (find p xs)
    go true kept b at rest = ap (λ o. cond (p x) (Some x) o) rest
    go false gone true passes rest = absurd (false≢true (sym gone ∙ each x (Contains-head x xs) passes))
    go false gone false fails rest = rest ∙ ap (λ b. cond b (Some x) (find p xs)) (sym fails)

-- what is found by a test among the rows that stay, where all that pass go, or none of them
pub found_left : {X : Type 0} (stays p : X → Bool) (gone : Bool) (xs : List X) → ((x : X) → Contains xs x → p x ≡ true → stays x ≡ not gone)
    → find p (filter stays xs) ≡ unwrap_or (said_if gone None) (find p xs)
found_left stays p true xs each = none_left stays p xs each
found_left stays p false xs each = all_left stays p xs each

-- ---- rows made anew

-- what is found of them, where nothing is made of what the test looks at
pub find-made : {X : Type 0} (p : X → Bool) (g : X → X) → ((x : X) → p (g x) ≡ p x) → (xs : List X) → find p (map g xs) ≡ option_map g (find p xs)
find-made p g same [] = refl
find-made {X = X} p g same (x ∷ xs) = ap (λ b. cond b (Some (g x)) (find p (map g xs))) (same x) ∙ go (p x) (find-made p g same xs)
  where
    go : (b : Bool) → find p (map g xs) ≡ option_map g (find p xs) → cond b (Some (g x)) (find p (map g xs)) ≡ option_map g (cond b (Some x) (find p xs))
    go true rest = refl
    go false rest = rest

-- equality of numbers is tested either way round
pub same_turned : (a b : ℕ) → (a == b) ≡ (b == a)
same_turned a b = elim (cases_eq a b) [
  | inl same ↦ eq-eqb a b same ∙ sym (eq-eqb b a (sym same))
  | inr apart ↦ ne_eqb a b apart ∙ sym (ne_eqb b a (λ same. apart (sym same)))
]

-- the row of one key, where those of one key are made anew
pub found_changed : {X : Type 0} (key : X → ℕ) (k : ℕ) (made : X → X) → ((x : X) → key (made x) ≡ key x) → (xs : List X) (n : ℕ)
    → find (λ x. key x == n) (change_rows key k made xs) ≡ option_map (λ x. if k == n then made x else x) (find (λ x. key x == n) xs)
found_changed {X = X} key k made same xs n =
    find-made (λ x. key x == n) (λ x. if key x == k then made x else x) (λ x. ap (λ m. m == n) (changed_same key k made key same x)) xs
    ∙ go (find (λ x. key x == n) xs) refl
  where
    go : (o : Option X) → find (λ x. key x == n) xs ≡ o → option_map (λ x. if key x == k then made x else x) o ≡ option_map (λ x. if k == n then made x else x) o
    go None none = refl
    go (Some x) some = ap (λ b. Some (if b then made x else x)) (ap (λ m. m == k) (found_row key n xs x some).1 ∙ same_turned n k)

-- ---- rows in order

-- no row after the first has a lower key
first_lowest : {X : Type 0} (key : X → ℕ) (x : X) (xs : List X) (y : X) → IsNonDecreasingBy key (x ∷ xs) → Contains xs y → key x ≤ key y
first_lowest key x xs y order (k, within, is) = subst (λ z. key x ≤ key z) is (order 0 (suc k) y (omega arith) (omega arith))

-- the first rows of two lists of the same rows
same_first : {X : Type 0} (key : X → ℕ) (x : X) (xs : List X) (y : X) (ys : List X) → IsNonDecreasingBy key (x ∷ xs) → IsNonDecreasingBy key (y ∷ ys) → AreDistinct (map key (x ∷ xs))
    → Contains (x ∷ xs) y → Contains (y ∷ ys) x → x ≡ y
same_first {X = X} key x xs y ys order order' distinct there here =
    elim (Contains-cons_cases x xs y there) [
      | inl same ↦ same
      | inr following ↦ elim (Contains-cons_cases y ys x here) [
        | inl same ↦ sym same
        | inr later ↦ absurd (first_apart key x xs y distinct following (between (key x) (key y) (first_lowest key x xs y order following) (first_lowest key y ys x order' later)))
      ]
    ]
  where
    between : (a b : ℕ) → a ≤ b → b ≤ a → a ≡ b
    between a b low high = omega arith

-- a row after the first is one of the other list's, and not the first of them
still_following : {X : Type 0} (key : X → ℕ) (x : X) (xs : List X) (y : X) (ys : List X) → AreDistinct (map key (x ∷ xs)) → x ≡ y → ((z : X) → Contains (x ∷ xs) z → Contains (y ∷ ys) z)
    → (z : X) → Contains xs z → Contains ys z
still_following key x xs y ys distinct same among z there =
    elim (Contains-cons_cases y ys z (among z (Contains-tail x xs z there))) [
      | inl first ↦ absurd (first_apart key x xs z distinct there (ap key (same ∙ first)))
      | inr following ↦ following
    ]

-- Two lists of the same rows, each in order of distinct keys, are one.
pub same_rows : {X : Type 0} (key : X → ℕ) (xs ys : List X) → IsNonDecreasingBy key xs → IsNonDecreasingBy key ys → AreDistinct (map key xs) → AreDistinct (map key ys)
    → ((x : X) → Contains xs x → Contains ys x) → ((x : X) → Contains ys x → Contains xs x) → xs ≡ ys
same_rows key [] [] order order' distinct distinct' among back = refl
same_rows key [] (y ∷ ys) order order' distinct distinct' among back = absurd (none_there (back y (Contains-head y ys)))
same_rows key (x ∷ xs) [] order order' distinct distinct' among back = absurd (none_there (among x (Contains-head x xs)))
same_rows key (x ∷ xs) (y ∷ ys) order order' distinct distinct' among back =
    let same = same_first key x xs y ys order order' distinct (back y (Contains-head y ys)) (among x (Contains-head x xs)) in
    let rest = same_rows key xs ys (rest_in_order key x xs order) (rest_in_order key y ys order') distinct.1 distinct'.1 (still_following key x xs y ys distinct same among)
    (still_following key y ys x xs distinct' (sym same) back) in
    ap (λ z. z ∷ xs) same ∙ ap (λ zs. y ∷ zs) rest

-- rows that are found in one list as in another stand there, too
pub found_among : {X : Type 0} (key : X → ℕ) (at : X → X → Bool) (xs ys : List X) → ((x : X) → at x x ≡ true) → ((x y : X) → at x y ≡ true → key y ≡ key x) → AreDistinct (map key xs)
    → ((x : X) → find (at x) xs ≡ find (at x) ys) → (x : X) → Contains xs x → Contains ys x
found_among {X = X} key at xs ys itself tells distinct same x there = go (find (at x) xs) refl
  where
    one : (y : X) → Contains xs y → key y ≡ key x → ◌≡◌ {A = Option X} (Some y) (Some x)
    one y within of = sym (find_of_key key (key x) xs y distinct within of) ∙ find_of_key key (key x) xs x distinct there refl

    go : (o : Option X) → find (at x) xs ≡ o → Contains ys x
    go None none = absurd (false≢true (sym (none_passes (at x) xs x none there) ∙ itself x))
    go (Some y) some =
        let found = find-found (at x) xs y some in
        (find-found (at x) ys x (sym (same x) ∙ some ∙ one y found.0 (tells x y found.1))).0

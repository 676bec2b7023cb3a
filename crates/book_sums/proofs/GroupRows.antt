-- The rows of a group, among rows whose keys are made of a group and a number.
use Rattle.std.proofs.Common.{◌≡◌, ◌==◌, ℕ, ◌+◌, ◌*◌, ◌^◌, ◌<◌, ◌&&◌, zero, suc, List, [], ◌∷◌, Bool, true, false, cond, Contains, leb, ltb, refl, ap, arith, sym, subst, ◌∙◌, inl, inr}
use Rattle.std.specs.List.{filter}
use Rattle.std.specs.List.Sorted.{IsNonDecreasingBy}
use Rattle.book_sums.specs.Groups.{rows_of_group}
use Rattle.std.proofs.lemmas.Bool.{cases_lt, eq-eqb, le-leb, le-ltb, lt-leb, lt-ltb, ne_eqb}
use Rattle.std.proofs.lemmas.List.Elements.{All-contains, All-contains_itself, All-filter, filter_passes}

pub in_filter : {X : Type 0} (p : X → Bool) (xs : List X) (x : X) → Contains xs x → p x ≡ true → Contains (filter p xs) x
in_filter p [] x there passes = absurd (omega (arith, there.1))
in_filter {X} p (y ∷ ys) x (zero, below, is) passes = go (p y) (ap p is ∙ passes)
  where
    go : (b : Bool) → b ≡ true → Contains (cond b (y ∷ filter p ys) (filter p ys)) x
    go true e = (0, omega arith, is)
    go false e = cc
in_filter {X} p (y ∷ ys) x (suc k, below, is) passes = go (p y) (in_filter p ys x (k, omega arith, is) passes)
  where
    go : (b : Bool) → Contains (filter p ys) x → Contains (cond b (y ∷ filter p ys) (filter p ys)) x
    go true there = (suc there.0, omega (arith, there.1), there.2)
    go false there = there

pub from_filter : {X : Type 0} (p : X → Bool) (xs : List X) (x : X) → Contains (filter p xs) x → Contains xs x × (p x ≡ true)
from_filter p xs x there = (
  All-contains (Contains xs) (filter p xs) x (All-filter p (Contains xs) xs (All-contains_itself xs)) there,
  All-contains (λ y. p y ≡ true) (filter p xs) x (filter_passes p xs) there,
)

-- two tests that agree at each row that is there keep the same rows
pub filter_same : {X : Type 0} (p q : X → Bool) (xs : List X) → ((x : X) → Contains xs x → p x ≡ q x) → filter p xs ≡ filter q xs
filter_same p q [] agree = refl
filter_same {X} p q (x ∷ xs) agree =
    ap (λ b. cond b (x ∷ filter p xs) (filter p xs)) (agree x (0, omega arith, refl))
    ∙ ap (λ ys. cond (q x) (x ∷ ys) ys) (filter_same p q xs (λ y there. agree y (suc there.0, omega (arith, there.1), there.2)))

-- a group by a key that is made of it and a number
group_test : (g of n : ℕ) → n < 2 ^ 32 → (leb (2 ^ 32 * of) (2 ^ 32 * g + n) && ltb (2 ^ 32 * g + n) (2 ^ 32 * (of + 1))) ≡ (g == of)
group_test g of n small = elim (cases_lt g of) [
  | inl below ↦ ap (λ b. b && ltb (2 ^ 32 * g + n) (2 ^ 32 * (of + 1))) (lt-leb (2 ^ 32 * of) (2 ^ 32 * g + n) (omega (arith, small, below))) ∙ sym (ne_eqb g of (λ same. omega (arith, below, same)))
  | inr from ↦ elim (cases_lt of g) [
    | inl above ↦
        ap (λ b. leb (2 ^ 32 * of) (2 ^ 32 * g + n) && b) (le-ltb (2 ^ 32 * g + n) (2 ^ 32 * (of + 1)) (omega (arith, above))) ∙ and_false (leb (2 ^ 32 * of) (2 ^ 32 * g + n))
        ∙ sym (ne_eqb g of (λ same. omega (arith, above, same)))
    | inr to ↦
        let same : g ≡ of = omega (arith, from, to) in
        ap (λ b. b && ltb (2 ^ 32 * g + n) (2 ^ 32 * (of + 1))) (le-leb (2 ^ 32 * of) (2 ^ 32 * g + n) (omega (arith, same)))
        ∙ lt-ltb (2 ^ 32 * g + n) (2 ^ 32 * (of + 1)) (omega (arith, small, same)) ∙ sym (eq-eqb g of same)
  ]
]
  where
    and_false : (b : Bool) → (b && false) ≡ false
    and_false true = refl
    and_false false = refl

-- the rows whose keys lie between two multiples are those of a group
pub group_rows : {X : Type 0} (key group number : X → ℕ) → ((x : X) → key x ≡ 2 ^ 32 * group x + number x) → (rows : List X) (of : ℕ) → ((x : X) → Contains rows x → number x < 2 ^ 32) →
    rows_of_group key of rows ≡ filter (λ x. group x == of) rows
group_rows {X} key group number made rows of small =
    filter_same (λ x. leb (2 ^ 32 * of) (key x) && ltb (key x) (2 ^ 32 * (of + 1))) (λ x. group x == of) rows
    (λ x there. ap (λ k. leb (2 ^ 32 * of) k && ltb k (2 ^ 32 * (of + 1))) (made x) ∙ group_test (group x) of (number x) (small x there))

-- the same of rows that were looked for in a list that equals them
pub group_found : {X : Type 0} (key group number : X → ℕ) → ((x : X) → key x ≡ 2 ^ 32 * group x + number x) → (seen rows : List X) (of : ℕ) (found : List X) → seen ≡ rows →
    (IsNonDecreasingBy key seen → found ≡ rows_of_group key of seen) → IsNonDecreasingBy key rows →
    ((x : X) → Contains rows x → number x < 2 ^ 32) → found ≡ filter (λ x. group x == of) rows
group_found {X} key group number made seen rows of found same says order small =
    let P : List X → Type 0 = λ xs. IsNonDecreasingBy key xs → found ≡ rows_of_group key of xs in
    subst P same says order ∙ group_rows key group number made rows of small

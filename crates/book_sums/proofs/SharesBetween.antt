-- What the parts between two places of an ordered list come to, and how the two places are found.
use Rattle.std.proofs.Common.{◌≡◌, ℕ, ◌+◌, ◌*◌, ◌^◌, ◌<◌, ◌≤◌, suc, zero, ap, ℤ, pos, neg_ℤ, ◌+ℤ◌, ◌≤ℤ◌, List, [], ◌∷◌, map, take, length, get_or, Bool, true, false, leb, ltb, cond, refl, arith, inl, inr}
use Rattle.std.specs.Prelude.{nat_le}
use Rattle.std.specs.List.{All, count_by}
use Rattle.std.specs.List.Sorted.{IsNonDecreasingBy, IsPartitionPoint}
use Rattle.std.proofs.lemmas.Bool.{and_from, and_left, and_right, cases_lt, le-leb, leb-false, leb-true, lt-leb, ltb-false, ltb-true}
use Rattle.std.proofs.lemmas.Int.{ints}
use Rattle.std.proofs.lemmas.List.{get_or_default}
use Rattle.std.proofs.lemmas.List.Elements.{All-head, All-tail}
use Rattle.std.proofs.lemmas.List.Sums.{sum_by-cons}
use Rattle.keyed_rows.specs.Totals.{total}
use Rattle.book_sums.specs.declared.shares.Part.{Part}
use Rattle.book_sums.specs.Shares.{IsPart, is_between, part_key}
use Rattle.book_sums.proofs.Counting.{one_if}

-- what a row adds where it passes a test
abbrev pub where_passes : {X : Type 0} → (X → Bool) → (X → ℤ) → X → ℤ
where_passes p f x = cond (p x) (f x) (pos 0)

-- the rows from i on and before j pass the test, and no others
pub record PassBetween {X : Type 0} (p : X → Bool) (xs : List X) (i j : ℕ) : Type 0 where
  pub in_order : i ≤ j
  pub within : j ≤ length xs
  pub before : (k : ℕ) (d : X) → k < i → p (get_or xs k d) ≡ false
  pub between : (k : ℕ) (d : X) → i ≤ k → k < j → p (get_or xs k d) ≡ true
  pub after : (k : ℕ) (d : X) → j ≤ k → k < length xs → p (get_or xs k d) ≡ false

none_between : {X : Type 0} (p : X → Bool) (x : X) (xs : List X) → PassBetween p (x ∷ xs) 0 0 → PassBetween p xs 0 0
none_between p x xs h = record {
  in_order = omega arith;
  within = omega arith;
  before = λ k d less. absurd (omega arith);
  between = λ k d low high. absurd (omega arith);
  after = λ k d low high. h.after (suc k) d (omega arith) (omega arith);
}

from_first : {X : Type 0} (p : X → Bool) (x : X) (xs : List X) (j : ℕ) → PassBetween p (x ∷ xs) 0 (suc j) → PassBetween p xs 0 j
from_first p x xs j h = record {
  in_order = omega arith;
  within = omega (arith, h.within);
  before = λ k d less. absurd (omega arith);
  between = λ k d low high. h.between (suc k) d (omega arith) (omega arith);
  after = λ k d low high. h.after (suc k) d (omega arith) (omega arith);
}

from_later : {X : Type 0} (p : X → Bool) (x : X) (xs : List X) (i j : ℕ) → PassBetween p (x ∷ xs) (suc i) (suc j) → PassBetween p xs i j
from_later p x xs i j h = record {
  in_order = omega (arith, h.in_order);
  within = omega (arith, h.within);
  before = λ k d less. h.before (suc k) d (omega arith);
  between = λ k d low high. h.between (suc k) d (omega arith) (omega arith);
  after = λ k d low high. h.after (suc k) d (omega arith) (omega arith);
}

skipped : (b : Bool) (x rest front whole : ℤ) → b ≡ false → front +ℤ rest ≡ whole → front +ℤ (cond b x (pos 0) +ℤ rest) ≡ whole
skipped b x rest front whole off e = go b off
  where
    go : (b : Bool) → b ≡ false → front +ℤ (cond b x (pos 0) +ℤ rest) ≡ whole
    go false off = omega (arith, ints)
    go true off = cc

taken : (b : Bool) (x rest whole : ℤ) → b ≡ true → pos 0 +ℤ rest ≡ whole → pos 0 +ℤ (cond b x (pos 0) +ℤ rest) ≡ x +ℤ whole
taken b x rest whole on e = go b on
  where
    go : (b : Bool) → b ≡ true → pos 0 +ℤ (cond b x (pos 0) +ℤ rest) ≡ x +ℤ whole
    go true on = omega (arith, ints)
    go false on = cc

in_front : (b : Bool) (x rest front whole : ℤ) → b ≡ false → front +ℤ rest ≡ whole → (x +ℤ front) +ℤ (cond b x (pos 0) +ℤ rest) ≡ x +ℤ whole
in_front b x rest front whole off e = go b off
  where
    go : (b : Bool) → b ≡ false → (x +ℤ front) +ℤ (cond b x (pos 0) +ℤ rest) ≡ x +ℤ whole
    go false off = omega (arith, ints)
    go true off = cc

-- a sum of the rows that pass is a difference of two running sums
pub total-PassBetween : {X : Type 0} (p : X → Bool) (f : X → ℤ) (xs : List X) (i j : ℕ) → PassBetween p xs i j →
    total (map f (take i xs)) +ℤ total (map (where_passes p f) xs) ≡ total (map f (take j xs))
total-PassBetween p f [] zero zero h = omega (arith, ints)
total-PassBetween p f [] i (suc j) h = absurd (omega (arith, h.within))
total-PassBetween p f [] (suc i) zero h = absurd (omega (arith, h.in_order))
total-PassBetween p f (x ∷ xs) zero zero h =
    skipped (p x) (f x) (total (map (where_passes p f) xs)) (pos 0) (pos 0) (h.after 0 x (omega arith) (omega arith)) (total-PassBetween p f xs 0 0 (none_between p x xs h))
total-PassBetween p f (x ∷ xs) zero (suc j) h =
    taken (p x) (f x) (total (map (where_passes p f) xs)) (total (map f (take j xs))) (h.between 0 x (omega arith) (omega arith)) (total-PassBetween p f xs 0 j (from_first p x xs j h))
total-PassBetween p f (x ∷ xs) (suc i) zero h = absurd (omega (arith, h.in_order))
total-PassBetween p f (x ∷ xs) (suc i) (suc j) h =
    in_front (p x) (f x) (total (map (where_passes p f) xs)) (total (map f (take i xs))) (total (map f (take j xs)))
    (h.before 0 x (omega arith)) (total-PassBetween p f xs i j (from_later p x xs i j h))

one_if_no : (b : Bool) → b ≡ false → one_if b ≡ 0
one_if_no false off = refl
one_if_no true off = cc

one_if_yes : (b : Bool) → b ≡ true → one_if b ≡ 1
one_if_yes true on = refl
one_if_yes false on = cc

-- and their count is the difference of the places
pub count_by-PassBetween : {X : Type 0} (p : X → Bool) (xs : List X) (i j : ℕ) → PassBetween p xs i j → i + count_by p xs ≡ j
count_by-PassBetween p [] zero zero h = refl
count_by-PassBetween p [] i (suc j) h = absurd (omega (arith, h.within))
count_by-PassBetween p [] (suc i) zero h = absurd (omega (arith, h.in_order))
count_by-PassBetween p (x ∷ xs) zero zero h =
    omega (arith, sum_by-cons (λ y. cond (p y) 1 0) x xs, one_if_no (p x) (h.after 0 x (omega arith) (omega arith)), count_by-PassBetween p xs 0 0 (none_between p x xs h))
count_by-PassBetween p (x ∷ xs) zero (suc j) h =
    omega (arith, sum_by-cons (λ y. cond (p y) 1 0) x xs, one_if_yes (p x) (h.between 0 x (omega arith) (omega arith)), count_by-PassBetween p xs 0 j (from_first p x xs j h))
count_by-PassBetween p (x ∷ xs) (suc i) zero h = absurd (omega (arith, h.in_order))
count_by-PassBetween p (x ∷ xs) (suc i) (suc j) h =
    omega (arith, sum_by-cons (λ y. cond (p y) 1 0) x xs, one_if_no (p x) (h.before 0 x (omega arith)), count_by-PassBetween p xs i j (from_later p x xs i j h))

-- the keys below the first end at i
abbrev pub EndsBelow : List Part → ℕ → ℕ → Type 0
EndsBelow parts key i = IsPartitionPoint (λ p. part_key p < key) (λ p. key ≤ part_key p) parts i

-- the keys up to the last end at j
abbrev pub EndsAt : List Part → ℕ → ℕ → Type 0
EndsAt parts key j = IsPartitionPoint (λ p. part_key p ≤ key) (λ p. key < part_key p) parts j

any : Part
any = record { group = 0; number = 0; amount = pos 0 }

-- two searches find where the parts are that lie between two keys
pub between_places : (parts : List Part) (first last i j : ℕ) → first ≤ last → i ≤ length parts → j ≤ length parts → EndsBelow parts first i → EndsAt parts last j →
    PassBetween (is_between first last) parts i j
between_places parts first last i j ordered i_in j_in low high = record {
  in_order = elim (cases_lt j i) [
    | inl less ↦
        let under = low.0 j any (omega arith) less in
        let over = high.1 j any (omega arith) (omega arith) in
        absurd (omega (arith, under, over))
    | inr rest ↦ rest
  ];
  within = j_in;
  before = λ k d less. and_left (nat_le first (part_key (get_or parts k d))) (nat_le (part_key (get_or parts k d)) last)
      (lt-leb first (part_key (get_or parts k d)) (low.0 k d (omega arith) less));
  between = λ k d from till. and_from (nat_le first (part_key (get_or parts k d))) (nat_le (part_key (get_or parts k d)) last)
      (le-leb first (part_key (get_or parts k d)) (low.1 k d from (omega arith)))
      (le-leb (part_key (get_or parts k d)) last (high.0 k d (omega arith) till));
  after = λ k d from inside. and_right (nat_le first (part_key (get_or parts k d))) (nat_le (part_key (get_or parts k d)) last)
      (lt-leb (part_key (get_or parts k d)) last (high.1 k d from inside));
}

-- from the points of tests that compute
pub EndsBelow-from_test : (parts : List Part) (key i : ℕ) → IsPartitionPoint (λ y. ltb (part_key y) key ≡ true) (λ y. ltb (part_key y) key ≡ false) parts i → EndsBelow parts key i
EndsBelow-from_test parts key i found = (
  λ k d low high. ltb-true (part_key (get_or parts k d)) key (found.0 k d low high),
  λ k d low high. ltb-false (part_key (get_or parts k d)) key (found.1 k d low high),
)

pub EndsAt-from_test : (parts : List Part) (key i : ℕ) → IsPartitionPoint (λ y. leb (part_key y) key ≡ true) (λ y. leb (part_key y) key ≡ false) parts i → EndsAt parts key i
EndsAt-from_test parts key i found = (
  λ k d low high. leb-true (part_key (get_or parts k d)) key (found.0 k d low high),
  λ k d low high. leb-false (part_key (get_or parts k d)) key (found.1 k d low high),
)

-- what parts come to is no more than 2 to the 63rd for each
pub within_amounts : (p : Part → Bool) (parts : List Part) → All IsPart parts →
    (neg_ℤ (pos (2 ^ 63 * length parts)) ≤ℤ total (map (where_passes p (λ x. x.amount)) parts)) × (total (map (where_passes p (λ x. x.amount)) parts) ≤ℤ pos (2 ^ 63 * length parts))
within_amounts p [] all = (omega (arith, ints), omega (arith, ints))
within_amounts p (x ∷ xs) all = go (p x) (All-head IsPart x xs all) (within_amounts p xs (All-tail IsPart x xs all))
  where
    go : (b : Bool) → IsPart x → (neg_ℤ (pos (2 ^ 63 * length xs)) ≤ℤ total (map (where_passes p (λ x. x.amount)) xs)) × (total (map (where_passes p (λ x. x.amount)) xs) ≤ℤ pos (2 ^ 63 * length xs)) →
        (neg_ℤ (pos (2 ^ 63 * length (x ∷ xs))) ≤ℤ (cond b x.amount (pos 0) +ℤ total (map (where_passes p (λ x. x.amount)) xs)))
        × ((cond b x.amount (pos 0) +ℤ total (map (where_passes p (λ x. x.amount)) xs)) ≤ℤ pos (2 ^ 63 * length (x ∷ xs)))
    go true fits rest = (omega (arith, ints, fits.low, rest.0), omega (arith, ints, fits.high, rest.1))
    go false fits rest = (omega (arith, ints, rest.0), omega (arith, ints, rest.1))

-- parts in order stand above a key from where one does, and are not above it up to where one isn't
pub above_from : (parts : List Part) (place key found k : ℕ) (e d : Part) → IsNonDecreasingBy part_key parts → found ≡ part_key (get_or parts place e) → key < found →
    place ≤ k → k < length parts → key < part_key (get_or parts k d)
above_from parts place key found k e d order found_is more from till =
    let same : part_key (get_or parts place e) ≡ part_key (get_or parts place d) = ap part_key (get_or_default parts place e d (omega arith)) in
    omega (arith, order place k d from till, same, found_is)

pub up_to_here : (parts : List Part) (place key found k : ℕ) (e d : Part) → IsNonDecreasingBy part_key parts → found ≡ part_key (get_or parts place e) → found ≤ key →
    place < length parts → k ≤ place → part_key (get_or parts k d) ≤ key
up_to_here parts place key found k e d order found_is less inside till =
    let same : part_key (get_or parts place e) ≡ part_key (get_or parts place d) = ap part_key (get_or_default parts place e d inside) in
    omega (arith, order k place d till inside, same, found_is)

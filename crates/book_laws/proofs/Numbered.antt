-- Rows that are numbered within their groups: with one more, and their keys.
use Rattle.std.proofs.Common.{◌≡◌, ◌≢◌, ℕ, ◌+◌, ◌*◌, ◌^◌, ◌<◌, ◌≤◌, List, [], ◌∷◌, map, Bool, true, false, cond, refl, ap, arith, sym, ◌∙◌, subst, ◌==◌, ◌&&◌, Contains, ◌⊎◌, inl, inr}
use Rattle.std.specs.List.{count_by}
use Rattle.std.proofs.lemmas.Bool.{and_left, and_parts, eq-eqb, eqb-true, false_from_ne_true, false≢true}
use Rattle.std.proofs.lemmas.List.Sums.{sum_by-cons}
use Rattle.keyed_rows.specs.Ordered.{AreDistinct, add_row}
use Rattle.bank_books.specs.Numbering.{AreNumbered}
use Rattle.keyed_rows.proofs.DistinctKeys.{key_parts}
use Rattle.keyed_rows.proofs.Rows.{Contains-add_row_cases, Contains-head, Contains-tail, count-add_row, count_named, count_none, count_other, count_some, none_of_key}

one_more : (n c c' : ℕ) → n ≡ c + 1 → c' ≡ c + 1 → n ≤ c'
one_more n c c' is more = omega arith

still_high : (n c c' d : ℕ) → n ≤ c → c' ≡ c + d → n ≤ c'
still_high n c c' d below more = omega arith

only_one : (c c' : ℕ) → c ≡ 0 → c' ≡ c + 1 → c' ≤ 1
only_one c c' none more = omega arith

above_count : (n m c : ℕ) → n ≡ c + 1 → m ≤ c → m ≡ n → ⊥
above_count n m c is below same = omega arith

at_least_one : (n c : ℕ) → n ≡ c + 1 → 1 ≤ n
at_least_one n c is = omega arith

-- where a group has no rows they are numbered
pub AreNumbered-none : {X : Type 0} (group number : X → ℕ) (xs : List X) (k : ℕ) → ((x : X) → Contains xs x → (group x == k) ≡ false) → AreNumbered group number xs k
AreNumbered-none {X = X} group number xs k none = record {
  low = λ row there of. absurd (stands row there of);
  high = λ row there of. absurd (stands row there of);
  once = λ n. no_more _ (count_none (λ r. group r == k && number r == n) xs (λ x there. and_left (group x == k) (number x == n) (none x there)));
}
  where
    stands : (x : X) → Contains xs x → group x ≡ k → ⊥
    stands x there of = false≢true (sym (none x there) ∙ eq-eqb (group x) k of)

    no_more : (c : ℕ) → c ≡ 0 → c ≤ 1
    no_more c is = omega arith

-- rows that are numbered stay so with one more that bears the next number
pub AreNumbered-add_row : {X : Type 0} (key group number : X → ℕ) (e : X) (xs : List X) (k : ℕ) → AreNumbered group number xs k
    → (group e ≡ k → number e ≡ count_by (λ r. group r == k) xs + 1) → AreNumbered group number (add_row key e xs) k
AreNumbered-add_row {X = X} key group number e xs k old next = record {
  low = λ row there of. low_of row (Contains-add_row_cases key e xs row there) of;
  high = λ row there of. high_of row (Contains-add_row_cases key e xs row there) of;
  once = λ n. once_of n (group e == k && number e == n) refl;
}
  where
    low_of : (row : X) → (e ≡ row) ⊎ Contains xs row → group row ≡ k → 1 ≤ number row
    low_of row (inl new) of = subst (λ r. 1 ≤ number r) new (at_least_one (number e) (count_by (λ r. group r == k) xs) (next (ap group new ∙ of)))
    low_of row (inr there) of = old.low row there of

    high_of : (row : X) → (e ≡ row) ⊎ Contains xs row → group row ≡ k → number row ≤ count_by (λ r. group r == k) (add_row key e xs)
    high_of row (inl new) of =
        subst (λ r. number r ≤ count_by (λ r. group r == k) (add_row key e xs)) new
        (one_more (number e) (count_by (λ r. group r == k) xs) (count_by (λ r. group r == k) (add_row key e xs)) (next (ap group new ∙ of))
        (count_named key (λ r. group r == k) e xs (eq-eqb (group e) k (ap group new ∙ of))))
    high_of row (inr there) of =
        still_high (number row) (count_by (λ r. group r == k) xs) (count_by (λ r. group r == k) (add_row key e xs)) _ (old.high row there of) (count-add_row key (λ r. group r == k) e xs)

    none_before : (n : ℕ) → (group e == k && number e == n) ≡ true → (x : X) → Contains xs x → (group x == k && number x == n) ≡ false
    none_before n new x there = false_from_ne_true (group x == k && number x == n) (λ is.
        let new_parts = and_parts (group e == k) (number e == n) new in
        let parts = and_parts (group x == k) (number x == n) is in
        above_count (number e) (number x) (count_by (λ r. group r == k) xs) (next (eqb-true (group e) k new_parts.0)) (old.high x there (eqb-true (group x) k parts.0))
        (eqb-true (number x) n parts.1 ∙ sym (eqb-true (number e) n new_parts.1)))

    once_of : (n : ℕ) (b : Bool) → (group e == k && number e == n) ≡ b → count_by (λ r. group r == k && number r == n) (add_row key e xs) ≤ 1
    once_of n true is =
        only_one (count_by (λ r. group r == k && number r == n) xs) (count_by (λ r. group r == k && number r == n) (add_row key e xs))
        (count_none (λ r. group r == k && number r == n) xs (none_before n is)) (count_named key (λ r. group r == k && number r == n) e xs is)
    once_of n false is = subst (λ c. c ≤ 1) (sym (count_other key (λ r. group r == k && number r == n) e xs is)) (old.once n)

-- ---- keys

too_many : (first rest all : ℕ) → first ≡ 1 → 1 ≤ rest → all ≡ first + rest → all ≤ 1 → ⊥
too_many first rest all one some is most = omega arith

fewer : (first rest all : ℕ) → all ≡ first + rest → all ≤ 1 → rest ≤ 1
fewer first rest all is most = omega arith

-- where no number stands twice in a group, and each is small enough for the key, no key stands twice
pub AreDistinct-numbered : {X : Type 0} (key group number : X → ℕ) (xs : List X) → ((x : X) → key x ≡ 2 ^ 32 * group x + number x) → ((x : X) → Contains xs x → number x < 2 ^ 32)
    → ((x : X) → Contains xs x → count_by (λ r. group r == group x && number r == number x) xs ≤ 1) → AreDistinct (map key xs)
AreDistinct-numbered key group number [] made small once = tt
AreDistinct-numbered {X = X} key group number (x ∷ xs) made small once = (
  none_of_key key (key x) xs apart,
  AreDistinct-numbered key group number xs made (λ y there. small y (Contains-tail x xs y there)) (λ y there.
      fewer (cond (group x == group y && number x == number y) 1 0) (count_by (λ r. group r == group y && number r == number y) xs) (count_by (λ r. group r == group y && number r == number y) (x ∷ xs))
      (sum_by-cons (λ r. cond (group r == group y && number r == number y) 1 0) x xs) (once y (Contains-tail x xs y there))),
)
  where
    alike : (y : X) → group y ≡ group x → number y ≡ number x → (group y == group x && number y == number x) ≡ true
    alike y groups numbers = ap (λ b. b && number y == number x) (eq-eqb (group y) (group x) groups) ∙ eq-eqb (number y) (number x) numbers

    apart : (y : X) → Contains xs y → key y ≢ key x
    apart y there same =
        let parts = key_parts (group y) (number y) (group x) (number x) (small y (Contains-tail x xs y there)) (small x (Contains-head x xs)) (sym (made y) ∙ same ∙ made x) in
        too_many (cond (group x == group x && number x == number x) 1 0) (count_by (λ r. group r == group x && number r == number x) xs)
        (count_by (λ r. group r == group x && number r == number x) (x ∷ xs)) (ap (λ b. cond b 1 0) (alike x refl refl))
        (count_some (λ r. group r == group x && number r == number x) xs y there (alike y parts.0 parts.1))
        (sum_by-cons (λ r. cond (group r == group x && number r == number x) 1 0) x xs) (once x (Contains-head x xs))

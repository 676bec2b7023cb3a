-- Which parts are of a group, up to a number or at it, by their keys.
use Rattle.std.proofs.Common.{◌≡◌, ℕ, ◌+◌, ◌*◌, ◌^◌, ◌<◌, ◌≤◌, ℤ, pos, ◌+ℤ◌, List, [], ◌∷◌, map, Bool, true, false, cond, ◌&&◌, ◌==◌, refl, ap, arith, sym, ◌∙◌}
use Rattle.std.specs.Prelude.{nat_le}
use Rattle.std.specs.List.{All, count_by}
use Rattle.std.proofs.lemmas.Bool.{and_from, and_parts, eq-eqb, eqb-true, le-leb, leb-true}
use Rattle.std.proofs.lemmas.List.Elements.{All-head, All-tail}
use Rattle.std.proofs.lemmas.List.Sums.{sum_by-cons}
use Rattle.keyed_rows.specs.Totals.{total}
use Rattle.book_sums.specs.declared.shares.Part.{Part}
use Rattle.book_sums.specs.Shares.{IsPart, is_between, part_key}
use Rattle.book_sums.proofs.Counting.{one_if}
use Rattle.book_sums.proofs.SharesBetween.{where_passes}

-- the greatest number that 32 bits hold
abbrev pub greatest : ℕ
greatest = 4294967295

same_tests : (a b : Bool) → (a ≡ true → b ≡ true) → (b ≡ true → a ≡ true) → a ≡ b
same_tests true b there back = sym (there refl)
same_tests false true there back = back refl
same_tests false false there back = refl

same_group : (g group number low high : ℕ) → number < 2 ^ 32 → high < 2 ^ 32 → 2 ^ 32 * g + low ≤ 2 ^ 32 * group + number → 2 ^ 32 * group + number ≤ 2 ^ 32 * g + high → group ≡ g
same_group g group number low high fits high_fits from till = omega arith

in_group : (p : Part) (g low high : ℕ) → IsPart p → high < 2 ^ 32 → is_between (2 ^ 32 * g + low) (2 ^ 32 * g + high) p ≡ true →
    (p.group ≡ g) × (low ≤ p.number) × (p.number ≤ high)
in_group p g low high fits high_fits test =
    let tests = and_parts (nat_le (2 ^ 32 * g + low) (part_key p)) (nat_le (part_key p) (2 ^ 32 * g + high)) test in
    let from : 2 ^ 32 * g + low ≤ 2 ^ 32 * p.group + p.number = leb-true (2 ^ 32 * g + low) (part_key p) tests.0 in
    let till : 2 ^ 32 * p.group + p.number ≤ 2 ^ 32 * g + high = leb-true (part_key p) (2 ^ 32 * g + high) tests.1 in
    let same : p.group ≡ g = same_group g p.group p.number low high fits.number high_fits from till in
    (same, omega (arith, same, from), omega (arith, same, till))

of_group : (p : Part) (g low high : ℕ) → p.group ≡ g → low ≤ p.number → p.number ≤ high → is_between (2 ^ 32 * g + low) (2 ^ 32 * g + high) p ≡ true
of_group p g low high same from till =
    and_from (nat_le (2 ^ 32 * g + low) (part_key p)) (nat_le (part_key p) (2 ^ 32 * g + high))
    (le-leb (2 ^ 32 * g + low) (part_key p) (omega arith)) (le-leb (part_key p) (2 ^ 32 * g + high) (omega arith))

-- of any number
pub is_of_group : (g : ℕ) (p : Part) → IsPart p → is_between (2 ^ 32 * g + 0) (2 ^ 32 * g + greatest) p ≡ (p.group == g)
is_of_group g p fits = same_tests (is_between (2 ^ 32 * g + 0) (2 ^ 32 * g + greatest) p) (p.group == g)
    (λ test. eq-eqb p.group g (in_group p g 0 greatest fits (omega arith) test).0)
    (λ test. of_group p g 0 greatest (eqb-true p.group g test) (omega arith) (omega (arith, fits.number)))

-- up to a number
pub is_up_to : (g number : ℕ) → number < 2 ^ 32 → (p : Part) → IsPart p → is_between (2 ^ 32 * g + 0) (2 ^ 32 * g + number) p ≡ (p.group == g && nat_le p.number number)
is_up_to g number small p fits = same_tests (is_between (2 ^ 32 * g + 0) (2 ^ 32 * g + number) p) (p.group == g && nat_le p.number number)
    (λ test.
    let found = in_group p g 0 number fits small test in
    and_from (p.group == g) (nat_le p.number number) (eq-eqb p.group g found.0) (le-leb p.number number found.2))
    (λ test.
    let tests = and_parts (p.group == g) (nat_le p.number number) test in
    of_group p g 0 number (eqb-true p.group g tests.0) (omega arith) (leb-true p.number number tests.1))

-- at a number
pub is_at : (g number : ℕ) → number < 2 ^ 32 → (p : Part) → IsPart p → is_between (2 ^ 32 * g + number) (2 ^ 32 * g + number) p ≡ (p.group == g && p.number == number)
is_at g number small p fits = same_tests (is_between (2 ^ 32 * g + number) (2 ^ 32 * g + number) p) (p.group == g && p.number == number)
    (λ test.
    let found = in_group p g number number fits small test in
    and_from (p.group == g) (p.number == number) (eq-eqb p.group g found.0) (eq-eqb p.number number (omega (arith, found.1, found.2))))
    (λ test.
    let tests = and_parts (p.group == g) (p.number == number) test in
    let same : p.number ≡ number = eqb-true p.number number tests.1 in
    of_group p g number number (eqb-true p.group g tests.0) (omega (arith, same)) (omega (arith, same)))

-- two tests that agree on the parts give one sum and one count
pub total_of_tests : {X : Type 0} (P : X → Type 0) (p q : X → Bool) (f : X → ℤ) (xs : List X) → ((x : X) → P x → p x ≡ q x) → All P xs →
    total (map (where_passes p f) xs) ≡ total (map (where_passes q f) xs)
total_of_tests P p q f [] agree all = refl
total_of_tests P p q f (x ∷ xs) agree all =
    ap (λ b. cond b (f x) (pos 0) +ℤ total (map (where_passes p f) xs)) (agree x (All-head P x xs all))
    ∙ ap (λ z. cond (q x) (f x) (pos 0) +ℤ z) (total_of_tests P p q f xs agree (All-tail P x xs all))

pub count_of_tests : {X : Type 0} (P : X → Type 0) (p q : X → Bool) (xs : List X) → ((x : X) → P x → p x ≡ q x) → All P xs → count_by p xs ≡ count_by q xs
count_of_tests P p q [] agree all = refl
count_of_tests P p q (x ∷ xs) agree all =
    sum_by-cons (λ y. cond (p y) 1 0) x xs
    ∙ ap (λ b. one_if b + count_by p xs) (agree x (All-head P x xs all))
    ∙ ap (λ n. one_if (q x) + n) (count_of_tests P p q xs agree (All-tail P x xs all))
    ∙ sym (sum_by-cons (λ y. cond (q y) 1 0) x xs)

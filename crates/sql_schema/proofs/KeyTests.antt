-- Tests by the columns of a key, and by the key as one number.
use Rattle.std.proofs.Common.{◌≡◌, ◌<◌, ◌≤◌, ◌+◌, ◌*◌, ◌^◌, ℕ, List, [], ◌∷◌, map, length, Bool, true, false, Option, Some, None, refl, sym, arith, ◌==◌, ◌&&◌}
use Rattle.std.specs.List.{cons_option}
use Rattle.std.proofs.lemmas.Bool.{and_from, and_parts, eq-eqb, eqb-true}
use Rattle.sql_schema.proofs.InsertLemmas.{parts_of}

-- tests that imply each other give the same
pub same_test : (b c : Bool) → (b ≡ true → c ≡ true) → (c ≡ true → b ≡ true) → b ≡ c
same_test true c p q = sym (p refl)
same_test false true p q = q refl
same_test false false p q = refl

pub two_parts : (a b m n : ℕ) → b < 2 ^ 32 → n < 2 ^ 32 → (a == m && b == n) ≡ (2 ^ 32 * a + b == 2 ^ 32 * m + n)
two_parts a b m n p q = same_test (a == m && b == n) (2 ^ 32 * a + b == 2 ^ 32 * m + n)
    (λ h. let both = and_parts (a == m) (b == n) h in eq-eqb _ _ (λ i. 2 ^ 32 * eqb-true a m both.0 i + eqb-true b n both.1 i))
    (λ h. let both = parts_of a b m n p q (eqb-true _ _ h) in and_from (a == m) (b == n) (eq-eqb a m both.0) (eq-eqb b n both.1))

pub at_most_one : {X : Type 0} (o : Option X) → length (cons_option o []) ≤ 1
at_most_one None = omega arith
at_most_one (Some x) = omega arith

pub length-mapped : {X Y : Type 0} (f : X → Y) (xs : List X) → length (map f xs) ≡ length xs
length-mapped f [] = refl
length-mapped f (x ∷ xs) = let rest = length-mapped f xs in omega (arith, rest)

pub few_mapped : {X Y : Type 0} (f : X → Y) (xs : List X) → length xs ≤ 1 → length (map f xs) ≤ 1
few_mapped f xs few = let same = length-mapped f xs in omega (arith, few, same)

pub three_parts_of : (a b c l m n : ℕ) → b < 2 ^ 32 → m < 2 ^ 32 → c < 2 ^ 32 → n < 2 ^ 32 → 2 ^ 64 * a + 2 ^ 32 * b + c ≡ 2 ^ 64 * l + 2 ^ 32 * m + n → (a ≡ l) × (b ≡ m) × (c ≡ n)
three_parts_of a b c l m n p q r s e = (omega (arith, p, q, r, s, e), omega (arith, p, q, r, s, e), omega (arith, p, q, r, s, e))

pub three_parts : (a b c l m n : ℕ) → b < 2 ^ 32 → m < 2 ^ 32 → c < 2 ^ 32 → n < 2 ^ 32 → (a == l && (b == m && c == n)) ≡ (2 ^ 64 * a + 2 ^ 32 * b + c == 2 ^ 64 * l + 2 ^ 32 * m + n)
three_parts a b c l m n p q r s = same_test (a == l && (b == m && c == n)) (2 ^ 64 * a + 2 ^ 32 * b + c == 2 ^ 64 * l + 2 ^ 32 * m + n)
    (λ h.
    let one = and_parts (a == l) (b == m && c == n) h in
    let two = and_parts (b == m) (c == n) one.1 in
    eq-eqb _ _ (λ i. 2 ^ 64 * eqb-true a l one.0 i + 2 ^ 32 * eqb-true b m two.0 i + eqb-true c n two.1 i))
    (λ h.
    let all = three_parts_of a b c l m n p q r s (eqb-true _ _ h) in
    and_from (a == l) (b == m && c == n) (eq-eqb a l all.0) (and_from (b == m) (c == n) (eq-eqb b m all.1) (eq-eqb c n all.2)))

-- Rows that are found by a key which stands once.
use Rattle.std.proofs.Common.{◌≡◌, ◌≢◌, ◌==◌, ℕ, zero, suc, List, [], ◌∷◌, map, Bool, true, false, cond, Contains, Option, Some, None, IsTrue, refl, ap, arith, sym, subst, ◌∙◌}
use Rattle.std.specs.List.{find}
use Rattle.std.specs.List.Sorted.{IsNonDecreasingBy}
use Rattle.std.proofs.lemmas.Bool.{false≢true}
use Rattle.std.proofs.lemmas.Bool.Decides.{nat_tests}
use Rattle.keyed_rows.specs.Ordered.{AreDistinct}
use Rattle.keyed_rows.proofs.DistinctKeys.{apart-from_AreDistinct}
use Rattle.bank_books.specs.declared.rows.Teller.{Teller}
use Rattle.bank_books.specs.Keys.{teller_key}
use Rattle.bank_books.specs.Range.{IsTellerOf}

same_passes : (a b : ℕ) → a ≡ b → (a == b) ≡ true
same_passes a b same = grind (arith, nat_tests)

other_fails : (a b : ℕ) → a ≢ b → (a == b) ≡ false
other_fails a b other = grind (arith, nat_tests)

from_pass : (a b : ℕ) → (a == b) ≡ true → a ≡ b
from_pass a b passes = grind (arith, nat_tests)

-- a row that is found is there, and passes
pub found_row : {X : Type 0} (p : X → Bool) (xs : List X) (row : X) → find p xs ≡ Some row → Contains xs row × (p row ≡ true)
found_row p [] row found = cc
found_row {X} p (x ∷ xs) row found = go (p x) refl found (found_row p xs row)
  where
    go : (b : Bool) → p x ≡ b → cond b (Some x) (find p xs) ≡ Some row → (find p xs ≡ Some row → Contains xs row × (p row ≡ true)) → Contains (x ∷ xs) row × (p row ≡ true)
    go true passes is later =
        let same : x ≡ row = cc in
        ((0, omega arith, same), ap p (sym same) ∙ passes)
    go false fails is later =
        let there = later is in
        ((suc there.0.0, omega (arith, there.0.1), there.0.2), there.1)

-- of rows with distinct keys each is found by its own
pub finds_itself : {X : Type 0} (key : X → ℕ) (xs : List X) (row : X) → AreDistinct (map key xs) → Contains xs row → find (λ x. key x == key row) xs ≡ Some row
finds_itself key [] row distinct (k, below, is) = absurd (omega arith)
finds_itself {X} key (x ∷ xs) row distinct (zero, below, is) = go (key x == key row) (same_passes _ _ (ap key is))
  where
    go : (b : Bool) → b ≡ true → cond b (Some x) (find (λ y. key y == key row) xs) ≡ Some row
    go true passes = ap Some is
    go false passes = cc
finds_itself {X} key (x ∷ xs) row distinct (suc k, below, is) =
    go (key x == key row)
    (other_fails _ _ (λ same. apart-from_AreDistinct key (x ∷ xs) 0 (suc k) row distinct (omega arith) below (same ∙ ap key (sym is))))
    (finds_itself key xs row distinct.1 (k, omega arith, is))
  where
    go : (b : Bool) → b ≡ false → find (λ y. key y == key row) xs ≡ Some row → cond b (Some x) (find (λ y. key y == key row) xs) ≡ Some row
    go false fails rest = rest
    go true fails rest = cc

-- the row that a teller's key finds is the only one that could be of the branch
finds_teller : (tellers : List Teller) (branch key : ℕ) (found : Option Teller) → AreDistinct (map teller_key tellers) → found ≡ find (λ row. teller_key row == key) tellers → (of : IsTellerOf tellers branch key) → found ≡ Some of.0
finds_teller tellers branch key found distinct is (row, there) =
    let P : ℕ → Type 0 = λ k. find (λ r. teller_key r == k) tellers ≡ Some row in
    is ∙ subst P there.1 (finds_itself teller_key tellers row distinct there.0)

pub teller_found : (tellers : List Teller) (branch key : ℕ) (row : Teller) → AreDistinct (map teller_key tellers) → Some row ≡ find (λ r. teller_key r == key) tellers →
    (IsTrue (row.branch == branch) → IsTellerOf tellers branch key) × (IsTellerOf tellers branch key → IsTrue (row.branch == branch))
teller_found tellers branch key row distinct is = (
  λ same.
      let found = found_row (λ r. teller_key r == key) tellers row (sym is) in
      (row, (found.0, from_pass _ _ found.1, from_pass _ _ same)),
  λ of.
      let one : row ≡ of.0 = (let e = finds_teller tellers branch key (Some row) distinct is of in cc) in
      same_passes _ _ (ap (λ r. r.branch) one ∙ of.1.2),
)

pub teller_not_found : (tellers : List Teller) (branch key : ℕ) → AreDistinct (map teller_key tellers) → None ≡ find (λ r. teller_key r == key) tellers → IsTellerOf tellers branch key → ⊥
teller_not_found tellers branch key distinct is of = let e = finds_teller tellers branch key None distinct is of in cc

-- what is found in a list that equals the rows
pub found_in : {X : Type 0} (key : X → ℕ) (p : X → Bool) (seen rows : List X) (found : Option X) → seen ≡ rows → (IsNonDecreasingBy key seen → found ≡ find p seen) → IsNonDecreasingBy key rows → found ≡ find p rows
found_in {X} key p seen rows found same =
    let P : List X → Type 0 = λ xs. (IsNonDecreasingBy key xs → found ≡ find p xs) → IsNonDecreasingBy key rows → found ≡ find p rows in
    subst P (sym same) (λ says order. says order)

pub false_is_not : (P : Type 0) → (P → ⊥) → (IsTrue false → P) × (P → IsTrue false)
false_is_not P not = (λ is. absurd (false≢true is), λ holds. absurd (not holds))

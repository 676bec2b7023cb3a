-- The last row that passes, with one more row put at its place in a list that is in order.
use Rattle.std.proofs.Common.{◌≡◌, ℕ, ◌≤◌, List, [], ◌∷◌, ◌++◌, reverse, Bool, true, false, cond, refl, ap, arith, sym, ◌∙◌, subst, Option, Some, None, Contains}
use Rattle.std.specs.Prelude.{nat_le}
use Rattle.std.specs.List.{find}
use Rattle.std.specs.List.Sorted.{IsNonDecreasingBy}
use Rattle.std.proofs.lemmas.Bool.{false_from_ne_true}
use Rattle.std.proofs.lemmas.Bool.Decides.{nat_tests}
use Rattle.std.proofs.lemmas.List.{reverse-append}
use Rattle.keyed_rows.specs.Ordered.{add_row}
use Rattle.book_laws.proofs.LastRow.{or_else}
use Rattle.keyed_rows.proofs.Rows.{Contains-head, Contains-tail, rest_in_order}

find-append : {X : Type 0} (p : X → Bool) (xs ys : List X) → find p (xs ++ ys) ≡ or_else (find p xs) (find p ys)
find-append p [] ys = refl
find-append {X = X} p (x ∷ xs) ys = go (p x) (find-append p xs ys)
  where
    go : (b : Bool) → find p (xs ++ ys) ≡ or_else (find p xs) (find p ys) → cond b (Some x) (find p (xs ++ ys)) ≡ or_else (cond b (Some x) (find p xs)) (find p ys)
    go true rest = refl
    go false rest = rest

-- among the rows after the first, or else the first row
last-cons : {X : Type 0} (p : X → Bool) (x : X) (xs : List X) → find p (reverse (x ∷ xs)) ≡ or_else (find p (reverse xs)) (cond (p x) (Some x) None)
last-cons p x xs = ap (find p) (reverse-append (x ∷ []) xs) ∙ find-append p (reverse xs) (x ∷ [])

or_none : {X : Type 0} (o : Option X) → or_else o None ≡ o
or_none None = refl
or_none (Some x) = refl

-- where no row passes there is none
no_last : {X : Type 0} (p : X → Bool) (xs : List X) → ((x : X) → Contains xs x → p x ≡ false) → find p (reverse xs) ≡ None
no_last p [] none = refl
no_last p (x ∷ xs) none =
    last-cons p x xs ∙ ap (λ b. or_else (find p (reverse xs)) (cond b (Some x) None)) (none x (Contains-head x xs)) ∙ or_none (find p (reverse xs))
    ∙ no_last p xs (λ y there. none y (Contains-tail x xs y there))

-- a new row that does not pass leaves it
pub last_stays : {X : Type 0} (key : X → ℕ) (p : X → Bool) (e : X) (xs : List X) → p e ≡ false → find p (reverse (add_row key e xs)) ≡ find p (reverse xs)
last_stays key p e [] fails = last-cons p e [] ∙ ap (λ b. cond b (Some e) None) fails
last_stays {X = X} key p e (x ∷ xs) fails = go (nat_le (key x) (key e)) (last_stays key p e xs fails)
  where
    go : (b : Bool) → find p (reverse (add_row key e xs)) ≡ find p (reverse xs) → find p (reverse (cond b (x ∷ add_row key e xs) (e ∷ x ∷ xs))) ≡ find p (reverse (x ∷ xs))
    go true rest = last-cons p x (add_row key e xs) ∙ ap (λ o. or_else o (cond (p x) (Some x) None)) rest ∙ sym (last-cons p x xs)
    go false rest = last-cons p e (x ∷ xs) ∙ ap (λ b. or_else (find p (reverse (x ∷ xs))) (cond b (Some e) None)) fails ∙ or_none (find p (reverse (x ∷ xs)))

-- no row has a lower key than the first
first_lowest : {X : Type 0} (key : X → ℕ) (x : X) (xs : List X) (y : X) → IsNonDecreasingBy key (x ∷ xs) → Contains (x ∷ xs) y → key x ≤ key y
first_lowest key x xs y order (k, within, is) = subst (λ z. key x ≤ key z) is (order 0 k y (omega arith) within)

beyond : (a b c : ℕ) → nat_le a b ≡ false → a ≤ c → c ≤ b → ⊥
beyond a b c above low high = absurd (grind (arith, nat_tests))

-- a new row that passes is the last, where none that passes has a higher key
pub last_is_new : {X : Type 0} (key : X → ℕ) (p : X → Bool) (e : X) (xs : List X) → IsNonDecreasingBy key xs → p e ≡ true → ((x : X) → Contains xs x → p x ≡ true → key x ≤ key e)
    → find p (reverse (add_row key e xs)) ≡ Some e
last_is_new key p e [] order passes low = last-cons p e [] ∙ ap (λ b. cond b (Some e) None) passes
last_is_new {X = X} key p e (x ∷ xs) order passes low =
    go (nat_le (key x) (key e)) refl (last_is_new key p e xs (rest_in_order key x xs order) passes (λ y there. low y (Contains-tail x xs y there)))
  where
    go : (b : Bool) → nat_le (key x) (key e) ≡ b → find p (reverse (add_row key e xs)) ≡ Some e → find p (reverse (cond b (x ∷ add_row key e xs) (e ∷ x ∷ xs))) ≡ Some e
    go true is rest = last-cons p x (add_row key e xs) ∙ ap (λ o. or_else o (cond (p x) (Some x) None)) rest
    go false is rest =
        last-cons p e (x ∷ xs)
        ∙ ap (λ o. or_else o (cond (p e) (Some e) None))
        (no_last p (x ∷ xs) (λ y there. false_from_ne_true (p y) (λ yes'. beyond (key x) (key e) (key y) is (first_lowest key x xs y order there) (low y there yes'))))
        ∙ ap (λ b. cond b (Some e) None) passes

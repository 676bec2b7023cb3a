-- The last row that passes, with one more row put at its place: it is that one, or the one that it was.
use Rattle.std.proofs.Common.{◌≡◌, ℕ, List, [], ◌∷◌, ◌++◌, reverse, Bool, true, false, cond, refl, ap, sym, ◌∙◌, Option, Some, None, ◌⊎◌, inl, inr}
use Rattle.std.specs.Prelude.{nat_le}
use Rattle.std.specs.List.{find}
use Rattle.std.proofs.lemmas.List.{reverse-append}
use Rattle.keyed_rows.specs.Ordered.{add_row}

-- the first of the two that is there
abbrev pub or_else : {X : Type 0} → Option X → Option X → Option X
or_else None o = o
or_else (Some x) o = Some x

find-append : {X : Type 0} (p : X → Bool) (xs ys : List X) → find p (xs ++ ys) ≡ or_else (find p xs) (find p ys)
find-append p [] ys = refl
find-append {X = X} p (x ∷ xs) ys = go (p x) (find-append p xs ys)
  where
    go : (b : Bool) → find p (xs ++ ys) ≡ or_else (find p xs) (find p ys) → cond b (Some x) (find p (xs ++ ys)) ≡ or_else (cond b (Some x) (find p xs)) (find p ys)
    go true rest = refl
    go false rest = rest

-- the last one after the first row, or else the first row
last-cons : {X : Type 0} (p : X → Bool) (x : X) (xs : List X) → find p (reverse (x ∷ xs)) ≡ or_else (find p (reverse xs)) (cond (p x) (Some x) None)
last-cons p x xs = ap (find p) (reverse-append (x ∷ []) xs) ∙ find-append p (reverse xs) (x ∷ [])

pub last_after : {X : Type 0} (key : X → ℕ) (p : X → Bool) (e : X) (xs : List X) → (find p (reverse (add_row key e xs)) ≡ Some e) ⊎ (find p (reverse (add_row key e xs)) ≡ find p (reverse xs))
last_after {X = X} key p e [] = go (p e) refl
  where
    go : (b : Bool) → p e ≡ b → (find p (reverse (e ∷ [])) ≡ Some e) ⊎ (find p (reverse (e ∷ [])) ≡ None)
    go true is = inl (last-cons p e [] ∙ ap (λ b. cond b (Some e) None) is)
    go false is = inr (last-cons p e [] ∙ ap (λ b. cond b (Some e) None) is)
last_after {X = X} key p e (x ∷ xs) = go (nat_le (key x) (key e)) (last_after key p e xs)
  where
    at_front : (o : Option X) → find p (reverse (x ∷ xs)) ≡ o → (b : Bool) → p e ≡ b → (find p (reverse (e ∷ x ∷ xs)) ≡ Some e) ⊎ (find p (reverse (e ∷ x ∷ xs)) ≡ find p (reverse (x ∷ xs)))
    at_front (Some y) is b passes = inr (last-cons p e (x ∷ xs) ∙ ap (λ o. or_else o (cond (p e) (Some e) None)) is ∙ sym is)
    at_front None is true passes = inl (last-cons p e (x ∷ xs) ∙ ap (λ o. or_else o (cond (p e) (Some e) None)) is ∙ ap (λ c. cond c (Some e) None) passes)
    at_front None is false passes = inr (last-cons p e (x ∷ xs) ∙ ap (λ o. or_else o (cond (p e) (Some e) None)) is ∙ ap (λ c. cond c (Some e) None) passes ∙ sym is)

    go : (b : Bool) → (find p (reverse (add_row key e xs)) ≡ Some e) ⊎ (find p (reverse (add_row key e xs)) ≡ find p (reverse xs))
        → (find p (reverse (cond b (x ∷ add_row key e xs) (e ∷ x ∷ xs))) ≡ Some e) ⊎ (find p (reverse (cond b (x ∷ add_row key e xs) (e ∷ x ∷ xs))) ≡ find p (reverse (x ∷ xs)))
    go true (inl new) = inl (last-cons p x (add_row key e xs) ∙ ap (λ o. or_else o (cond (p x) (Some x) None)) new)
    go true (inr same) = inr (last-cons p x (add_row key e xs) ∙ ap (λ o. or_else o (cond (p x) (Some x) None)) same ∙ sym (last-cons p x xs))
    go false rest = at_front (find p (reverse (x ∷ xs))) refl (p e) refl

-- Rows that are alike, and what is made of them at both banks.
use Rattle.std.proofs.Common.{◌≡◌, ◌||◌, ◌∙◌, ℕ, List, [], ◌∷◌, map, Bool, true, false, cond, Option, Some, None, Contains, refl, ap, sym, subst, inl, inr}
use Rattle.std.specs.Prelude.{nat_le, option_map}
use Rattle.std.specs.List.{filter, find, list_any}
use Rattle.keyed_rows.specs.Ordered.{add_row}
use Rattle.keyed_rows.proofs.Rows.{Contains-cons_cases, Contains-head, Contains-tail}
use Rattle.year_laws.specs.GoesOn.{AreBoth, AreEach}

-- of rows that are equal to such as are alike
pub carried : {T : Type 0} (alike : T → T → Type 0) (a b c d : T) → a ≡ b → c ≡ d → alike b d → alike a c
carried alike a b c d first second same = subst (λ r. alike r c) (sym first) (subst (λ r. alike b r) (sym second) same)

-- two rows that are found
pub found_both : {X T : Type 0} (alike : T → T → Type 0) (f g : X → T) (a b : Option X) (x y : X) → a ≡ Some x → b ≡ Some y → AreBoth alike (option_map f a) (option_map g b) → alike (f x) (g y)
found_both alike f g a b x y first second same =
    subst (λ o. AreBoth alike (Some (f x)) (option_map g o)) second (subst (λ o. AreBoth alike (option_map f o) (option_map g b)) first same)

-- where neither was there or both were, the same is so of what is made of them
pub both_moved : {X T : Type 0} (alike : T → T → Type 0) (f f' g g' : X → T) (a b : Option X) → AreBoth alike (option_map f a) (option_map g b)
    → ((x y : X) → a ≡ Some x → b ≡ Some y → alike (f x) (g y) → alike (f' x) (g' y)) → AreBoth alike (option_map f' a) (option_map g' b)
both_moved alike f f' g g' None None same each = tt
both_moved alike f f' g g' (Some x) (Some y) same each = each x y refl refl same
both_moved alike f f' g g' None (Some y) same each = absurd same
both_moved alike f f' g g' (Some x) None same each = absurd same

-- and of each row of two lists
pub each_moved : {X T : Type 0} (alike : T → T → Type 0) (f f' g g' : X → T) (xs ys : List X) → AreEach alike (map f xs) (map g ys)
    → ((x y : X) → Contains xs x → Contains ys y → alike (f x) (g y) → alike (f' x) (g' y)) → AreEach alike (map f' xs) (map g' ys)
each_moved alike f f' g g' [] [] same each = tt
each_moved alike f f' g g' (x ∷ xs) (y ∷ ys) same each = (
  each x y (Contains-head x xs) (Contains-head y ys) same.0,
  each_moved alike f f' g g' xs ys same.1 (λ u v there too. each u v (Contains-tail x xs u there) (Contains-tail y ys v too)),
)
each_moved alike f f' g g' [] (y ∷ ys) same each = absurd same
each_moved alike f f' g g' (x ∷ xs) [] same each = absurd same

-- what is made of what is made of a row
pub made_twice : {X Y Z : Type 0} (f : Y → Z) (h : X → Y) (o : Option X) → option_map f (option_map h o) ≡ option_map (λ x. f (h x)) o
made_twice f h None = refl
made_twice f h (Some x) = refl

-- a row of those that pass is one of all
pub from_passing : {X : Type 0} (p : X → Bool) (xs : List X) (x : X) → Contains (filter p xs) x → Contains xs x
from_passing p [] x there = there
from_passing {X = X} p (z ∷ xs) x there = go (p z) there (from_passing p xs x)
  where
    go : (b : Bool) → Contains (cond b (z ∷ filter p xs) (filter p xs)) x → (Contains (filter p xs) x → Contains xs x) → Contains (z ∷ xs) x
    go true among rest = elim (Contains-cons_cases z (filter p xs) x among) [
      | inl is ↦ subst (λ y. Contains (z ∷ xs) y) is (Contains-head z xs)
      | inr later ↦ Contains-tail z xs x (rest later)
    ]
    go false among rest = Contains-tail z xs x (rest among)

-- ---- one row more

-- some row passes with it where it passes, or one did before
pub any_added : {X : Type 0} (key : X → ℕ) (p : X → Bool) (e : X) (xs : List X) → list_any p (add_row key e xs) ≡ (p e || list_any p xs)
any_added key p e [] = refl
any_added {X = X} key p e (x ∷ xs) = go (nat_le (key x) (key e)) (any_added key p e xs)
  where
    swapped : (a b c : Bool) → (a || (b || c)) ≡ (b || (a || c))
    swapped true true c = refl
    swapped true false c = refl
    swapped false b c = refl

    go : (b : Bool) → list_any p (add_row key e xs) ≡ (p e || list_any p xs) → list_any p (cond b (x ∷ add_row key e xs) (e ∷ x ∷ xs)) ≡ (p e || (p x || list_any p xs))
    go true rest = ap (λ b. p x || b) rest ∙ swapped (p x) (p e) (list_any p xs)
    go false rest = refl

not_first : {T : Type 0} (b : Bool) (x : T) (rest : Option T) → cond b (Some x) rest ≡ None → (b ≡ false) × (rest ≡ None)
not_first true x rest none = absurd cc
not_first false x rest none = (refl, none)

-- what passes as the only one is what is found
pub found_added : {X : Type 0} (key : X → ℕ) (p : X → Bool) (e : X) (xs : List X) → p e ≡ true → find p xs ≡ None → find p (add_row key e xs) ≡ Some e
found_added key p e [] passes none = ap (λ b. cond b (Some e) None) passes
found_added {X = X} key p e (x ∷ xs) passes none =
    let parts = not_first (p x) x (find p xs) none in
    go (nat_le (key x) (key e)) parts.0 (found_added key p e xs passes parts.1)
  where
    go : (b : Bool) → p x ≡ false → find p (add_row key e xs) ≡ Some e → find p (cond b (x ∷ add_row key e xs) (e ∷ x ∷ xs)) ≡ Some e
    go true fails rest = ap (λ b. cond b (Some x) (find p (add_row key e xs))) fails ∙ rest
    go false fails rest = ap (λ b. cond b (Some e) (find p (x ∷ xs))) passes

-- none is found where none passes
pub none_found : {X : Type 0} (p : X → Bool) (xs : List X) → ((x : X) → Contains xs x → p x ≡ false) → find p xs ≡ None
none_found p [] none = refl
none_found p (x ∷ xs) none = ap (λ b. cond b (Some x) (find p xs)) (none x (Contains-head x xs)) ∙ none_found p xs (λ y there. none y (Contains-tail x xs y there))

-- ---- rows made anew

-- what is found among rows that are made anew, each of which passes as before
pub found_made : {X : Type 0} (p : X → Bool) (made : X → X) → ((x : X) → p (made x) ≡ p x) → (xs : List X) → find p (map made xs) ≡ option_map made (find p xs)
found_made p made same [] = refl
found_made {X = X} p made same (x ∷ xs) = ap (λ b. cond b (Some (made x)) (find p (map made xs))) (same x) ∙ go (p x) (found_made p made same xs)
  where
    go : (b : Bool) → find p (map made xs) ≡ option_map made (find p xs) → cond b (Some (made x)) (find p (map made xs)) ≡ option_map made (cond b (Some x) (find p xs))
    go true rest = refl
    go false rest = rest

-- How far a loop over ordered rows has gone in its search for a row's place.
use Rattle.std.proofs.Common.{◌≡◌, ℕ, ◌+◌, ◌<◌, ◌≤◌, suc, List, [], ◌∷◌, length, get_or, Bool, true, false, cond, refl, ap, arith, sym, ◌∙◌}
use Rattle.std.specs.Prelude.{nat_le}
use Rattle.std.specs.List.{prefix_len, All}
use Rattle.std.proofs.lemmas.List.Elements.{All-head, All-tail}
use Rattle.std.proofs.lemmas.Bool.{le-leb, lt-leb}
use Rattle.std.proofs.lemmas.List.Sums.{prefix_len_is}

-- no key below the place is above the bound
pub record PassedBelow {T : Type 0} (key : T → ℕ) (bound : ℕ) (xs : List T) (i place : ℕ) : Type 0 where
  pub is_index : place ≡ i
  pub passed : (k : ℕ) (d : T) → k < i → key (get_or xs k d) ≤ bound

-- each row passes, so the place is the end
prefix_all : {T : Type 0} (p : T → Bool) (xs : List T) → All (λ x. p x ≡ true) xs → length xs ≡ prefix_len p xs
prefix_all p [] all = refl
prefix_all p (x ∷ xs) all = go (p x) (All-head (λ y. p y ≡ true) x xs all) (prefix_all p xs (All-tail (λ y. p y ≡ true) x xs all))
  where
    go : (b : Bool) → b ≡ true → length xs ≡ prefix_len p xs → suc (length xs) ≡ cond b (1 + prefix_len p xs) 0
    go true e rest = omega (arith, rest)
    go false e rest = cc

-- the loop went past each row
pub place_at_end : {T : Type 0} (key : T → ℕ) (bound : ℕ) (xs : List T) (i place : ℕ) → length xs ≤ i → i ≤ length xs → PassedBelow key bound xs i place
    → place ≡ prefix_len (λ x. nat_le (key x) bound) xs
place_at_end key bound xs i place past within h =
    let at_end : place ≡ length xs = omega (arith, h.is_index) in
    at_end ∙ prefix_all (λ x. nat_le (key x) bound) xs (λ k d below. le-leb (key (get_or xs k d)) bound (h.passed k d (omega arith)))

-- the loop stopped at a row whose key is above
pub place_here : {T : Type 0} (key : T → ℕ) (bound : ℕ) (xs : List T) (i place : ℕ) (x : T) → i < length xs → x ≡ get_or xs i x → bound < key x
    → PassedBelow key bound xs i place → place ≡ prefix_len (λ x. nat_le (key x) bound) xs
place_here key bound xs i place x in_xs is above h =
    h.is_index ∙ sym (prefix_len_is (λ x. nat_le (key x) bound) xs i x (omega arith)
    (λ k below. le-leb (key (get_or xs k x)) bound (h.passed k x below))
    (λ _. ap (λ y. nat_le (key y) bound) (sym is) ∙ lt-leb (key x) bound above))

-- Rows of which some are taken away: those that stay were there, are as distinct, and no more of them pass a test.
use Rattle.std.proofs.Common.{◌≡◌, ℕ, ◌+◌, ◌≤◌, List, [], ◌∷◌, map, Bool, true, false, cond, not, refl, arith, sym}
use Rattle.std.specs.List.{count_by, filter}
use Rattle.std.proofs.lemmas.List.Filters.{sum_by-filter_both}
use Rattle.keyed_rows.specs.Ordered.{AreDistinct}
use Rattle.bank_policy.proofs.RowsTell.{from_filter}
use Rattle.keyed_rows.proofs.Rows.{first_apart, none_of_key}

pub AreDistinct-filter : {X : Type 0} (key : X → ℕ) (p : X → Bool) (xs : List X) → AreDistinct (map key xs) → AreDistinct (map key (filter p xs))
AreDistinct-filter key p [] distinct = tt
AreDistinct-filter {X = X} key p (x ∷ xs) distinct = go (p x) (AreDistinct-filter key p xs distinct.1)
  where
    go : (b : Bool) → AreDistinct (map key (filter p xs)) → AreDistinct (map key (cond b (x ∷ filter p xs) (filter p xs)))
    go true rest = (none_of_key key (key x) (filter p xs) (λ y there same. first_apart key x xs y distinct (from_filter p xs y there).0 (sym same)), rest)
    go false rest = rest

no_more : (kept gone all : ℕ) → kept + gone ≡ all → kept ≤ all
no_more kept gone all is = omega arith

pub count-filter : {X : Type 0} (p q : X → Bool) (xs : List X) → count_by q (filter p xs) ≤ count_by q xs
count-filter p q xs = no_more _ _ _ (sum_by-filter_both p (λ x. not (p x)) (λ x. refl) (λ x. cond (q x) 1 0) xs)

-- The first of the rows that pass a test, and the first row of all.
use Rattle.std.proofs.Common.{◌≡◌, ℕ, suc, List, [], ◌∷◌, Bool, true, false, cond, Option, Some, map, take, option_map, refl, add-one}
use Rattle.std.specs.List.{filter, find, slice_get}
use Rattle.world_reads.specs.Laws.{FirstLineIsNext, FirstShownIsNext}

first-tested : {X Y : Type 0} (f : X → Y) (n : ℕ) (b : Bool) (x : X) (kept : List X) (o : Option X) → slice_get (map f (take (suc n) kept)) 0 ≡ option_map f o →
    slice_get (map f (take (suc n) (cond b (x ∷ kept) kept))) 0 ≡ option_map f (cond b (Some x) o)
first-tested f n true x kept o e = refl
first-tested f n false x kept o e = e

first-kept : {X Y : Type 0} (f : X → Y) (p : X → Bool) (n : ℕ) (xs : List X) → slice_get (map f (take (suc n) (filter p xs))) 0 ≡ option_map f (find p xs)
first-kept f p n [] = refl
first-kept f p n (x ∷ xs) = first-tested f n (p x) x (filter p xs) (find p xs) (first-kept f p n xs)

first-row : {X : Type 0} (xs : List X) → slice_get xs 0 ≡ find (λ _. true) xs
first-row [] = refl
first-row (x ∷ xs) = refl

pub first_shown : FirstShownIsNext
first_shown w user after count moment = rw add-one (first-kept _ _ count w.accounts)

pub first_line : FirstLineIsNext
first_line w = first-row _

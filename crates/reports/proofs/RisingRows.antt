-- Rows whose keys rise.
use Rattle.std.proofs.Common.{ℕ, ◌+◌, ◌<◌, ◌≤◌, List, [], ◌∷◌, Bool, true, false, cond, length, All, arith}
use Rattle.std.specs.List.{filter}
use Rattle.std.proofs.lemmas.List.Elements.{All-filter, All-head, All-tail, All-weaker}
use Rattle.world_reads.proofs.Rising.{Rises}

-- the keys of some of them rise, too
pub rises_filter : {X : Type 0} (key : X → ℕ) (p : X → Bool) (xs : List X) → Rises key xs → Rises key (filter p xs)
rises_filter key p [] order = tt
rises_filter key p (x ∷ xs) order = go (rises_filter key p xs order.1) (p x)
  where
    go : Rises key (filter p xs) → (b : Bool) → Rises key (cond b (x ∷ filter p xs) (filter p xs))
    go rest true = (All-filter p (λ y. key x < key y) xs order.0, rest)
    go rest false = rest

-- keys that rise and lie between two numbers are no more than these are apart
pub between : {X : Type 0} (key : X → ℕ) (xs : List X) (low n : ℕ) → Rises key xs → All (λ x. low ≤ key x) xs → All (λ x. key x < n) xs → low ≤ n → length xs + low ≤ n
between key [] low n order above below le = omega arith
between key (x ∷ xs) low n order above below le =
    let least : low ≤ key x = All-head (λ y. low ≤ key y) x xs above in
    let high : key x < n = All-head (λ y. key y < n) x xs below in
    let rest = between key xs (key x + 1) n order.1 (All-weaker (λ y. key x < key y) (λ y. key x + 1 ≤ key y) (λ y h. omega arith) xs order.0) (All-tail (λ y. key y < n) x xs below) (omega arith) in
    omega (arith, rest)

-- In which ranges the members of operations lie.
use Rattle.std.specs.Prelude.{ℕ, ℤ, ◌≤◌, ◌≤ℤ◌, pos}
use Rattle.money.specs.Range.{max_cents}
use Rattle.bank_terms.specs.Limits.{max_key, min_floor}

-- from low to high
abbrev pub IsWithin : ℕ → ℕ → ℕ → Type 0
IsWithin low high n = (low ≤ n) × (n ≤ high)

-- the key of an account, a teller, a branch, an entry or a turn
abbrev pub IsKey : ℕ → Type 0
IsKey n = IsWithin 1 max_key n

-- a key, or 0 for none
abbrev pub IsKeyOrZero : ℕ → Type 0
IsKeyOrZero n = IsWithin 0 max_key n

-- cash, which is never below zero, in cents
abbrev pub IsCash : ℤ → Type 0
IsCash z = (pos 0 ≤ℤ z) × (z ≤ℤ max_cents)

-- the least balance of an account, in cents
abbrev pub IsFloor : ℤ → Type 0
IsFloor z = (min_floor ≤ℤ z) × (z ≤ℤ pos 0)

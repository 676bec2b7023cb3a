-- Which amounts there are, in whole cents.
use Rattle.std.specs.Prelude.{ℤ, pos, negsuc, ◌≤ℤ◌, Bool, ◌&&◌, not, int_lt}

-- the greatest balance, cash or branch total; the least is its negative
abbrev pub max_cents : ℤ
max_cents = pos 999999999999

abbrev pub min_cents : ℤ
min_cents = negsuc 999999999998

-- the greatest amount that one entry adds; the least is its negative
abbrev pub max_delta : ℤ
max_delta = pos 999999

abbrev pub min_delta : ℤ
min_delta = negsuc 999998

-- a balance, a cash or a branch total: from -999,999,999,999 to 999,999,999,999
abbrev pub IsCents : ℤ → Type 0
IsCents z = (min_cents ≤ℤ z) × (z ≤ℤ max_cents)

-- what one entry adds, the benchmark's Delta within this bank's limits: from -999,999 to 999,999
abbrev pub IsDelta : ℤ → Type 0
IsDelta z = (min_delta ≤ℤ z) × (z ≤ℤ max_delta)

-- the same as a test that computes
abbrev pub is_cents : ℤ → Bool
is_cents z = not (int_lt z min_cents) && not (int_lt max_cents z)

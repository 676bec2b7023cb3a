-- How long a connection may be used.
use Rattle.std.specs.Prelude.{ℕ, Bool, false, nat_lt, Option, Some, None}

-- Is there time left, by the nanoseconds of the machine's running clock at which it is over, and those that the clock reads? Where one
-- of them is not known there is none.
abbrev pub has_time : Option ℕ → Option ℕ → Bool
has_time (Some end) (Some now) = nat_lt now end
has_time _ _ = false

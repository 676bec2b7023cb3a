-- A stream that may be used up to an instant.
use Rattle.std.specs.Prelude.{◌≡◌, ◌↔◌, ℕ, Option, Result, IsOk, option_map, true}
use Rattle.std.specs.Time.{instant_nanos}
use Rattle.std.specs.declared.time.Instant.{Instant}
use Rattle.counter_limits.specs.Limits.{has_time}

-- It passes exactly if there is time left, by a reading that the clock may show.
abbrev pub PassesInTime : {M E : Type 0} → (M → Option Instant → Type 0) → M → Option ℕ → Result Unit E → Type 0
PassesInTime may_show machine end result =
    (reading : Option Instant) × may_show machine reading × (IsOk result ↔ (has_time end (option_map instant_nanos reading) ≡ true))

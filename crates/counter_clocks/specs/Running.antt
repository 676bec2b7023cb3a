-- A clock that runs.
use Rattle.std.specs.Prelude.{◌≡◌, ℕ, ◌/◌, min, Option, Some, None}
use Rattle.bank_terms.specs.Limits.{max_moment}
use Rattle.counter_clocks.specs.declared.machine.MachineClock.{MachineClock}

-- the moment that is given after the last one, by the nanoseconds since 1970 that the machine's clock reads, if any
abbrev pub moment_not_before : ℕ → Option ℕ → ℕ
moment_not_before last (Some nanos) = min (nanos / 1000000000) max_moment
moment_not_before last None = last

-- the clock was read, or could not be read, as it may show, and gave the moment for that
abbrev pub GivesReading : {T : Type 0} → (T → Option ℕ → Type 0) → MachineClock T → ℕ → MachineClock T → Type 0
GivesReading may_show old moment new =
    (reading : Option ℕ) × may_show old.machine.now reading × (moment ≡ moment_not_before old.last reading) × (new.last ≡ moment) × (new.machine.now ≡ old.machine.now)

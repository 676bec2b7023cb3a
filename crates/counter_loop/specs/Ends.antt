-- How long the client of a connection may take, by readings of a running clock.
use Rattle.std.specs.Prelude.{◌≡◌, ◌≢◌, ◌⊎◌, ◌+◌, ◌*◌, ◌≤◌, ℕ, [], IsSome, Option, None, Some, false, option_map}
use Rattle.std.specs.Time.{FitsClock, instant_nanos}
use Rattle.std.specs.declared.time.Instant.{Instant}
use Rattle.reports.specs.Report.{BeginsWith}
use Rattle.counter_loop.specs.declared.client.Client.{Client}
use Rattle.counter_loop.specs.declared.times.Batch.{Batch}
use Rattle.counter_loop.specs.declared.times.Times.{Times}

-- for how many seconds a client may leave a message that it began without its rest, and the bytes that wait for it untaken
abbrev pub max_wait : ℕ
max_wait = 30

-- Between these two readings lie this many seconds. Nothing is said if the clock ends before that.
abbrev pub HasPassed : ℕ → Instant → Instant → Type 0
HasPassed seconds since now = FitsClock (instant_nanos since + seconds * 1_000_000_000) → instant_nanos since + seconds * 1_000_000_000 ≤ instant_nanos now

-- since when bytes wait for its client
abbrev pub batch_since : Times → Option Instant
batch_since times = option_map (λ (batch : Batch). batch.since) times.batch

-- The bytes that wait for its client wait too long; or, where none wait, the message that it began.
abbrev pub IsTooLate : Instant → Times → Type 0
IsTooLate now times =
    ((since : Instant) × (batch_since times ≡ Some since) × HasPassed max_wait since now)
    ⊎ ((batch_since times ≡ None) × ((since : Instant) × (times.message ≡ Some since) × HasPassed max_wait since now))

-- bytes wait for its client, and since when is known; or none wait
abbrev pub AreTimed : {T : Type 0} → Client T → Type 0
AreTimed c = ((c.connection.unsent ≡ []) × (batch_since c.times ≡ None)) ⊎ ((c.connection.unsent ≢ []) × IsSome (batch_since c.times))

-- What it is waited for is so since the same reading as before, or since the present one. Of a message that is waited for since before, no more than further
-- bytes came.
pub record KeepsTime {T : Type 0} (now : Instant) (old new : Client T) : Type 0 where
  pub open_still : old.connection.is_closing ≡ false
  pub part : (since : Instant) → new.times.message ≡ Some since → ((old.times.message ≡ Some since) × BeginsWith new.connection.held old.connection.held) ⊎ ((since ≡ now) × (new.connection.held ≢ []))
  pub batch : (since : Instant) → batch_since new.times ≡ Some since → (batch_since old.times ≡ Some since) ⊎ (since ≡ now)

-- the same after a visit, which sent of what waits as much as is taken
pub record IsTimed {T : Type 0} (now : Instant) (old new : Client T) : Type 0 where
  pub keeps : KeepsTime now old new
  pub waits : AreTimed new

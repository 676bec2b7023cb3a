-- What serving a stream over a store comes to, and what it leaves of the store.
use Rattle.std.specs.Prelude.{◌≡◌, ◌⊎◌, [], ℕ, List, Option, None, Result, Ok, Err}
use Rattle.store_cached.specs.Standing.{below, cached_status, known_version, remembered}
use Rattle.store_cached.specs.declared.cached.Cached.{Cached}
use Rattle.counter_api.specs.Day.{AreReplied, IsDay, answered}
use Rattle.counter_api.specs.Exit.{IsServed}
use Rattle.counter_api.specs.Run.{MarkedMessage}
use Rattle.counter_clocks.specs.Standing.{gives_its_own, standing_at}
use Rattle.counter_clocks.specs.declared.fixed.Fixed.{Fixed}
use Rattle.exit_lines.specs.Streams.{FailsNever, FailsOnce, Streams}
use Rattle.http_messages.specs.declared.serving.ServeFault.{ServeFault}
use Rattle.http_messages.specs.declared.serving.ServeFault.TheVariants.{Cut, Memory, Read, Report, Write}
use Rattle.http_messages.specs.declared.serving.Served.{Served}
use Rattle.bank_books.specs.WorldLists.{WorldLists}
use Rattle.store_rows.specs.Status.{Status, Tells}

-- how many messages are answered on one stream at most
abbrev pub most_messages : ℕ
most_messages = 1000000

-- What the two streams counted, by the exit: the failed read or the failed write that ended the call, and no other. After a broken
-- report its beginning is flushed, and that may fail too.
abbrev pub FailuresByExit : Streams → Streams → Result Served ServeFault → Type 0
FailuresByExit old new (Ok served) = FailsNever old.input new.input × FailsNever old.output new.output
FailuresByExit old new (Err Read) = FailsOnce old.input new.input × FailsNever old.output new.output
FailuresByExit old new (Err Write) = FailsNever old.input new.input × FailsOnce old.output new.output
FailuresByExit old new (Err Cut) = FailsNever old.input new.input × FailsNever old.output new.output
FailuresByExit old new (Err Report) = FailsNever old.input new.input × (FailsNever old.output new.output ⊎ FailsOnce old.output new.output)
FailuresByExit old new (Err Memory) = FailsNever old.input new.input × FailsNever old.output new.output

module _ {S : Type 0} (status : S → Status) (users : List ℕ → Option ℕ) where
  -- The stream was served over one bank, which began with the store opened and ended with the store left, to the users whom badges
  -- name so, with one moment for every message.
  pub record IsServedOver (opened : S) (moment : ℕ) (old new : Streams) (left : S) (result : Result Served ServeFault) : Type 0 where
    pub clock : Fixed
    pub exit : IsServed status users gives_its_own most_messages
        (record { left = old.input.bytes; written = old.output.bytes; store = opened; clock = standing_at moment })
        (record { left = new.input.bytes; written = new.output.bytes; store = left; clock = clock })
        result
    pub failures : FailuresByExit old new result

  -- the messages of the stream that were replied to
  abbrev pub stream_messages : (opened : S) (moment : ℕ) (old new : Streams) (left : S) (result : Result Served ServeFault) → IsServedOver opened moment old new left result → List MarkedMessage
  stream_messages opened moment old new left result is =
      answered status users gives_its_own most_messages
      (record { left = old.input.bytes; written = old.output.bytes; store = opened; clock = standing_at moment })
      (record { left = new.input.bytes; written = new.output.bytes; store = left; clock = is.clock })
      result is.exit

  -- and what went out is the replies to them, from this World on
  abbrev pub IsStreamAnswered : (opened : S) (moment : ℕ) (old new : Streams) (left : S) (result : Result Served ServeFault) → IsServedOver opened moment old new left result → WorldLists → Type 0
  IsStreamAnswered opened moment old new left result is w =
      AreReplied status users gives_its_own most_messages
      (record { left = old.input.bytes; written = old.output.bytes; store = opened; clock = standing_at moment })
      (record { left = new.input.bytes; written = new.output.bytes; store = left; clock = is.clock })
      result is.exit w

module _ {S : Type 0} (status : S → Status) (users : List ℕ → Option ℕ) where
  -- It was served so over a cache that kept nothing yet, with the store opened below it; and the store left is what was
  -- below the cache as that ended. Of the store itself, by its own status and not by the cache's: the messages are one
  -- run of it, and what went out is the replies to them.
  pub record IsServedThroughCache (opened : S) (moment : ℕ) (old new : Streams) (left : S) (result : Result Served ServeFault) : Type 0 where
    pub began : Cached S
    pub ended : Cached S
    pub over : below began ≡ opened
    pub empty : remembered began ≡ []
    pub unread : known_version began ≡ None
    pub served : IsServedOver (cached_status status) users began moment old new ended result
    pub uncovered : left ≡ below ended
    pub day : IsDay users (status opened) (status left) (stream_messages (cached_status status) users began moment old new ended result served)
    pub replied : Tells (status opened) (status left) (IsStreamAnswered (cached_status status) users began moment old new ended result served)

  -- It was served through a cache; or memory was refused for that, the store is as it was, and nothing was read, done or written.
  abbrev pub IsServedWithCache : S → ℕ → Streams → Streams → S → Result Served ServeFault → Type 0
  IsServedWithCache opened moment old new left result =
      IsServedThroughCache opened moment old new left result
      ⊎ ((result ≡ Err Memory) × (left ≡ opened) × (new ≡ old))

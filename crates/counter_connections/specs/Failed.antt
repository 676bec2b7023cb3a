-- What failed at a listener: connections that could not be accepted, and calls of those that were.
use Rattle.std.specs.Prelude.{◌≡◌, ◌⊎◌, ℕ, List, [], ◌∷◌, Result, Ok, Err}
use Rattle.http_messages.specs.declared.serving.ServeFault.{ServeFault}
use Rattle.http_messages.specs.declared.serving.ServeFault.TheVariants.{Cut, Memory, Read, Report, Write}
use Rattle.http_messages.specs.declared.serving.Served.{Served}
use Rattle.money.specs.Counted.{counted_once_more}
use Rattle.counter_connections.specs.declared.calls.CallFailures.{CallFailures}
use Rattle.counter_connections.specs.declared.listener.CountedListener.{CountedListener}
use Rattle.counter_connections.specs.declared.listener.Failures.{Failures}

abbrev pub failed_at : CountedListener → Failures
failed_at listener = record { accepts = listener.failures; calls = listener.calls }

abbrev pub no_call_failed : CallFailures
no_call_failed = record { reads = 0; writes = 0 }

abbrev pub none_failed : Failures
none_failed = record { accepts = 0; calls = no_call_failed }

-- no call failed
abbrev pub CountsNone : CallFailures → CallFailures → Type 0
CountsNone old new = (new.reads ≡ old.reads) × (new.writes ≡ old.writes)

-- one write failed, up to the greatest count
abbrev pub CountsWrite : CallFailures → CallFailures → Type 0
CountsWrite old new = (new.reads ≡ old.reads) × (new.writes ≡ counted_once_more old.writes)

-- The calls of a connection that ended so: the read or the write that ended it failed, and no other. After a broken report its beginning is written, and
-- that may fail, too.
abbrev pub CountsEnd : CallFailures → CallFailures → Result Served ServeFault → Type 0
CountsEnd old new (Ok served) = CountsNone old new
CountsEnd old new (Err Read) = (new.reads ≡ counted_once_more old.reads) × (new.writes ≡ old.writes)
CountsEnd old new (Err Write) = CountsWrite old new
CountsEnd old new (Err Cut) = CountsNone old new
CountsEnd old new (Err Report) = CountsNone old new ⊎ CountsWrite old new
CountsEnd old new (Err Memory) = CountsNone old new

-- the same of connections, one after another
abbrev pub CountEnds : CallFailures → CallFailures → List (Result Served ServeFault) → Type 0
CountEnds old new [] = new ≡ old
CountEnds old new (exit ∷ exits) = (mid : CallFailures) × CountsEnd old mid exit × CountEnds mid new exits

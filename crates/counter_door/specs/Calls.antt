-- What one call of a stream adds to its past.
use Rattle.std.specs.Prelude.{◌≡◌, ◌≢◌, ℕ, suc, ◌==◌, ◌&&◌, not, if◌then◌else◌, true, false, List, ◌++◌, length, take, Result, MatchResult}
use Rattle.std.specs.IoError.{error_kind}
use Rattle.std.specs.declared.io.Error.{Error}
use Rattle.std.specs.declared.io.ErrorKind.TheVariants.{WouldBlock}
use Rattle.counter_door.specs.Past.{Past}
use Rattle.counter_door.specs.declared.calls.Call.{Call}
use Rattle.counter_door.specs.declared.calls.Call.TheVariants as call

-- a read that gave these bytes
abbrev pub after_read : List ℕ → Past → Past
after_read bytes p = record p { ways = record p.ways { received = p.ways.received ++ bytes; ended = false }; is_used_up = false }

-- a write that took these
abbrev pub after_write : List ℕ → Past → Past
after_write bytes p = record p { ways = record p.ways { sent = p.ways.sent ++ bytes; asked = suc p.ways.asked }; is_full = false; has_failed = false }

abbrev pub after_call : Past → Call → Past
after_call p (call.Read bytes) = after_read bytes.now p
after_call p call.UsedUp = record p { ways = record p.ways { ended = false }; is_used_up = true }
after_call p call.Ended = record p { ways = record p.ways { ended = true }; is_used_up = false }
after_call p (call.Wrote bytes) = after_write bytes.now p
after_call p call.Full = record p { ways = record p.ways { asked = suc p.ways.asked }; is_full = true; has_failed = false }
after_call p call.NotWritten = record p { ways = record p.ways { asked = suc p.ways.asked }; is_full = false; has_failed = true }

-- a read of this room ended so
abbrev pub IsAfterRead : Past → Past → Result ℕ Error → List ℕ → Type 0
IsAfterRead old new r buf =
    MatchResult r (λ n. new ≡ (if (n == 0) && not (length buf == 0) then after_call old call.Ended else after_read (take n buf) old))
    (λ e. (error_kind e ≡ WouldBlock → new ≡ after_call old call.UsedUp) × (error_kind e ≢ WouldBlock → new ≡ after_call old call.Ended))

-- and a write of these bytes
abbrev pub IsAfterWrite : Past → Past → Result ℕ Error → List ℕ → Type 0
IsAfterWrite old new r buf =
    MatchResult r (λ n. new ≡ (if (n == 0) && not (length buf == 0) then after_call old call.NotWritten else after_write (take n buf) old))
    (λ e. (error_kind e ≡ WouldBlock → new ≡ after_call old call.Full) × (error_kind e ≢ WouldBlock → new ≡ after_call old call.NotWritten))

-- How the serving of a stream that waits ends, with its replies gathered before the writer.
use Rattle.std.specs.Prelude.{◌≡◌, ◌⊎◌, ⊤, ℕ, Bool, List, [], ◌∷◌, Option, Result, Ok, Err, false, true}
use Rattle.std.specs.Io.KnownBytes.{append_known}
use Rattle.http_messages.specs.Exit.{IsExit}
use Rattle.http_messages.specs.Parts.{MessageParts}
use Rattle.http_messages.specs.Turn.{StoreAndClock}
use Rattle.http_messages.specs.declared.serving.ServeFault.{ServeFault}
use Rattle.http_messages.specs.declared.serving.ServeFault.TheVariants.{Cut, Memory, Read, Report, Write}
use Rattle.http_messages.specs.declared.serving.Served.{Served}
use Rattle.http_connection.specs.Parts.{ConnectionParts}

-- is there something?
abbrev pub is_some_left : List ℕ → Bool
is_some_left [] = false
is_some_left (byte ∷ bytes) = true

-- A connection over a reader and a writer, as the loop over messages sees it: what the writer has, and then what is to go out.
abbrev pub at : {S : Type 0} → Option (List ℕ) → ConnectionParts → Option (List ℕ) → S → StoreAndClock S
at left c written engine = record { left = left; held = c.held; written = append_known written c.unsent; unflushed = is_some_left c.unsent; engine = engine }

-- A call that wanted memory for a reply ends as one whose reply stopped.
abbrev pub stopped_by : ServeFault → ServeFault
stopped_by Memory = Write
stopped_by Read = Read
stopped_by Write = Write
stopped_by Cut = Cut
stopped_by Report = Report

abbrev pub row_of : {A : Type 0} → Result A ServeFault → Result A ServeFault
row_of (Ok x) = Ok x
row_of (Err fault) = Err (stopped_by fault)

-- The row of the table of exits by which a call ends: its own. Where memory was refused that is the row of Memory, if that was at the start, and
-- the row of a reply that stopped, if it was for a reply.
abbrev pub EndsBy : {A : Type 0} → Result A ServeFault → Result A ServeFault → Type 0
EndsBy result how = (how ≡ row_of result) ⊎ ((result ≡ Err Memory) × (how ≡ Err Memory))

-- All that was to go out went out, unless a write or a flush failed; after a broken report one may fail, too.
abbrev pub HasGoneOut : {A : Type 0} → Result A ServeFault → List ℕ → Type 0
HasGoneOut (Err Write) unsent = ⊤
HasGoneOut (Err Report) unsent = ⊤
HasGoneOut result unsent = unsent ≡ []

-- A stream was served, and ended so, by a row of the table of exits: the writer has what it got, and then what is still to go out.
pub record IsServedSo {S : Type 0} (answers stops breaks : S → MessageParts → List ℕ → S → Type 0) (most : ℕ) (left_old left_new written_old written_new : Option (List ℕ)) (from to : S) (result : Result Served ServeFault) : Type 0 where
  pub unsent : List ℕ
  pub how : Result Served ServeFault
  pub ends : EndsBy result how
  pub exit : IsExit answers stops breaks most (record { left = left_old; written = written_old; engine = from }) (record { left = left_new; written = append_known written_new unsent; engine = to }) how
  pub gone : HasGoneOut result unsent

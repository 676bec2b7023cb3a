-- Streams as their caller sees them, before a call and after it.
use Rattle.std.specs.Prelude.{◌≡◌, ◌⊎◌, ℕ, List, Option}
use Rattle.std.specs.Io.KnownBytes.{Appends}
use Rattle.money.specs.Counted.{AppendsBeginning, CountsFailure, counted_once_more, failure_count, stream_of}
use Rattle.money.specs.declared.tallied.Tallied.{Tallied}

-- the bytes that a reader has left or that a writer has, where they are known, and how many of its calls failed
pub record Stream : Type 0 where
  pub bytes : Option (List ℕ)
  pub failures : ℕ

abbrev pub stream_at : {T : Type 0} → (T → Option (List ℕ)) → Tallied T → Stream
stream_at known t = record { bytes = known (stream_of t); failures = failure_count t }

-- what messages are read from, and what their replies are written to
pub record Streams : Type 0 where
  pub input : Stream
  pub output : Stream

abbrev pub streams_at : {R W : Type 0} → (R → Option (List ℕ)) → (W → Option (List ℕ)) → Tallied R → Tallied W → Streams
streams_at remaining contents reader writer = record {
  input = stream_at remaining reader;
  output = stream_at contents writer;
}

-- no call of it failed
abbrev pub FailsNever : Stream → Stream → Type 0
FailsNever old new = new.failures ≡ old.failures

-- one call of it failed, up to the greatest count
abbrev pub FailsOnce : Stream → Stream → Type 0
FailsOnce old new = new.failures ≡ counted_once_more old.failures

-- a call of it failed
abbrev pub Fails : Stream → Stream → Type 0
Fails old new = CountsFailure old.failures new.failures

-- the writer got the whole text, and no call of it failed
abbrev pub GetsAll : Stream → Stream → List ℕ → Type 0
GetsAll old new text = Appends old.bytes new.bytes text × (new.failures ≡ old.failures)

-- the writer got a beginning of the text, and a call of it failed
abbrev pub GetsBeginning : Stream → Stream → List ℕ → Type 0
GetsBeginning old new text = AppendsBeginning old.bytes new.bytes text × Fails old new

-- the text was written, as far as the writer took it
abbrev pub IsWritten : Stream → Stream → List ℕ → Type 0
IsWritten old new text = GetsAll old new text ⊎ GetsBeginning old new text

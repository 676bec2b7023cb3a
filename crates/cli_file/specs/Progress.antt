-- What is shown on a terminal while an action goes on, where there is one.
use Rattle.std.specs.Prelude.{◌≡◌, ℕ, List, Option, Some, None}
use Rattle.money.specs.Counted.{stream_of}
use Rattle.money.specs.declared.tallied.Tallied.{Tallied}
use Rattle.exit_lines.specs.Streams.{IsWritten, stream_at}

-- it is shown on this terminal, or to nobody
abbrev pub IsShownOn : {W : Type 0} → Option W → Option (Tallied W) → Type 0
IsShownOn None shown = shown ≡ None
IsShownOn (Some terminal) None = ⊥
IsShownOn (Some terminal) (Some shown) = stream_of shown ≡ terminal

-- the line was written, as far as the terminal took it; or there is none
abbrev pub ShowsStep : {W : Type 0} → (W → Option (List ℕ)) → Option (Tallied W) → Option (Tallied W) → List ℕ → Type 0
ShowsStep contents None new line = new ≡ None
ShowsStep contents (Some old) None line = ⊥
ShowsStep contents (Some old) (Some new) line = IsWritten (stream_at contents old) (stream_at contents new) line

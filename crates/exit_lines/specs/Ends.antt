-- How a program ends: what standard error got, and the status.
use Rattle.std.specs.Prelude.{◌≡◌, ◌⊎◌, ℕ, List, Result, Ok, Err}
use Rattle.http_messages.specs.declared.serving.ServeFault.{ServeFault}
use Rattle.http_messages.specs.declared.serving.ServeFault.TheVariants.{Write}
use Rattle.exit_lines.specs.Lines.{line, text_of}
use Rattle.exit_lines.specs.Streams.{GetsAll, GetsBeginning, IsWritten, Stream}

-- standard error got the line of the fault, and the status is 3
abbrev pub IsFailed : ServeFault → Stream → Stream → ℕ → Type 0
IsFailed fault errors_old errors_new status =
    IsWritten errors_old errors_new (line (text_of fault)) × (status ≡ 3)

-- The end of serving was reported: where that went well standard error got nothing, and the status is 0.
abbrev pub IsReported : {A : Type 0} → Result A ServeFault → Stream → Stream → ℕ → Type 0
IsReported (Ok done) errors_old errors_new status = (errors_new ≡ errors_old) × (status ≡ 0)
IsReported (Err fault) errors_old errors_new status = IsFailed fault errors_old errors_new status

-- A text was shown whole, and the status is 0. Or a call of standard output failed, and that was reported: then a
-- beginning of the text was shown, which is all of it where the flush after it failed.
abbrev pub IsShown : Stream → Stream → Stream → Stream → List ℕ → ℕ → Type 0
IsShown old new errors_old errors_new text status =
    (GetsAll old new text × (errors_new ≡ errors_old) × (status ≡ 0))
    ⊎ (GetsBeginning old new text × IsFailed Write errors_old errors_new status)

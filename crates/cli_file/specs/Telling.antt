-- How an action is reported, and the status. Standard error is seen here through one of its handles: what is shown on a terminal while an
-- action goes on is written there by another, and stands before these lines.
use Rattle.std.specs.Prelude.{◌≡◌, ◌⊎◌, ℕ, List, Result, Ok, Err, true, false}
use Rattle.http_messages.specs.declared.serving.ServeFault.TheVariants.{Write}
use Rattle.exit_lines.specs.Ends.{IsFailed, IsShown}
use Rattle.exit_lines.specs.Streams.{GetsAll, GetsBeginning, IsWritten, Stream}
use Rattle.cli_file.specs.Faults.{is_refusal}
use Rattle.cli_file.specs.declared.fault.ActionFault.{ActionFault}

module _ (output_old output_new errors_old errors_new : Stream) where
  -- A refusal was reported by a line on standard output, and the status is 1. Or a call of standard output failed, and that was reported: then a
  -- beginning of the line was written.
  abbrev pub IsRefusalReported : List ℕ → ℕ → Type 0
  IsRefusalReported line status =
      (GetsAll output_old output_new line × (errors_new ≡ errors_old) × (status ≡ 1))
      ⊎ (GetsBeginning output_old output_new line × IsFailed Write errors_old errors_new status)

  -- any other fault was reported by a line on standard error alone, as far as that took it, and the status is 3
  abbrev pub IsFailureReported : List ℕ → ℕ → Type 0
  IsFailureReported line status = (output_new ≡ output_old) × IsWritten errors_old errors_new line × (status ≡ 3)

-- that the line is the one of this fault is seen by reading
abbrev pub IsFaultReported : ActionFault → Stream → Stream → Stream → Stream → ℕ → Type 0
IsFaultReported fault output_old output_new errors_old errors_new status =
    (line : List ℕ)
    × (((is_refusal fault ≡ true) × IsRefusalReported output_old output_new errors_old errors_new line status)
    ⊎ ((is_refusal fault ≡ false) × IsFailureReported output_old output_new errors_old errors_new line status))

-- an action that is reported by a line when it is done
abbrev pub IsSaid : Result Unit ActionFault → List ℕ → Stream → Stream → Stream → Stream → ℕ → Type 0
IsSaid (Ok done) line output_old output_new errors_old errors_new status = IsShown output_old output_new errors_old errors_new line status
IsSaid (Err fault) line output_old output_new errors_old errors_new status =
    IsFaultReported fault output_old output_new errors_old errors_new status

-- and one of which nothing is reported then
abbrev pub IsEnded : Result Unit ActionFault → Stream → Stream → Stream → Stream → ℕ → Type 0
IsEnded (Ok done) output_old output_new errors_old errors_new status =
    (output_new ≡ output_old) × (errors_new ≡ errors_old) × (status ≡ 0)
IsEnded (Err fault) output_old output_new errors_old errors_new status =
    IsFaultReported fault output_old output_new errors_old errors_new status

-- What is printed where arguments name no action, and the status.
use Rattle.std.specs.Prelude.{◌≡◌, ◌≢◌, ◌⊎◌, ℕ, List, codes}
use Rattle.clap.specs.Words.{kind_of}
use Rattle.clap.specs.declared.error.Error.{Error}
use Rattle.clap.specs.declared.error.ErrorKind.TheVariants as kind
use Rattle.std.specs.declared.io.ErrorKind.{ErrorKind}
use Rattle.std.specs.declared.io.ErrorKind.TheVariants as io_kind
use Rattle.http_messages.specs.declared.serving.ServeFault.TheVariants.{Memory}
use Rattle.exit_lines.specs.Ends.{IsFailed, IsShown}
use Rattle.exit_lines.specs.Lines.{line}
use Rattle.exit_lines.specs.Streams.{IsWritten, Stream}

-- help, or the version, is asked for
abbrev pub IsHelp : Error → Type 0
IsHelp error = (kind_of error ≡ kind.DisplayHelp) ⊎ (kind_of error ≡ kind.DisplayVersion)

-- arguments were refused on standard error, and the status is 2
abbrev pub IsRefused : Stream → Stream → ℕ → Type 0
IsRefused errors_old errors_new status =
    (text : List ℕ) × IsWritten errors_old errors_new text × (status ≡ 2)

-- Why there is no action was printed. Help goes to standard output, all else to standard error.
abbrev pub IsExplained : Error → Stream → Stream → Stream → Stream → ℕ → Type 0
IsExplained error output_old output_new errors_old errors_new status =
    ((output_new ≡ output_old) × IsFailed Memory errors_old errors_new status)
    ⊎ ((IsHelp error × (text : List ℕ) × IsShown output_old output_new errors_old errors_new text status)
    ⊎ (¬ (IsHelp error) × (kind_of error ≢ kind.OutOfMemory) × (output_new ≡ output_old)
    × IsRefused errors_old errors_new status))

-- why the arguments could not be read was printed: one is not UTF-8, or memory was refused for them
abbrev pub IsUnread : ErrorKind → Stream → Stream → ℕ → Type 0
IsUnread error_kind errors_old errors_new status =
    ((error_kind ≡ io_kind.InvalidData) × (status ≡ 2)
    × IsWritten errors_old errors_new (line (codes "error: an argument is not UTF-8")))
    ⊎ ((error_kind ≢ io_kind.InvalidData) × IsFailed Memory errors_old errors_new status)

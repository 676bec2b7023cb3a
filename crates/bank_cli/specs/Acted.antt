-- What the program comes to, by its arguments.
use Rattle.std.specs.Prelude.{◌≡◌, ◌⊎◌, ℕ, List, [], Option, None, Result, codes}
use Rattle.sqlite_disk.specs.declared.Disk.{Ghosts}
use Rattle.sqlite_wal.specs.Recovery.{Image}
use Rattle.clap.specs.Words.{Text, fault_of, subcommand_of}
use Rattle.clap.specs.declared.error.Error.{Error}
use Rattle.cli_words.specs.Commands.{IsNamedBy, IsRefusal, bank_app}
use Rattle.cli_words.specs.Explained.{IsExplained}
use Rattle.cli_words.specs.declared.words.Action.{Action}
use Rattle.cli_words.specs.declared.words.Action.TheVariants as action
use Rattle.cli_counter.specs.Actions.{IsAttended}
use Rattle.cli_counter.specs.Places.{Kind}
use Rattle.cli_counter.specs.declared.places.Visited.{Visited}
use Rattle.cli_file.specs.Checking.{IsChecked}
use Rattle.cli_file.specs.Telling.{IsEnded, IsSaid}
use Rattle.cli_file.specs.declared.fault.ActionFault.{ActionFault}
use Rattle.cli_file.specs.declared.left.FileLeft.{FileLeft}
use Rattle.cli_file.specs.declared.left.PathLeft.{PathLeft}
use Rattle.cli_file.specs.declared.left.PathLeft.TheVariants as path
use Rattle.cli_make.specs.Forwarding.{IsForwarded}
use Rattle.cli_make.specs.Inited.{IsInited}
use Rattle.cli_make.specs.Upgrading.{IsUpgraded}
use Rattle.cli_serve.specs.Actions.{IsListened, IsRun}
use Rattle.counter_connections.specs.declared.listener.Failures.{Failures}
use Rattle.exit_lines.specs.Lines.{line}
use Rattle.exit_lines.specs.Streams.{Stream, Streams}
use Rattle.sample_service.specs.Ends.{IsSampleEnd}
use Rattle.sample_service.specs.Tables.{cached_sql_status}

-- A file was dealt with, and what came of it is reported by this line, or by that of a fault; nothing was read.
pub record IsReportedOf (did : Result Unit ActionFault → Type 0) (text : List ℕ) (old new : Streams) (errors_old errors_new : Stream) (status : ℕ) : Type 0 where
  pub result : Result Unit ActionFault
  pub done : did result
  pub said : IsSaid result (line text) old.output new.output errors_old errors_new status
  pub unread : new.input ≡ old.input

-- A stream was served over a file, and a fault that ended it is reported.
pub record IsRunToEnd (did : Streams → Result Unit ActionFault → Type 0) (new : Streams) (errors_old errors_new : Stream) (status : ℕ) : Type 0 where
  pub result : Result Unit ActionFault
  pub served : Streams
  pub done : did served result
  pub ended : IsEnded result served.output new.output errors_old errors_new status
  pub read : new.input ≡ served.input

-- Connections were served over a file, and a fault that ended it is reported; nothing was read.
pub record IsListenedToEnd (did : Stream → Result Unit ActionFault → Type 0) (old new : Streams) (errors_old errors_new : Stream) (status : ℕ) : Type 0 where
  pub result : Result Unit ActionFault
  pub stated : Stream
  pub done : did stated result
  pub ended : IsEnded result stated new.output errors_old errors_new status
  pub unread : new.input ≡ old.input

-- The action was carried out, and this is left of the file; the status and both standard streams say how that ended.
-- What uses no file leaves the opener as it was, and what serves no place what acquires places; what serves no port
-- hands back no failures. The file of a year that ends has its own disk, image and opener, and is left as said by that
-- action; every other leaves that opener as it was.
abbrev pub IsActed : {A D E O P F S T C : Type 0} → (f : Ghosts A) → Image → (g : Ghosts D) → Image → Kind F S T → E → O → (List ℕ → Option (List ℕ)) → P → (C → ℕ → C → Type 0) → C → C → Option Failures → Action → Streams → Streams → Stream → Stream → PathLeft E (FileLeft A f) → PathLeft O (FileLeft D g) → PathLeft P (Visited F S T) → ℕ → Type 0
IsActed f earlier g image kind earlier_opener opener text places may_give from to failures (action.Sample moment) old new errors_old errors_new ended left visits status =
    (ended ≡ path.Unopened earlier_opener) × (visits ≡ path.Unopened places) × (failures ≡ None) × (left ≡ path.Unopened opener) × IsSampleEnd cached_sql_status moment old new errors_old errors_new status
IsActed f earlier g image kind earlier_opener opener text places may_give from to failures (action.Init file dir sums) old new errors_old errors_new ended left visits status =
    (ended ≡ path.Unopened earlier_opener) × (visits ≡ path.Unopened places) × (failures ≡ None) × IsReportedOf (IsInited g image text dir.now sums opener left) (codes "made") old new errors_old errors_new status
IsActed f earlier g image kind earlier_opener opener text places may_give from to failures (action.Check file) old new errors_old errors_new ended left visits status =
    (ended ≡ path.Unopened earlier_opener) × (visits ≡ path.Unopened places) × (failures ≡ None) × IsReportedOf (IsChecked g image opener left) (codes "books hold") old new errors_old errors_new status
IsActed f earlier g image kind earlier_opener opener text places may_give from to failures (action.Upgrade file) old new errors_old errors_new ended left visits status =
    (ended ≡ path.Unopened earlier_opener) × (visits ≡ path.Unopened places) × (failures ≡ None) × IsReportedOf (IsUpgraded g image opener left) (codes "carried over") old new errors_old errors_new status
IsActed f earlier g image kind earlier_opener opener text places may_give from to failures (action.Forward file new_file sums) old new errors_old errors_new ended left visits status =
    (visits ≡ path.Unopened places) × (failures ≡ None) × IsReportedOf (IsForwarded f earlier g image sums earlier_opener opener ended left) (codes "carried forward") old new errors_old errors_new status
IsActed f earlier g image kind earlier_opener opener text places may_give from to failures (action.Run file badges moment) old new errors_old errors_new ended left visits status =
    (ended ≡ path.Unopened earlier_opener) × (visits ≡ path.Unopened places) × (failures ≡ None) × IsRunToEnd (λ served result. IsRun g image text opener badges.now moment old served left result) new errors_old errors_new status
IsActed f earlier g image kind earlier_opener opener text places may_give from to failures (action.Serve file badges port requests) old new errors_old errors_new ended left visits status =
    (ended ≡ path.Unopened earlier_opener) × (visits ≡ path.Unopened places) × IsListenedToEnd (λ stated result. IsListened g image text badges.now may_give opener port requests old.output stated from to failures left result) old new errors_old errors_new status
IsActed f earlier g image kind earlier_opener opener text places may_give from to failures (action.Counter file badges place until_input_ends) old new errors_old errors_new ended left visits status =
    (ended ≡ path.Unopened earlier_opener) × (failures ≡ None) × IsListenedToEnd (λ stated result. IsAttended g kind image text badges.now may_give opener places place visits old.output stated from to left result) old new errors_old errors_new status

-- The arguments name an action, which was carried out; or they, or memory for them, are refused, and why was reported.
abbrev pub IsAnswered : {A D E O P F S T C : Type 0} → (f : Ghosts A) → Image → (g : Ghosts D) → Image → Kind F S T → E → O → (List ℕ → Option (List ℕ)) → P → (C → ℕ → C → Type 0) → C → C → Option Failures → List Text → Streams → Streams → Stream → Stream → PathLeft E (FileLeft A f) → PathLeft O (FileLeft D g) → PathLeft P (Visited F S T) → ℕ → Type 0
IsAnswered f earlier g image kind earlier_opener opener text places may_give from to failures words old new errors_old errors_new ended left visits status =
    ((action : Action) × IsNamedBy (subcommand_of bank_app words) action × (fault_of bank_app words ≡ [])
    × IsActed f earlier g image kind earlier_opener opener text places may_give from to failures action old new errors_old errors_new ended left visits status)
    ⊎ ((error : Error) × IsRefusal words error × (new.input ≡ old.input) × (ended ≡ path.Unopened earlier_opener) × (left ≡ path.Unopened opener) × (visits ≡ path.Unopened places) × (failures ≡ None)
    × IsExplained error old.output new.output errors_old errors_new status)

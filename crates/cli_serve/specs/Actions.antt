-- The bank in the file at a path served over a stream, and over a port. The image represents what the file and its log
-- held before; no clause ties it to the path. The badges are those of the text at theirs.
use Rattle.std.specs.Prelude.{◌≡◌, ◌⊎◌, ℕ, List, Option, None, IsErrAnd, Result, Ok, Err}
use Rattle.sqlite_disk.specs.declared.Disk.{Ghosts}
use Rattle.sqlite_wal.specs.Recovery.{Image}
use Rattle.sqlite.specs.declared.FileStore.{FileStore}
use Rattle.sqlite.specs.Held.{Held}
use Rattle.counter_connections.specs.declared.listener.Failures.{Failures}
use Rattle.exit_lines.specs.Streams.{Stream, Streams}
use Rattle.list_opening.specs.Badges.{Badges, user_of}
use Rattle.cli_file.specs.Faults.{IsOfFile, IsUnopened}
use Rattle.cli_file.specs.Opened.{IsOpenedFrom}
use Rattle.cli_file.specs.Texts.{AreBadgesRead}
use Rattle.cli_file.specs.declared.fault.ActionFault.{ActionFault}
use Rattle.cli_file.specs.declared.left.FileLeft.{FileLeft}
use Rattle.cli_file.specs.declared.left.PathLeft.{PathLeft}
use Rattle.cli_file.specs.declared.left.PathLeft.TheVariants as path
use Rattle.cli_serve.specs.Listening.{IsListenedIn}
use Rattle.cli_serve.specs.Serving.{IsServedIn}

module _ {D : Type 0} (g : Ghosts D) (image : Image) (text : List ℕ → Option (List ℕ)) where
  -- A list stated badges, the file was opened, and the stream was served to their users over the bank that was found there, if one was.
  pub record IsRunFrom (list : List ℕ) (moment : ℕ) (old new : Streams) (left : FileLeft D g) (result : Result Unit ActionFault) : Type 0 where
    pub badges : Badges
    pub read : AreBadgesRead list (text list) (Ok badges)
    pub opened : Held (FileStore D g)
    pub from : IsOpenedFrom image opened
    pub served : IsServedIn g (user_of badges) opened moment old new left result

  -- It was done so, and this is left of the file. Or the list was refused or not read, or the file was not opened for what was seen of it, and
  -- the opener is handed back; or the file could not be opened; and then nothing was read or written.
  abbrev pub IsRun : {O : Type 0} → O → List ℕ → ℕ → Streams → Streams → PathLeft O (FileLeft D g) → Result Unit ActionFault → Type 0
  IsRun opener list moment old new (path.Unopened o) result = (o ≡ opener) × IsErrAnd result (λ stated. AreBadgesRead list (text list) (Err stated) ⊎ IsUnopened stated) × (new ≡ old)
  IsRun opener list moment old new path.Refused result = IsErrAnd result IsOfFile × (new ≡ old)
  IsRun opener list moment old new (path.Opened left) result = IsRunFrom list moment old new left result

module _ {D C : Type 0} (g : Ghosts D) (image : Image) (text : List ℕ → Option (List ℕ)) (list : List ℕ) (may_give : C → ℕ → C → Type 0) where
  -- A list stated badges, the file was opened, and the port was served to their users over the bank that was found there, if one was.
  pub record IsListenedFrom (port requests : ℕ) (output_old output_new : Stream) (from to : C) (failures : Option Failures) (left : FileLeft D g) (result : Result Unit ActionFault) : Type 0 where
    pub badges : Badges
    pub read : AreBadgesRead list (text list) (Ok badges)
    pub opened : Held (FileStore D g)
    pub from_image : IsOpenedFrom image opened
    pub served : IsListenedIn g (user_of badges) may_give opened port requests output_old output_new from to failures left result

  -- It was done so, and this is left of the file. Or the list was refused or not read, or the file was not opened for what was seen of it, and
  -- the opener is handed back; or the file could not be opened; and then nothing was listened to or written.
  abbrev pub IsListened : {O : Type 0} → O → ℕ → ℕ → Stream → Stream → C → C → Option Failures → PathLeft O (FileLeft D g) → Result Unit ActionFault → Type 0
  IsListened opener port requests output_old output_new from to failures (path.Unopened o) result =
      (o ≡ opener) × IsErrAnd result (λ stated. AreBadgesRead list (text list) (Err stated) ⊎ IsUnopened stated) × (output_new ≡ output_old) × (to ≡ from) × (failures ≡ None)
  IsListened opener port requests output_old output_new from to failures path.Refused result = IsErrAnd result IsOfFile × (output_new ≡ output_old) × (to ≡ from) × (failures ≡ None)
  IsListened opener port requests output_old output_new from to failures (path.Opened left) result = IsListenedFrom port requests output_old output_new from to failures left result

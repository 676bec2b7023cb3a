-- Connections served at once over the bank in the file at a path. The image represents what the file and its log held
-- before; no clause ties it to the path. The badges are those of the text at theirs.
use Rattle.std.specs.Prelude.{◌≡◌, ◌⊎◌, ℕ, List, Option, IsErrAnd, Result, Ok, Err}
use Rattle.sqlite_disk.specs.declared.Disk.{Ghosts}
use Rattle.sqlite_wal.specs.Recovery.{Image}
use Rattle.sqlite.specs.declared.FileStore.{FileStore}
use Rattle.sqlite.specs.Held.{Held}
use Rattle.counter_places.specs.declared.place.Place.{Place}
use Rattle.exit_lines.specs.Streams.{Stream}
use Rattle.list_opening.specs.Badges.{Badges, user_of}
use Rattle.cli_file.specs.Faults.{IsOfFile, IsUnopened}
use Rattle.cli_file.specs.Opened.{IsOpenedFrom}
use Rattle.cli_file.specs.Texts.{AreBadgesRead}
use Rattle.cli_file.specs.declared.fault.ActionFault.{ActionFault}
use Rattle.cli_file.specs.declared.left.FileLeft.{FileLeft}
use Rattle.cli_file.specs.declared.left.PathLeft.{PathLeft}
use Rattle.cli_file.specs.declared.left.PathLeft.TheVariants as path
use Rattle.cli_counter.specs.InFile.{IsAttendedIn}
use Rattle.cli_counter.specs.Places.{Kind}
use Rattle.cli_counter.specs.declared.places.Visited.{Visited}

module _ {D P E R T C : Type 0} (g : Ghosts D) (kind : Kind E R T) (image : Image) (text : List ℕ → Option (List ℕ)) (list : List ℕ) (may_give : C → ℕ → C → Type 0) where
  -- A list stated badges, the file was opened, and connections were served to their users over the bank that was found there, if one was.
  pub record IsAttendedFrom (places : P) (place : Place) (visits : PathLeft P (Visited E R T)) (output_old output_new : Stream) (from to : C) (left : FileLeft D g) (result : Result Unit ActionFault) : Type 0 where
    pub badges : Badges
    pub read : AreBadgesRead list (text list) (Ok badges)
    pub opened : Held (FileStore D g)
    pub from_image : IsOpenedFrom image opened
    pub attended : IsAttendedIn g kind (user_of badges) may_give opened places place visits output_old output_new from to left result

  -- It was done so, and this is left of the file. Or the list was refused or not read, or the file was not opened for what was seen of it, and
  -- the opener is handed back; or the file could not be opened; and then no place was acquired, and nothing was written.
  abbrev pub IsAttended : {O : Type 0} → O → P → Place → PathLeft P (Visited E R T) → Stream → Stream → C → C → PathLeft O (FileLeft D g) → Result Unit ActionFault → Type 0
  IsAttended opener places place visits output_old output_new from to (path.Unopened o) result =
      (o ≡ opener) × IsErrAnd result (λ stated. AreBadgesRead list (text list) (Err stated) ⊎ IsUnopened stated) × (visits ≡ path.Unopened places) × (output_new ≡ output_old) × (to ≡ from)
  IsAttended opener places place visits output_old output_new from to path.Refused result = IsErrAnd result IsOfFile × (visits ≡ path.Unopened places) × (output_new ≡ output_old) × (to ≡ from)
  IsAttended opener places place visits output_old output_new from to (path.Opened left) result = IsAttendedFrom places place visits output_old output_new from to left result

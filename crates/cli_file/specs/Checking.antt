-- Whether a bank stands in an open file, and in one at a path. The image represents what the file and its log held
-- before; no clause ties it to a path.
use Rattle.std.specs.Prelude.{◌≡◌, IsErrAnd, Result, Ok, Err}
use Rattle.sqlite_disk.specs.declared.Disk.{Ghosts}
use Rattle.sqlite_wal.specs.Recovery.{Image}
use Rattle.sqlite.specs.declared.FileStore.{FileStore}
use Rattle.sqlite.specs.Held.{Held}
use Rattle.cli_file.specs.Faults.{IsOfFile, IsUnopened}
use Rattle.cli_file.specs.Files.{BankStore, IsFound, IsNotFound}
use Rattle.cli_file.specs.Opened.{IsOpenedFrom}
use Rattle.cli_file.specs.declared.fault.ActionFault.{ActionFault}
use Rattle.cli_file.specs.declared.left.FileLeft.{FileLeft}
use Rattle.cli_file.specs.declared.left.FileLeft.TheVariants as left
use Rattle.cli_file.specs.declared.left.PathLeft.{PathLeft}
use Rattle.cli_file.specs.declared.left.PathLeft.TheVariants as path

-- one was found, and this is the connection to it; or none was, and this is why
abbrev pub IsCheckedIn : {D : Type 0} {g : Ghosts D} → Held (FileStore D g) → Held (FileStore D g) → Result Unit ActionFault → Type 0
IsCheckedIn {D} {g} opened now (Ok done) = (store : BankStore D g) × IsFound opened store × (now ≡ store.conn)
IsCheckedIn opened now (Err stated) = IsNotFound opened stated now

module _ {D : Type 0} (g : Ghosts D) (image : Image) where
  -- the file was opened, and a bank was found there, or none
  pub record IsCheckedFrom (now : Held (FileStore D g)) (result : Result Unit ActionFault) : Type 0 where
    pub opened : Held (FileStore D g)
    pub from : IsOpenedFrom image opened
    pub checked : IsCheckedIn opened now result

  -- It was done so, and the connection is left; or the file was not opened, for what was seen of it, and the opener is handed back; or it
  -- could not be opened.
  abbrev pub IsChecked : {O : Type 0} → O → PathLeft O (FileLeft D g) → Result Unit ActionFault → Type 0
  IsChecked opener (path.Unopened o) result = (o ≡ opener) × IsErrAnd result IsUnopened
  IsChecked opener path.Refused result = IsErrAnd result IsOfFile
  IsChecked opener (path.Opened (left.Open conn)) result = IsCheckedFrom conn result
  IsChecked opener _ result = ⊥

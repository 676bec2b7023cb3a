-- A bank made in the file at a path. The image represents what the file and its log held as it was opened, which is an
-- empty database of one page where it held nothing before; no clause ties it to the path.
use Rattle.std.specs.Prelude.{◌≡◌, ℕ, Bool, List, Option, IsErrAnd, Result, Ok, Err}
use Rattle.sqlite_disk.specs.declared.Disk.{Ghosts}
use Rattle.sqlite_wal.specs.Recovery.{Image}
use Rattle.sqlite.specs.declared.FileStore.{FileStore}
use Rattle.sqlite.specs.Held.{Held}
use Rattle.bank_books.specs.WorldLists.{WorldLists}
use Rattle.cli_file.specs.Faults.{IsOfFile}
use Rattle.cli_file.specs.Opened.{IsOpenedFrom}
use Rattle.cli_file.specs.Sums.{HasSumsAsAsked}
use Rattle.cli_file.specs.declared.fault.ActionFault.{ActionFault}
use Rattle.cli_file.specs.declared.left.FileLeft.{FileLeft}
use Rattle.cli_file.specs.declared.left.PathLeft.{PathLeft}
use Rattle.cli_file.specs.declared.left.PathLeft.TheVariants as path
use Rattle.cli_make.specs.Lists.{IsOpeningRead}
use Rattle.cli_make.specs.Making.{IsMadeIn}

module _ {D : Type 0} (g : Ghosts D) (image : Image) (text : List ℕ → Option (List ℕ)) (dir : List ℕ) (sums : Bool) where
  -- The lists of the folder stated a World, the file was opened, and the bank of that World was made there, or refused.
  pub record IsInitedIn (left : FileLeft D g) (result : Result Unit ActionFault) : Type 0 where
    pub world : WorldLists
    pub read : IsOpeningRead text dir (Ok world)
    pub opened : Held (FileStore D g)
    pub from : IsOpenedFrom image opened
    pub asked : HasSumsAsAsked sums image opened
    pub made : IsMadeIn g opened world left result

  -- It was done so, and this is left of the file; or lists were refused or not read, and the opener is handed back, so no file was opened; or
  -- the file could not be opened.
  abbrev pub IsInited : {O : Type 0} → O → PathLeft O (FileLeft D g) → Result Unit ActionFault → Type 0
  IsInited opener (path.Unopened o) result = (o ≡ opener) × IsErrAnd result (λ stated. IsOpeningRead text dir (Err stated))
  IsInited opener path.Refused result = IsErrAnd result IsOfFile
  IsInited opener (path.Opened left) result = IsInitedIn left result

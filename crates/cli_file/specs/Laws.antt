-- What an image that holds the tables of a bank opens as.
use Rattle.std.specs.Prelude.{ℕ}
use Rattle.sqlite_disk.specs.declared.Disk.{Ghosts}
use Rattle.sqlite_disk.specs.declared.Files.{Files}
use Rattle.sqlite_wal.specs.Reads.{AreClean}
use Rattle.sqlite_wal.specs.Recovery.{Image}
use Rattle.sqlite.specs.declared.FileStore.{FileStore}
use Rattle.sqlite.specs.Files.{file_state}
use Rattle.sqlite.specs.Held.{Held}
use Rattle.sqlite.specs.State.{HasCleanDisk}
use Rattle.bank_books.specs.WorldLists.{WorldLists}
use Rattle.sql_schema.specs.Held.{HoldsBank}
use Rattle.sql_adopt.specs.Adopted.{IsBankFile}
use Rattle.cli_file.specs.Opened.{HoldTheBank, IsBankImage, IsOpenedFrom, MayBeFound}
use Rattle.cli_file.specs.Sums.{EachEndsInSum, NoneCollides, SaysItsSums}

-- the connection is one to the bank of that World
pub record IsBankOf {D : Type 0} {g : Ghosts D} (w : WorldLists) (conn : Held (FileStore D g)) : Type 0 where
  pub file : IsBankFile (file_state conn)
  pub holds : HoldsBank (file_state conn) w

-- an image that holds the bank of a World opens as that bank
abbrev pub OpensAsItsBank : {D : Type 0} {g : Ghosts D} → Held (FileStore D g) → Type 0
OpensAsItsBank conn = (image : Image) (w : WorldLists) → IsBankImage image w → IsOpenedFrom image conn → HasCleanDisk (file_state conn) → IsBankOf w conn

-- Files that hold a bank open as it, on a disk of the same kind or another: the file with its log and alone, and what a crash leaves of either.
abbrev pub OpensAgain : {C D : Type 0} (f : Ghosts C) {g : Ghosts D} → Held (FileStore D g) → Type 0
OpensAgain {C} f conn = (files : Files C) (w : WorldLists) → HoldTheBank f files w → AreClean f files.log files.db
    → (image : Image) → MayBeFound f files image → IsOpenedFrom image conn → HasCleanDisk (file_state conn) → IsBankOf w conn

-- A file that says that its pages end in sums opens only where each page does.
abbrev pub OpensWithItsSums : {D : Type 0} {g : Ghosts D} → Held (FileStore D g) → Type 0
OpensWithItsSums conn = (len : ℕ) (image : Image) → SaysItsSums len image → IsOpenedFrom image conn → HasCleanDisk (file_state conn) → EachEndsInSum len image

-- So a bank whose file was damaged opens as the bank that it was, or not at all, where both say that their pages end in sums and no page was
-- changed to another that ends in its own sum.
abbrev pub OpensUndamaged : {D : Type 0} {g : Ghosts D} → Held (FileStore D g) → Type 0
OpensUndamaged conn = (len : ℕ) (old new : Image) (w : WorldLists) → IsBankImage old w → SaysItsSums len old → SaysItsSums len new → NoneCollides len old new
    → IsOpenedFrom new conn → HasCleanDisk (file_state conn) → IsBankOf w conn

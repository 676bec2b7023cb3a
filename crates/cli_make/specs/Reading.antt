-- The bank of a year that ends, in its open file. What is said of the file holds where its disk returned what was written.
use Rattle.std.specs.Prelude.{◌≡◌, ◌⊎◌, Result, Ok, Err, Some}
use Rattle.sqlite_disk.specs.declared.Disk.{Ghosts}
use Rattle.sqlite_wal.specs.Recovery.{Image}
use Rattle.sqlite.specs.declared.FileStore.{FileStore}
use Rattle.sqlite.specs.Files.{file_state}
use Rattle.sqlite.specs.Held.{Held}
use Rattle.sqlite.specs.State.{HasCleanDisk}
use Rattle.bank_books.specs.WorldLists.{WorldLists}
use Rattle.bank_meaning.specs.Sums.{PassesChecks}
use Rattle.book_check.specs.Least.{IsFirstFailing}
use Rattle.sql_schema.specs.Schema.{newest}
use Rattle.sql_adopt.specs.Adopted.{Finds, IsBankFile}
use Rattle.year_forward.specs.Closed.{IsBranchClosed, IsClosed}
use Rattle.year_forward.specs.Forward.{forward}
use Rattle.cli_file.specs.Checking.{IsCheckedIn}
use Rattle.cli_file.specs.Files.{IsNotFound}
use Rattle.cli_file.specs.Opened.{IsBankImage, IsOpenedFrom}
use Rattle.cli_file.specs.declared.fault.ActionFault.{ActionFault}
use Rattle.cli_file.specs.declared.fault.ActionFault.TheVariants as fault

-- why a bank does not begin its next year: this is the least branch that is not closed; or memory was refused
abbrev pub IsNotBegun : WorldLists → ActionFault → Type 0
IsNotBegun w (fault.NotClosed branch) = IsFirstFailing (IsBranchClosed w) (Some branch)
IsNotBegun w stated = stated ≡ fault.Memory

-- the World that a bank begins its next year with, where every branch is closed; or why it begins none
abbrev pub IsNextYear : WorldLists → Result WorldLists ActionFault → Type 0
IsNextYear w (Ok next) = IsClosed w × (next ≡ forward w)
IsNextYear w (Err stated) = IsNotBegun w stated

module _ {D : Type 0} {g : Ghosts D} where
  -- A bank was found, and the connection is left as by its check. This is the World that the tables hold, and they hold no other.
  pub record IsYearRead (opened : Held (FileStore D g)) (w : WorldLists) (left : Held (FileStore D g)) : Type 0 where
    pub checked : IsCheckedIn opened left (Ok tt)
    pub passes : PassesChecks w
    pub held : HasCleanDisk (file_state left) → IsBankFile (file_state opened) → Finds newest (file_state opened).now w
    -- So over every image of a bank it is the World of that bank.
    pub bank : (image : Image) (v : WorldLists) → IsBankImage image v → IsOpenedFrom image opened → HasCleanDisk (file_state left) → w ≡ v

  -- From an open file and what is left of it: the World of the next year of the bank that was found there; or why there is none: no bank was
  -- found, or it begins no year.
  abbrev pub IsYearEnded : Held (FileStore D g) → Held (FileStore D g) → Result WorldLists ActionFault → Type 0
  IsYearEnded opened left (Ok next) = (w : WorldLists) × IsYearRead opened w left × IsClosed w × (next ≡ forward w)
  IsYearEnded opened left (Err stated) = IsNotFound opened stated left ⊎ ((w : WorldLists) × IsYearRead opened w left × IsNotBegun w stated)

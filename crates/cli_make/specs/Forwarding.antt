-- The next year of a bank, in a new file. The images represent what each file and its log held before, tied to no path.
use Rattle.std.specs.Prelude.{◌≡◌, ⊤, Bool, IfErr, IsErrAnd, Result, Err}
use Rattle.sqlite_disk.specs.declared.Disk.{Ghosts}
use Rattle.sqlite_wal.specs.Recovery.{Image}
use Rattle.sqlite.specs.declared.FileStore.{FileStore}
use Rattle.sqlite.specs.Files.{file_state}
use Rattle.sqlite.specs.Held.{Held}
use Rattle.sqlite.specs.State.{HasCleanDisk}
use Rattle.bank_books.specs.WorldLists.{WorldLists}
use Rattle.year_forward.specs.Closed.{IsClosed}
use Rattle.year_forward.specs.Forward.{forward}
use Rattle.cli_file.specs.Faults.{IsOfFile}
use Rattle.cli_file.specs.Opened.{HoldTheBank, IsBankImage, IsOpenedFrom}
use Rattle.cli_file.specs.Sums.{HasSumsAsAsked}
use Rattle.cli_file.specs.Unopened.{IsUnopenedFor}
use Rattle.cli_file.specs.declared.fault.ActionFault.{ActionFault}
use Rattle.cli_file.specs.declared.fault.ActionFault.TheVariants as fault
use Rattle.cli_file.specs.declared.left.FileLeft.{FileLeft}
use Rattle.cli_file.specs.declared.left.FileLeft.TheVariants as left
use Rattle.cli_file.specs.declared.left.PathLeft.{PathLeft}
use Rattle.cli_file.specs.declared.left.PathLeft.TheVariants as path
use Rattle.cli_make.specs.Making.{IsMadeIn}
use Rattle.cli_make.specs.Reading.{IsYearEnded, IsYearRead}

-- why no bank is made in the new file: it holds something already, or it failed, or memory was refused
abbrev pub IsOfNewFile : ActionFault → Type 0
IsOfNewFile fault.NotEmpty = ⊤
IsOfNewFile stated = IsOfFile stated

module _ {A D : Type 0} (f : Ghosts A) (earlier : Image) (g : Ghosts D) (image : Image) where
  -- The file of the year that ends was opened, and a bank was found there, of this World, every branch of which is closed. This is left of it.
  pub record IsYearClosed (w : WorldLists) (ended : Held (FileStore A f)) : Type 0 where
    pub opened : Held (FileStore A f)
    pub from : IsOpenedFrom earlier opened
    pub read : IsYearRead opened w ended
    pub closed : IsClosed w

  -- it was opened, and no bank was found there, or one that begins no year
  abbrev pub IsYearOpen : Held (FileStore A f) → ActionFault → Type 0
  IsYearOpen ended stated = (opened : Held (FileStore A f)) × IsOpenedFrom earlier opened × IsYearEnded opened ended (Err stated)

  -- so over every image of a bank, the new file alone is the bank of its World's next year, also after a crash
  abbrev pub IsNextOf : Held (FileStore A f) → FileLeft D g → Type 0
  IsNextOf ended (left.Closed files) = (v : WorldLists) → IsBankImage earlier v → HasCleanDisk (file_state ended) → HoldTheBank g files (forward v)
  IsNextOf ended _ = ⊤

  -- The new file was opened, and the bank of the next year's World was made there, or refused: neither its books nor its policy are the cause.
  pub record IsForwardedTo (sums : Bool) (ended : Held (FileStore A f)) (left : FileLeft D g) (result : Result Unit ActionFault) : Type 0 where
    pub world : WorldLists
    pub year : IsYearClosed world ended
    pub opened : Held (FileStore D g)
    pub from : IsOpenedFrom image opened
    pub asked : HasSumsAsAsked sums image opened
    pub made : IsMadeIn g opened (forward world) left result
    pub next : IsNextOf ended left
    pub refused : IfErr result IsOfNewFile

  -- It was done so, and this is left of the new file; or the year is not closed, or there is none, and the opener is handed back, so no new
  -- file was opened; or that could not be opened.
  abbrev pub IsForwardedFrom : {O : Type 0} → Bool → O → Held (FileStore A f) → PathLeft O (FileLeft D g) → Result Unit ActionFault → Type 0
  IsForwardedFrom sums opener ended (path.Unopened o) result = (o ≡ opener) × IsErrAnd result (IsYearOpen ended)
  IsForwardedFrom sums opener ended path.Refused result = IsErrAnd result IsOfFile × ((w : WorldLists) × IsYearClosed w ended)
  IsForwardedFrom sums opener ended (path.Opened left) result = IsForwardedTo sums ended left result

  -- It was done so from this connection to the old file, which is left; or that was not opened, and so no new one.
  abbrev pub IsForwarded : {E O : Type 0} → Bool → E → O → PathLeft E (FileLeft A f) → PathLeft O (FileLeft D g) → Result Unit ActionFault → Type 0
  IsForwarded sums earlier_opener opener (path.Opened (left.Open ended)) new result = IsForwardedFrom sums opener ended new result
  IsForwarded sums earlier_opener opener old new result = (new ≡ path.Unopened opener) × IsErrAnd result (IsUnopenedFor earlier_opener old)

-- A bank carried over to the newest tables in its file, from the file as it was opened to what is left of it. The image
-- represents what the file and its log held before; no clause ties it to a path.
use Rattle.std.specs.Prelude.{◌≡◌, ◌≢◌, IsErrAnd, Result, Ok, Err}
use Rattle.sqlite_disk.specs.declared.Disk.{Ghosts}
use Rattle.sqlite_disk.specs.declared.Files.{Files}
use Rattle.sqlite_wal.specs.Recovery.{Image}
use Rattle.sqlite.specs.declared.FileStore.{FileStore}
use Rattle.sqlite.specs.Held.{Held}
use Rattle.bank_books.specs.WorldLists.{WorldLists}
use Rattle.sql_schema.specs.Schema.{newest}
use Rattle.sql_schema.specs.declared.edition.Edition.{Edition}
use Rattle.cli_file.specs.Faults.{IsOfFile, IsUnopened}
use Rattle.cli_file.specs.Files.{BankStore, IsClosed, IsNotClosed}
use Rattle.cli_file.specs.Opened.{HoldTheBank, IsBankImageIn, IsOpenedFrom}
use Rattle.cli_file.specs.declared.fault.ActionFault.{ActionFault}
use Rattle.cli_file.specs.declared.left.FileLeft.{FileLeft}
use Rattle.cli_file.specs.declared.left.FileLeft.TheVariants as left
use Rattle.cli_file.specs.declared.left.PathLeft.{PathLeft}
use Rattle.cli_file.specs.declared.left.PathLeft.TheVariants as path
use Rattle.cli_make.specs.Carrying.{IsCarried, IsNotCarried}

module _ {D : Type 0} (g : Ghosts D) (opened : Held (FileStore D g)) where
  -- It was carried over and closed: over every image of a bank in an earlier schema version the file alone is the bank
  -- of its World, in the newest tables, also after a crash.
  pub record IsCarriedAndClosed (files : Files D) : Type 0 where
    pub store : BankStore D g
    pub carried : IsCarried opened store
    pub closed : IsClosed g store files
    pub bank : (e : Edition) (image : Image) (w : WorldLists) → e ≢ newest → IsBankImageIn e image w → IsOpenedFrom image opened → HoldTheBank g files w

  -- It was carried over and closed; or it was carried over and could not be closed; or it was not.
  abbrev pub IsUpgradedIn : FileLeft D g → Result Unit ActionFault → Type 0
  IsUpgradedIn (left.Open conn) result = (stated : ActionFault) × IsNotCarried opened stated conn × (result ≡ Err stated)
  IsUpgradedIn (left.Closed files) result = IsCarriedAndClosed files × (result ≡ Ok tt)
  IsUpgradedIn (left.Unclosed rest) result =
      (store : BankStore D g) × (stated : ActionFault) × IsCarried opened store × IsNotClosed store stated rest × (result ≡ Err stated)

module _ {D : Type 0} (g : Ghosts D) (image : Image) where
  -- the file was opened, and the bank that stood there was carried over, or there was none
  pub record IsUpgradedFrom (left : FileLeft D g) (result : Result Unit ActionFault) : Type 0 where
    pub opened : Held (FileStore D g)
    pub from : IsOpenedFrom image opened
    pub upgraded : IsUpgradedIn g opened left result

  -- It was done so, and this is left of the file; or the file was not opened, for what was seen of it, and the opener is handed back; or it
  -- could not be opened.
  abbrev pub IsUpgraded : {O : Type 0} → O → PathLeft O (FileLeft D g) → Result Unit ActionFault → Type 0
  IsUpgraded opener (path.Unopened o) result = (o ≡ opener) × IsErrAnd result IsUnopened
  IsUpgraded opener path.Refused result = IsErrAnd result IsOfFile
  IsUpgraded opener (path.Opened left) result = IsUpgradedFrom left result

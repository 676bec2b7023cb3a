-- The bank of an earlier schema version in an open file, carried over to the newest tables. What is said of the file
-- holds where its disk returned what was written.
use Rattle.std.specs.Prelude.{◌≡◌, ◌≢◌, false, IsTrue}
use Rattle.sqlite_disk.specs.declared.Disk.{Ghosts}
use Rattle.sqlite_wal.specs.Recovery.{Image}
use Rattle.sqlite.specs.declared.FileStore.{FileStore}
use Rattle.sqlite.specs.Files.{file_state}
use Rattle.sqlite.specs.Held.{Held}
use Rattle.sqlite.specs.State.{HasCleanDisk, Survives}
use Rattle.bank_books.specs.WorldLists.{WorldLists}
use Rattle.book_kept.specs.Sheets.{Sheets}
use Rattle.sql_schema.specs.Held.{HoldsSheetsIn}
use Rattle.sql_schema.specs.Readable.{AreReadable}
use Rattle.sql_schema.specs.Schema.{newest}
use Rattle.sql_schema.specs.Steps.{LeavesNone}
use Rattle.sql_schema.specs.declared.edition.Edition.{Edition}
use Rattle.sql_adopt.specs.Adopted.{IsBankFileIn, IsLeft}
use Rattle.sql_adopt.specs.Older.{IsNewestFile, IsOlderFile}
use Rattle.sql_adopt.specs.Refused.{HoldsSoundBankIn, IsNamedBy, IsOfOther, IsOfStore, IsRefusedIn}
use Rattle.sql_adopt.specs.declared.adopt_fault.AdoptFault.{AdoptFault}
use Rattle.sql_upgrade.specs.Carried.{Carries, IsCarriedOver}
use Rattle.cli_file.specs.Faults.{fault_of_adopting}
use Rattle.cli_file.specs.Files.{BankStore, IsBankKept, IsBankOfOther, IsBankRefused, IsNewStore}
use Rattle.cli_file.specs.Opened.{IsBankImage, IsBankImageIn, IsOpenedFrom}
use Rattle.cli_file.specs.declared.fault.ActionFault.{ActionFault}

module _ {D : Type 0} {g : Ghosts D} where
  -- Where the tables were those of a bank in an older schema version, as its row says, they held a World whose books
  -- hold and whose policy is sound and separated; the newest hold it now. A crash leaves the one or the other, whole.
  pub record IsCarried (opened : Held (FileStore D g)) (store : BankStore D g) : Type 0 where
    pub carries : HasCleanDisk (file_state store.conn) → (e : Edition) → IsOlderFile e (file_state opened) → Carries e (file_state opened) (file_state store.conn)
    pub other : HasCleanDisk (file_state store.conn) → IsNewestFile (file_state opened) → ⊥
    pub crash : Survives (file_state opened) (file_state store.conn) (λ trees. HasCleanDisk (file_state store.conn) → (e : Edition) → IsOlderFile e (file_state opened) → IsCarriedOver e (file_state opened) trees)
    pub is_open : HasCleanDisk (file_state store.conn) → IsTrue (file_state store.conn).is_open
    pub begins : IsNewStore store
    -- So over every image of a bank in an earlier schema version, the newest tables hold its World.
    pub bank : (e : Edition) (image : Image) (w : WorldLists) → e ≢ newest → IsBankImageIn e image w → IsOpenedFrom image opened → HasCleanDisk (file_state store.conn) → IsBankKept w store.conn

  -- Where the tables were those of a bank in an older schema version, this is its first fault; one of the newest is
  -- reported as of another version. What the connection shows is as it was; only for a fault of the file, or want of
  -- memory, may a crash find the bank carried over all the same. A sound bank is refused for such a fault alone.
  pub record IsNotCarried (opened : Held (FileStore D g)) (stated : ActionFault) (left : Held (FileStore D g)) : Type 0 where
    pub why : AdoptFault
    pub is_reported : stated ≡ fault_of_adopting why
    pub refused : HasCleanDisk (file_state left) → (e : Edition) → IsOlderFile e (file_state opened) → IsRefusedIn e (file_state opened).now.trees why
    pub sound : HasCleanDisk (file_state left) → (e : Edition) → IsOlderFile e (file_state opened) → HoldsSoundBankIn e (file_state opened).now → IsOfStore why
    pub named : HasCleanDisk (file_state left) → (e : Edition) → IsOlderFile e (file_state opened) → (s : Sheets) → HoldsSheetsIn e (file_state opened).now.trees s → AreReadable s → IsNamedBy s why
    pub other : HasCleanDisk (file_state left) → IsNewestFile (file_state opened) → IsOfOther why
    pub unchanged : HasCleanDisk (file_state left) → (e : Edition) → IsBankFileIn e (file_state opened) → IsLeft (file_state opened) (file_state left)
    pub untouched : (IsOfStore why → ⊥) → LeavesNone (file_state opened) (file_state left)
    pub idle : left.in_transaction ≡ false
    pub crash : Survives (file_state opened) (file_state left) (λ trees. HasCleanDisk (file_state left) → (e : Edition) → IsOlderFile e (file_state opened) → IsCarriedOver e (file_state opened) trees)
    -- So over every image of a bank in an earlier schema version, its World is left as it was, and its first fault is
    -- reported; one of the newest is left as it was too, and reported as of another, unless the file or memory failed.
    pub bank : (e : Edition) (image : Image) (w : WorldLists) → e ≢ newest → IsBankImageIn e image w → IsOpenedFrom image opened → HasCleanDisk (file_state left) → IsBankRefused e w why left
    pub present : (image : Image) (w : WorldLists) → IsBankImage image w → IsOpenedFrom image opened → HasCleanDisk (file_state left) → IsBankOfOther newest w why left

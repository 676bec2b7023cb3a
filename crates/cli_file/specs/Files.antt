-- A bank in a file: found, and closed. What is said of the file holds where its disk returned what was written.
use Rattle.std.specs.Prelude.{◌≡◌, ◌≢◌, false, IsTrue}
use Rattle.sqlite_disk.specs.declared.Disk.{Ghosts}
use Rattle.sqlite_disk.specs.declared.Files.{Files}
use Rattle.sqlite_wal.specs.Reads.{AreClean}
use Rattle.sqlite_wal.specs.Recovery.{Image}
use Rattle.sqlite_store.specs.FileStore.{recovers, view}
use Rattle.sqlite_trees.specs.View.{IsClean}
use Rattle.sqlite.specs.declared.FileStore.{FileStore}
use Rattle.sqlite.specs.Closing.{IsCopied}
use Rattle.sqlite.specs.Files as closing
use Rattle.sqlite.specs.Files.{file_state, over_files}
use Rattle.sqlite.specs.Held.{Held}
use Rattle.sqlite.specs.State.{HasCleanDisk}
use Rattle.sqlite.specs.Tree.{Trees}
use Rattle.bank_books.specs.WorldLists.{WorldLists}
use Rattle.bank_meaning.specs.Sums.{PassesChecks}
use Rattle.sql_schema.specs.Held.{AreOfWorld, HoldsBank, HoldsSheets}
use Rattle.sql_schema.specs.Readable.{AreReadable}
use Rattle.sql_schema.specs.Schema.{newest}
use Rattle.sql_schema.specs.declared.edition.Edition.{Edition}
use Rattle.sql_schema.specs.Steps.{LeavesNone}
use Rattle.book_kept.specs.Sheets.{Sheets, sheets_of}
use Rattle.sql_adopt.specs.Adopted.{Adopts, HoldsBankIn, IsBankFile, IsBankFileIn, IsLeft, IsOfAnother}
use Rattle.sql_adopt.specs.Refused.{HoldsSoundBank, IsNamedBy, IsOfOther, IsOfStore, IsRefused}
use Rattle.sql_adopt.specs.declared.adopt_fault.AdoptFault.{AdoptFault}
use Rattle.store_rows.specs.Status.{Status}
use Rattle.store_sql.specs.Bank.{KnowsNothing, MayLeave, sql_status, with_known}
use Rattle.store_sql.specs.declared.sql_store.SqlStore.{SqlStore}
use Rattle.cli_file.specs.Faults.{IsOfFile, fault_of_adopting}
use Rattle.cli_file.specs.Opened.{HoldTheBank, IsBankImage, IsBankImageIn, IsOpenedFrom}
use Rattle.cli_file.specs.declared.fault.ActionFault.{ActionFault}

-- the store of a bank in a file
abbrev pub BankStore : (D : Type 0) → Ghosts D → Type 0
BankStore D g = SqlStore (FileStore D g) over_files

module _ {D : Type 0} {g : Ghosts D} where
  -- what the store of a bank in a file represents
  abbrev pub file_status : BankStore D g → Status
  file_status store = with_known store.known (sql_status (file_state store.conn) store.is_stopped store.faults store.failures)

  -- the store has met no fault, is not stopped, and knows nothing yet
  pub record IsNewStore (store : BankStore D g) : Type 0 where
    pub works : store.is_stopped ≡ false
    pub no_fault : store.faults ≡ 0
    pub no_failure : store.failures ≡ 0
    pub known : KnowsNothing store.known

  -- The World passes both checks, the file holds it, and a crash leaves it and no other.
  pub record IsBankKept (w : WorldLists) (conn : Held (FileStore D g)) : Type 0 where
    pub checked : PassesChecks w
    pub holds : IsTrue (file_state conn).is_open → HoldsBank (file_state conn) w
    pub durable : (trees : Trees) → (file_state conn).may_leave trees → AreOfWorld w trees
    pub alone : (left : WorldLists) → MayLeave (file_state conn) left → left ≡ w

  -- The file still holds the World, in the tables of this schema version. Its first fault is reported, or, where it
  -- passes both checks, that the file or memory failed.
  pub record IsBankRefused (e : Edition) (w : WorldLists) (why : AdoptFault) (conn : Held (FileStore D g)) : Type 0 where
    pub holds : IsTrue (file_state conn).is_open → HoldsBankIn e (file_state conn) w
    pub named : AreReadable (sheets_of w) → IsNamedBy (sheets_of w) why
    pub sound : AreReadable (sheets_of w) → PassesChecks w → IsOfStore why

  -- The file still holds the World, in this schema version, and is reported as of another, unless it or memory failed.
  pub record IsBankOfOther (e : Edition) (w : WorldLists) (why : AdoptFault) (conn : Held (FileStore D g)) : Type 0 where
    pub holds : IsTrue (file_state conn).is_open → HoldsBankIn e (file_state conn) w
    pub other : IsOfOther why

  -- Where the tables of the file were those of a bank, they hold a World whose books hold and whose policy is sound and separated, and
  -- hold it still. A crash leaves nothing that it could not leave before.
  pub record IsFound (opened : Held (FileStore D g)) (store : BankStore D g) : Type 0 where
    pub adopts : HasCleanDisk (file_state store.conn) → IsBankFile (file_state opened) → Adopts (file_state opened) (file_state store.conn)
    pub unchanged : HasCleanDisk (file_state store.conn) → IsBankFile (file_state opened) → IsLeft (file_state opened) (file_state store.conn)
    pub other : HasCleanDisk (file_state store.conn) → IsOfAnother newest (file_state opened) → ⊥
    pub survives : LeavesNone (file_state opened) (file_state store.conn)
    pub begins : IsNewStore store
    -- So over every image of a bank, the bank of its World was found; over none of an earlier schema version was one.
    pub bank : (image : Image) (w : WorldLists) → IsBankImage image w → IsOpenedFrom image opened → HasCleanDisk (file_state store.conn) → IsBankKept w store.conn
    pub older : (e : Edition) (image : Image) (w : WorldLists) → e ≢ newest → IsBankImageIn e image w → IsOpenedFrom image opened → HasCleanDisk (file_state store.conn) → ⊥

  -- Where the tables were those of a bank, this is its first fault, and nothing was changed. One of an earlier schema
  -- version is reported as of another version. A sound bank is refused for a fault of the file or want of memory.
  pub record IsNotFound (opened : Held (FileStore D g)) (stated : ActionFault) (left : Held (FileStore D g)) : Type 0 where
    pub why : AdoptFault
    pub is_reported : stated ≡ fault_of_adopting why
    pub refused : HasCleanDisk (file_state left) → IsBankFile (file_state opened) → IsRefused (file_state opened).now.trees why
    pub sound : HasCleanDisk (file_state left) → IsBankFile (file_state opened) → HoldsSoundBank (file_state opened).now → IsOfStore why
    pub named : HasCleanDisk (file_state left) → IsBankFile (file_state opened) → (s : Sheets) → HoldsSheets (file_state opened).now.trees s → AreReadable s → IsNamedBy s why
    pub other : HasCleanDisk (file_state left) → IsOfAnother newest (file_state opened) → IsOfOther why
    pub unchanged : HasCleanDisk (file_state left) → (e : Edition) → IsBankFileIn e (file_state opened) → IsLeft (file_state opened) (file_state left)
    pub idle : left.in_transaction ≡ false
    pub survives : LeavesNone (file_state opened) (file_state left)
    -- So over every image of a bank, its World is left as it was, and its first fault is reported; one of an earlier
    -- schema version is left as it was too, and reported as of another, unless the file or memory failed.
    pub bank : (image : Image) (w : WorldLists) → IsBankImage image w → IsOpenedFrom image opened → HasCleanDisk (file_state left) → IsBankRefused newest w why left
    pub older : (e : Edition) (image : Image) (w : WorldLists) → e ≢ newest → IsBankImageIn e image w → IsOpenedFrom image opened → HasCleanDisk (file_state left) → IsBankOfOther e w why left

  -- whatever a crash leaves of a file and its log that could not be closed is a World of which this is said
  abbrev pub LeavesOnly : FileStore D g → (WorldLists → Type 0) → Type 0
  LeavesOnly left P = IsClean (view left) → (trees : Trees) → recovers left trees → (w : WorldLists) × AreOfWorld w trees × P w

  -- Where it could not be closed, nothing is lost that stood in the file and its log: together they are a World that a crash could leave before.
  pub record IsNotClosed (store : BankStore D g) (stated : ActionFault) (left : FileStore D g) : Type 0 where
    pub of_file : IsOfFile stated
    pub closed : closing.IsClosed store.conn left
    pub bank : (file_status store).leaves_a_world → LeavesOnly left (file_status store).may_leave

-- The last commit is in the file itself, as it reads with its log and without, and as a crash leaves it.
pub record IsClosed {D : Type 0} (g : Ghosts D) (store : BankStore D g) (files : Files D) : Type 0 where
  pub copied : AreClean g files.log files.db → IsCopied store.conn files
  -- So the file alone is the bank of the World that the store represented.
  pub bank : (w : WorldLists) → (file_status store).holds w → HoldTheBank g files w

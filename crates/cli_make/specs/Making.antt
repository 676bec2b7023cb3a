-- A bank made in an open file, from the file as it was opened to what is left of it. What is said of the file holds where its disk returned what
-- was written.
use Rattle.std.specs.Prelude.{◌≡◌, false, IsTrue, Result, Ok, Err}
use Rattle.sqlite_disk.specs.declared.Disk.{Ghosts}
use Rattle.sqlite_disk.specs.declared.Files.{Files}
use Rattle.sqlite.specs.declared.FileStore.{FileStore}
use Rattle.sqlite.specs.Files.{file_state}
use Rattle.sqlite.specs.Held.{Held}
use Rattle.sqlite.specs.State.{HasCleanDisk, KeepsCommit, Survives}
use Rattle.bank_books.specs.WorldLists.{WorldLists}
use Rattle.sql_schema.specs.Held.{AreOfWorld}
use Rattle.sql_create.specs.Blank.{no_schema}
use Rattle.sql_create.specs.Made.{IsBank, IsBeforehand, IsKeptAs, IsRefusal}
use Rattle.sql_create.specs.declared.open_fault.OpenFault.{OpenFault}
use Rattle.cli_file.specs.Files.{BankStore, IsClosed, IsNewStore, IsNotClosed}
use Rattle.cli_file.specs.Opened.{HoldTheBank}
use Rattle.cli_file.specs.declared.fault.ActionFault.{ActionFault}
use Rattle.cli_file.specs.declared.left.FileLeft.{FileLeft}
use Rattle.cli_file.specs.declared.left.FileLeft.TheVariants as left
use Rattle.cli_make.specs.Faults.{fault_of_making}

module _ {D : Type 0} {g : Ghosts D} where
  -- The file held no table, and holds the World, whose books hold and whose policy is sound and separated.
  pub record IsMade (opened : Held (FileStore D g)) (w : WorldLists) (store : BankStore D g) : Type 0 where
    pub bank : IsBank w
    pub was_empty : (file_state opened).now.schema ≡ no_schema
    pub kept : HasCleanDisk (file_state store.conn) → IsKeptAs (file_state store.conn) w
    pub is_open : HasCleanDisk (file_state store.conn) → IsTrue (file_state store.conn).is_open
    pub crash : Survives (file_state opened) (file_state store.conn) (AreOfWorld w)
    pub begins : IsNewStore store

  -- It is the first fault of the books, else of the policy, else the file was not empty; a fault of the file, and want of memory, may
  -- come at any point. Nothing was committed.
  pub record IsNotMade (opened : Held (FileStore D g)) (w : WorldLists) (stated : ActionFault) (left : Held (FileStore D g)) : Type 0 where
    pub why : OpenFault
    pub is_reported : stated ≡ fault_of_making why
    pub refused : IsRefusal (file_state opened).now.schema w why
    pub untouched : IsBeforehand why → left ≡ opened
    pub unmade : HasCleanDisk (file_state left) → KeepsCommit (file_state opened) (file_state left)
    pub idle : left.in_transaction ≡ false
    pub crash : Survives (file_state opened) (file_state left) (AreOfWorld w)

module _ {D : Type 0} (g : Ghosts D) (opened : Held (FileStore D g)) (w : WorldLists) where
  -- It was made and closed: the file alone is the bank of this World, and so it is opened the next time, also after a crash.
  pub record IsMadeAndClosed (files : Files D) : Type 0 where
    pub store : BankStore D g
    pub made : IsMade opened w store
    pub closed : IsClosed g store files
    pub bank : HoldTheBank g files w

  -- It was made and closed; or it was made and could not be closed; or none was made.
  abbrev pub IsMadeIn : FileLeft D g → Result Unit ActionFault → Type 0
  IsMadeIn (left.Open conn) result = (stated : ActionFault) × IsNotMade opened w stated conn × (result ≡ Err stated)
  IsMadeIn (left.Closed files) result = IsMadeAndClosed files × (result ≡ Ok tt)
  IsMadeIn (left.Unclosed rest) result =
      (store : BankStore D g) × (stated : ActionFault) × IsMade opened w store × IsNotClosed store stated rest × (result ≡ Err stated)

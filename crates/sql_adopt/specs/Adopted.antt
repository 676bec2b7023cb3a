-- What is known of a connection to a file, and what its tables hold where it is adopted.
use Rattle.std.specs.Prelude.{ℕ, ℤ, pos, ◌≡◌, ◌≢◌, ◌∷◌, [], IfOk, IfSome, IsTrue, Ok, Result}
use Rattle.sqlite.specs.Effect.{Database}
use Rattle.sqlite.specs.State.{HasCleanDisk, KeepsCommit, State}
use Rattle.sqlite.specs.Tree.{Trees}
use Rattle.bank_books.specs.Books.{Books}
use Rattle.bank_books.specs.WorldLists.{WorldLists}
use Rattle.sql_schema.specs.Cells.{bank_cells_in, edition_number}
use Rattle.sql_schema.specs.Held.{AreOfWorld, HoldsBank, HoldsWorld, HoldsWorldIn, IsIn, Sheet, tree_of}
use Rattle.sql_schema.specs.Schema.{newest, schema_of}
use Rattle.sql_schema.specs.declared.edition.Edition.{Edition}
use Rattle.store_sql.specs.Bank.{MayLeave}
use Rattle.policy_check.specs.PolicyVerdict.{IsPolicyVerdict}
use Rattle.sql_whole.specs.BankRow.{bank_row_cells}
use Rattle.sql_whole.specs.BookRows.{AreBookRows}
use Rattle.sql_whole.specs.PolicyTables.{ArePolicyTables}
use Rattle.sql_whole.specs.Typed.{AreBooksTyped, AreTablesTyped}
use Rattle.sql_whole.specs.Whole.{HasBankTables, IsKeptTable}
use Rattle.sql_adopt.specs.declared.reading.FileRows.{FileRows}

-- A connection to a file whose tables are as they were made for a bank in this schema version, and as a store keeps
-- tables. What stands in them may be anything.
pub record IsBankFileIn (e : Edition) (s : State) : Type 0 where
  pub schema : s.now.schema ≡ schema_of e
  pub kept : (t : Sheet) → IsIn e t → IsKeptTable (s.now.trees (tree_of t))
  pub settled : s.committed ≡ s.now

abbrev pub IsBankFile : State → Type 0
IsBankFile = IsBankFileIn newest

-- What a call on such a file comes to, where the disk has shown no fault after it.
abbrev pub OnFileIn : Edition → State → State → Type 0 → Type 0
OnFileIn e old new follows = HasCleanDisk new → IsBankFileIn e old → follows

-- the same of the newest schema version
abbrev pub OnFile : State → State → Type 0 → Type 0
OnFile old new follows = HasCleanDisk new → IsBankFile old → follows

-- the same of any
abbrev pub OnAnyFile : State → State → (Edition → Type 0) → Type 0
OnAnyFile old new follows = HasCleanDisk new → (e : Edition) → IsBankFileIn e old → follows e

-- Between calls the tables hold this World as a schema version lays it out: the last commit has it too.
pub record HoldsBankIn (e : Edition) (s : State) (w : WorldLists) : Type 0 where
  pub now : HoldsWorldIn e s.now w
  pub settled : s.committed ≡ s.now

-- The one row of the bank, of this schema version, with this number for the version of its policy.
abbrev pub IsBankNumber : Edition → Trees → ℤ → Type 0
IsBankNumber e db policy = db 0 ≡ bank_row_cells (record { id = pos 1; version = pos (edition_number e); policy = policy }) ∷ []

-- the one row of the bank
abbrev pub IsBankRow : Edition → Trees → ℕ → Type 0
IsBankRow e db version = db 0 ≡ bank_cells_in e version ∷ []

-- The rows of all tables, each of the types that it is read as. Those of the policy may be missing, where one of them is out of its limits.
pub record AreFileRows (e : Edition) (db : Trees) (rows : FileRows) : Type 0 where
  pub version : IsBankRow e db rows.version
  pub books : AreBookRows e db rows.books
  pub typed : AreBooksTyped rows.books
  pub policy : IfSome rows.policy (ArePolicyTables e db)
  pub policy_typed : IfSome rows.policy AreTablesTyped

-- The row of the bank says that the file is of another schema version than this.
pub record IsOfAnother (edition : Edition) (s : State) : Type 0 where
  pub is : Edition
  pub file : IsBankFileIn is s
  pub version : ℕ
  pub row : IsBankRow is s.now.trees version
  pub differs : edition_number is ≢ edition_number edition

-- A read after which nothing more is read.
abbrev pub ReadsLast : {X E : Type 0} → Edition → State → State → (Trees → X → Type 0) → Result X E → Type 0
ReadsLast e old new says result = HasCleanDisk new → HasBankTables e old → IfOk result (says old.now.trees) × KeepsCommit old new

-- The tables hold this World and no other, as a schema version lays it out; its books hold and its policy is sound.
pub record Finds (e : Edition) (db : Database) (world : WorldLists) : Type 0 where
  pub books : Books world
  pub policy : IsPolicyVerdict world.policy (Ok tt)
  pub held : HoldsWorldIn e db world
  pub only : (other : WorldLists) → HoldsWorldIn e db other → other ≡ world

-- The tables hold a World whose books hold and whose policy is sound, and no other, and hold it still; and a crash leaves it alone.
pub record Adopts (old new : State) : Type 0 where
  pub world : WorldLists
  pub books : Books world
  pub policy : IsPolicyVerdict world.policy (Ok tt)
  pub held : HoldsWorld old.now world
  pub only : (other : WorldLists) → HoldsWorld old.now other → other ≡ world
  pub holds : IsTrue new.is_open → HoldsBank new world
  pub durable : (trees : Trees) → new.may_leave trees → AreOfWorld world trees
  pub alone : (left : WorldLists) → MayLeave new left → left ≡ world

-- nothing was changed
pub record IsLeft (old new : State) : Type 0 where
  pub was_open : IsTrue new.is_open → IsTrue old.is_open
  pub now : IsTrue new.is_open → new.now ≡ old.now
  pub settled : IsTrue new.is_open → new.committed ≡ new.now

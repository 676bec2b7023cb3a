-- What a read of whole tables says of them, and what it leaves.
use Rattle.std.specs.Prelude.{ℕ, ◌≡◌, ◌<◌, List, [], length, map, Contains, false, true, IfErr, IfOk, IsTrue, OnOk, Ok, Err, Result}
use Rattle.std.specs.List.Sorted.{IsPermutation}
use Rattle.sqlite.specs.Command.TheVariants.{Select}
use Rattle.sqlite.specs.Effect.{IsDatabase}
use Rattle.sqlite.specs.Given.{IsPlain}
use Rattle.sqlite.specs.Listing.{reads_listing, understood}
use Rattle.sqlite.specs.Order.{Row}
use Rattle.sqlite.specs.Query.{Query}
use Rattle.sqlite.specs.State.{HasCleanDisk, IsUnchanged, KeepsCommit, State}
use Rattle.sqlite.specs.Tree.{Trees}
use Rattle.sqlite_resolve.specs.declared.compiled.Compiled.{Compiled}
use Rattle.sqlite_resolve.specs.declared.error.CompileError.{CompileError}
use Rattle.sqlite_schema.specs.Rules.{Obeys}
use Rattle.sqlite_sql.specs.Program.{IsProgramAnswer, ProgramOverflows}
use Rattle.sqlite_typing.specs.Types.{accepts_program}
use Rattle.sqlite_trees.specs.View.{IsShaped}
use Rattle.sqlite_trees.specs.declared.store.Shape.TheVariants.{Table}
use Rattle.sql_schema.specs.Held.{HoldsSheetsIn, IsIn, Sheet, tree_of}
use Rattle.sql_schema.specs.HeldRows.{HoldsRows}
use Rattle.sql_schema.specs.Readable.{AreReadable}
use Rattle.sql_schema.specs.Schema.{schema_of}
use Rattle.sql_schema.specs.declared.edition.Edition.{Edition}
use Rattle.book_kept.specs.Sheets.{Sheets}
use Rattle.sql_whole.specs.Faults.{IsOfDatabase}
use Rattle.sql_whole.specs.declared.fault.ReadFault.{ReadFault}

-- Rows as a store keeps those of a table: their rowids are whole numbers and rise, and each has a column beside its rowid.
pub record IsKeptTable (tree : List Row) : Type 0 where
  pub shaped : IsShaped Table tree
  pub beside : (row : Row) → Contains tree row → 1 < length row

-- A connection to tables as they were made for a bank, in a schema version. What stands in them may be anything.
pub record HasBankTables (e : Edition) (s : State) : Type 0 where
  pub schema : s.now.schema ≡ schema_of e
  pub sound : IsTrue s.is_open → IsDatabase s.now
  pub kept : (t : Sheet) → IsIn e t → IsKeptTable (s.now.trees (tree_of t))

-- These are the rows of a table, each once, and none of them has a number too great for its key. Where the table holds rows whose keys differ,
-- they are these, in order of their keys.
pub record AreAll {X : Type 0} (shows : Row → Row) (cells : X → Row) (key : X → ℕ) (Fits : X → Type 0) (t : Sheet) (db : Trees) (rows : List X) : Type 0 where
  pub same : IsPermutation (map cells rows) (map shows (db (tree_of t)))
  pub fit : (x : X) → Contains rows x → Fits x
  pub in_order : (xs : List X) → HoldsRows shows cells key Fits xs (db (tree_of t)) → map cells rows ≡ map cells xs

-- A read that went through says this of the trees, and leaves all as it was. One that failed commits nothing.
abbrev pub Reads : {X E : Type 0} → Edition → State → State → (Trees → X → Type 0) → Result X E → Type 0
Reads e old new says result = HasCleanDisk new → HasBankTables e old → IfOk result (says old.now.trees) × OnOk result (IsUnchanged old new) × KeepsCommit old new

-- A read that is refused is refused for the database itself, or for a limit on the steps of its connection: no table is missing.
abbrev pub IsThere : {X : Type 0} → Edition → State → State → Result X ReadFault → Type 0
IsThere e old new result = HasCleanDisk new → HasBankTables e old → IfErr result IsOfDatabase

-- on tables whose rows can all be read, a read says this
abbrev pub OnReadable : Edition → State → State → Type 0 → Type 0
OnReadable e old new says = HasCleanDisk new → HasBankTables e old → (s : Sheets) → HoldsSheetsIn e old.now.trees s → AreReadable s → says

-- ---- queries for whole tables

abbrev pub IsQueryFor : Query → List (List ℕ) → Result Compiled CompileError → Type 0
IsQueryFor query names (Ok c) = c.command ≡ Select (record { lets = []; body = query }) names
IsQueryFor query names (Err e) = ⊥

-- one statement, so long, without parameters
abbrev pub IsAlone : ℕ → Result Compiled CompileError → Type 0
IsAlone size (Ok c) = (c.tail ≡ size) × (c.names ≡ [])
IsAlone size (Err e) = ⊥

-- The text is one query of the tables of a bank, without parameters, whose types are right and which adds nothing up. So only the database
-- itself, or a limit on the steps of its connection, keeps it from an answer.
pub record IsAnswered (e : Edition) (text : List ℕ) : Type 0 where
  pub query : Query
  pub names : List (List ℕ)
  pub is : IsQueryFor query names (understood (schema_of e) text)
  pub unlisted : reads_listing (schema_of e) text ≡ false
  pub plain : IsPlain (understood (schema_of e) text)
  pub alone : IsAlone (length text) (understood (schema_of e) text)
  pub typed : accepts_program (schema_of e) [] query [] ≡ true
  pub adds_nothing : (db : Trees) → ProgramOverflows db [] [] [] query → ⊥

-- The text is a query of which each answer represents the rows of a table, each once, in order of their keys where
-- these differ: `shows` gives the part of a row that is compared, and `told` the same part from a row of the answer.
pub record TellsWhole {X : Type 0} (e : Edition) (shows stated : Row → Row) (cells : X → Row) (key : X → ℕ) (Fits : X → Type 0) (t : Sheet) (text : List ℕ) : Type 0 where
  pub inside : IsIn e t
  pub asks : IsAnswered e text
  pub whole : (db : Trees) (answer : List Row) → Obeys (schema_of e) db → IsKeptTable (db (tree_of t)) → IsProgramAnswer [] asks.query db [] answer
      → IsPermutation (map stated answer) (map shows (db (tree_of t)))
  pub ordered : (db : Trees) (xs : List X) (answer : List Row) → HoldsRows shows cells key Fits xs (db (tree_of t)) → IsProgramAnswer [] asks.query db [] answer
      → map stated answer ≡ map cells xs

-- What the statements of a table do to it, said of trees alone.
use Rattle.std.specs.Prelude.{ℕ, ◌≡◌, ◌/◌, List, [], length, slice_get, Some, false}
use Rattle.sqlite.specs.Command.TheVariants.{Insert, Update}
use Rattle.sqlite.specs.Edit.{edit_of}
use Rattle.sqlite.specs.Effect.{value_rows}
use Rattle.sqlite.specs.Listing.{understood}
use Rattle.sqlite.specs.Order.{Row}
use Rattle.sqlite.specs.Query.{Query}
use Rattle.sqlite.specs.Rowids.TheVariants.{Chosen, Given}
use Rattle.sqlite.specs.Source.TheVariants.{Values}
use Rattle.sqlite.specs.Table.{Table}
use Rattle.sqlite.specs.Term.{Term}
use Rattle.sqlite.specs.Tree.{Trees}
use Rattle.sqlite.proofs.Callers.{IsPlain, command_of}
use Rattle.sqlite_rules.specs.Action.{works}
use Rattle.sqlite_rules.specs.Calls.{ids_of}
use Rattle.sqlite_rules.specs.Edit.{Applies}
use Rattle.sqlite_schema.specs.declared.schema.Keys.TheVariants.{Enforced}
use Rattle.sqlite_sql.specs.Program.{IsProgramAnswer}
use Rattle.book_kept.specs.Sheets.{Sheets}
use Rattle.sql_schema.specs.Held.{HoldsSheets}
use Rattle.sql_schema.specs.Schema.{bank_schema}

-- The text adds a row, given as its cells, and leaves of the lists what is said.
pub record Adds {X : Type 0} (text : List ℕ) (given : X → Row) (Fits : X → Type 0) (after : X → Sheets → Sheets) : Type 0 where
  pub at : ℕ
  pub table : Table
  pub terms : List Term
  pub width : ℕ
  pub is : command_of (understood bank_schema text) ≡ Insert at (Values terms width)
  pub plain : IsPlain (understood bank_schema text)
  pub there : slice_get bank_schema.tables at ≡ Some table
  pub uncounted : table.is_counted ≡ false
  pub unstamped : table.stamps.terms ≡ []
  pub leaves : (old new : Trees) (s : Sheets) (x : X) → Fits x → HoldsSheets old s
      → Applies bank_schema Enforced old (edit_of old table [] Chosen 0 (value_rows (given x) width (length terms / width) terms)) new → HoldsSheets new (after x s)

-- The text writes a row over that of its key.
pub record Sets {X : Type 0} (text : List ℕ) (given : X → Row) (Fits : X → Type 0) (after : X → Sheets → Sheets) : Type 0 where
  pub at : ℕ
  pub table : Table
  pub body : Query
  pub is : command_of (understood bank_schema text) ≡ Update at (record { lets = []; body = body })
  pub plain : IsPlain (understood bank_schema text)
  pub there : slice_get bank_schema.tables at ≡ Some table
  pub sets_nothing_off : (olds news : List Row) → works bank_schema Enforced 0 table.tree olds news ≡ []
  pub leaves : (old new : Trees) (s : Sheets) (x : X) (rows : List Row) → Fits x → HoldsSheets old s → IsProgramAnswer [] body old (given x) rows
      → Applies bank_schema Enforced old (edit_of old table (ids_of rows) Given 1 rows) new → HoldsSheets new (after x s)

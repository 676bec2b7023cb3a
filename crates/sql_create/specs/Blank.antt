-- Tables that hold no rows.
use Rattle.std.specs.Prelude.{◌≡◌, ℕ, [], take}
use Rattle.std.specs.List.{AllByRecursion}
use Rattle.sqlite.specs.Effect.{Database}
use Rattle.sqlite.specs.Schema.{Schema}
use Rattle.sqlite.specs.Table.{Table}
use Rattle.book_kept.specs.Sheets.{Sheets}
use Rattle.sql_schema.specs.Schema.{bank_schema}

-- no table, no index and no view
abbrev pub no_schema : Schema
no_schema = record { tables = []; indexes = []; views = [] }

-- the first n tables of a bank's file, and the first m of its indexes
abbrev pub begun : ℕ → ℕ → Schema
begun tables indexes = record { tables = take tables bank_schema.tables; indexes = take indexes bank_schema.indexes; views = [] }

-- its tables are these, and have no rows
pub record IsBlank (schema : Schema) (db : Database) : Type 0 where
  pub schema_is : db.schema ≡ schema
  pub empty : AllByRecursion (λ (t : Table). db.trees t.tree ≡ []) schema.tables

-- no rows but that of the bank, with this version of the policy
abbrev pub bare : ℕ → Sheets
bare version = record {
  branches = [];
  tellers = [];
  accounts = [];
  entries = [];
  lines = [];
  proofs = [];
  releases = [];
  slips = [];
  slip_counts = [];
  users = [];
  sets = [];
  members = [];
  relations = [];
  triples = [];
  certifiers = [];
  version = version;
}

-- A file of a schema version of which only the first tables are left.
use Rattle.std.specs.Prelude.{◌≡◌, ◌++◌, ℕ, List, [], codes, drop, take}
use Rattle.sqlite.specs.Effect.{Database}
use Rattle.sqlite.specs.Schema.{Schema}
use Rattle.sql_schema.specs.Schema.{last_indexes_of, schema_of}
use Rattle.sql_schema.specs.declared.edition.Edition.{Edition}
use Rattle.sql_schema.specs.declared.edition.Edition.TheVariants.{First, Second, Third}

-- The first `tables` tables, and the first `indexes` of the indexes of their keys. Of the two indexes for look-ups, if
-- the schema version has them, the first `gone` are gone.
abbrev pub left : Edition → ℕ → ℕ → ℕ → Schema
left e tables indexes gone = record { tables = take tables (schema_of e).tables; indexes = take indexes (schema_of e).indexes ++ drop gone (take 2 (last_indexes_of e)); views = [] }

-- these are its tables, whatever stands in them
abbrev pub HasSchema : Schema → Database → Type 0
HasSchema schema db = db.schema ≡ schema

-- what takes away the table of the triples
abbrev pub triples_text : Edition → List ℕ
triples_text First = codes "DROP TABLE triples"
triples_text Second = codes "DROP TABLE grants"
triples_text Third = codes "DROP TABLE grants"

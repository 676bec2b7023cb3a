-- The tables of a bank's file in each schema version: each as the text of its definition makes it.
use Rattle.std.specs.Prelude.{ℕ, true, false, List, [], ◌∷◌, Some, None, codes, map}
use Rattle.sqlite.specs.Collation.TheVariants.{Binary}
use Rattle.sqlite.specs.declared.types.Value.TheVariants.{Null}
use Rattle.sqlite.specs.Kind.TheVariants.{Blob, Integer, Text}
use Rattle.sqlite.specs.Schema.{Schema}
use Rattle.sqlite.specs.Table.{Table}
use Rattle.sqlite_schema.specs.declared.schema.Action.TheVariants.{Cascade, NoAction}
use Rattle.sqlite_schema.specs.declared.schema.Column.{Column}
use Rattle.sqlite_schema.specs.declared.schema.Index.{Index}
use Rattle.sqlite_schema.specs.declared.schema.Reference.{Reference}
use Rattle.sqlite_value.specs.Keys.{plain}
use Rattle.sql_schema.specs.declared.edition.Edition.{Edition}
use Rattle.sql_schema.specs.declared.edition.Edition.TheVariants.{First, Second, Third}

-- ---- forms of tables

-- a whole number, which is never missing
abbrev pub whole : List ℕ → Column
whole name = record { name = name; kind = Integer; is_strict = true; not_null = true; default = Null; collation = Binary }

-- a whole number that is the rowid of its row, under which the row is kept
abbrev pub rowid_key : List ℕ → Column
rowid_key name = record (whole name) { not_null = false }

abbrev pub text : List ℕ → Column
text name = record (whole name) { kind = Text }

-- bytes
abbrev pub bytes : List ℕ → Column
bytes name = record (whole name) { kind = Blob }

-- a table whose key is its first column, the rowid
abbrev pub by_rowid : List ℕ → ℕ → List Column → Table
by_rowid name tree columns = record {
  name = name;
  tree = tree;
  columns = columns;
  key = Some 0;
  primary = 0 ∷ [];
  uniques = [];
  orders = [];
  checks = [];
  references = [];
  computed = [];
  stamps = record { places = []; terms = []; formats = [] };
  is_counted = false;
}

-- A table whose key is several columns, by place from 1: the first of the lists in which no two rows agree. Its rowids are its own.
abbrev pub by_columns : List ℕ → ℕ → List Column → List ℕ → List (List ℕ) → List Reference → Table
by_columns name tree columns primary others references = record {
  name = name;
  tree = tree;
  columns = columns;
  key = None;
  primary = primary;
  uniques = primary ∷ others;
  orders = map (λ _. plain) (primary ∷ others);
  checks = [];
  references = references;
  computed = [];
  stamps = record { places = []; terms = []; formats = [] };
  is_counted = false;
}

-- ---- the file itself: which version its schema has, and how often its policy was changed

abbrev pub bank_table : Table
bank_table = by_rowid (codes "bank") 0 (rowid_key (codes "id") ∷ whole (codes "version") ∷ whole (codes "policy") ∷ [])

-- ---- the policy

-- with how many releases each user was given
abbrev pub users_table : Table
users_table = by_rowid (codes "users") 1
    (rowid_key (codes "user_no") ∷ text (codes "name") ∷ whole (codes "officer") ∷ whole (codes "suspended") ∷ whole (codes "session") ∷ whole (codes "is_on")
    ∷ whole (codes "releases") ∷ [])

abbrev pub sets_table : Table
sets_table = by_rowid (codes "sets") 2 (rowid_key (codes "set_no") ∷ [])

abbrev pub members_table : Table
members_table = by_columns (codes "members") 3
    (whole (codes "set_no") ∷ whole (codes "place") ∷ whole (codes "kind") ∷ whole (codes "low") ∷ whole (codes "high") ∷ [])
    (1 ∷ 2 ∷ []) [] []

abbrev pub relations_table : Table
relations_table = by_columns (codes "relations") 5 (whole (codes "procedure") ∷ whole (codes "set_no") ∷ whole (codes "by_user") ∷ []) (1 ∷ 2 ∷ []) [] []

-- a triple is of a relation, and goes with it
abbrev pub to_relation : Reference
to_relation = record { columns = 2 ∷ 3 ∷ []; parent = codes "relations"; parent_columns = codes "procedure" ∷ codes "set_no" ∷ []; on_delete = Cascade; on_update = NoAction; is_deferred = false }

-- before triples had moments
abbrev pub triples_table : Table
triples_table = by_columns (codes "triples") 7
    (whole (codes "user_no") ∷ whole (codes "procedure") ∷ whole (codes "set_no") ∷ whole (codes "ceiling") ∷ [])
    (1 ∷ 2 ∷ 3 ∷ []) [] (to_relation ∷ [])

abbrev pub grants_table : Table
grants_table = by_columns (codes "grants") 7
    (whole (codes "user_no") ∷ whole (codes "procedure") ∷ whole (codes "set_no") ∷ whole (codes "ceiling") ∷ whole (codes "first_at") ∷ whole (codes "last_at") ∷ [])
    (1 ∷ 2 ∷ 3 ∷ []) [] (to_relation ∷ [])

abbrev pub certifiers_table : Table
certifiers_table = by_columns (codes "certifiers") 9 (whole (codes "user_no") ∷ whole (codes "procedure") ∷ []) (1 ∷ 2 ∷ []) [] []

-- ---- the books

-- from `balance` on, the numbers that its books give it
abbrev pub branches_table : Table
branches_table = by_rowid (codes "branches") 11
    (rowid_key (codes "branch") ∷ whole (codes "opening") ∷ whole (codes "cash") ∷ whole (codes "day")
    ∷ whole (codes "balance") ∷ whole (codes "vault") ∷ whole (codes "entries") ∷ whole (codes "lines") ∷ whole (codes "accounts") ∷ whole (codes "history") ∷ whole (codes "drawers")
    ∷ whole (codes "cash_entries") ∷ whole (codes "differences") ∷ [])

-- from `balance` on, the numbers that its books give it; holder 0 is nobody
abbrev pub tellers_table : Table
tellers_table = by_rowid (codes "tellers") 12
    (rowid_key (codes "teller") ∷ whole (codes "branch") ∷ whole (codes "opening") ∷ whole (codes "balance") ∷ whole (codes "cash") ∷ whole (codes "holder") ∷ [])

-- from `balance` on, the numbers that its entries give it
abbrev pub accounts_table : Table
accounts_table = by_rowid (codes "accounts") 13
    (rowid_key (codes "account") ∷ whole (codes "home") ∷ whole (codes "opening") ∷ whole (codes "floor") ∷ whole (codes "balance") ∷ whole (codes "turns") ∷ [])

-- with the balance of its account after it
abbrev pub entries_table : Table
entries_table = by_columns (codes "entries") 14
    (whole (codes "branch") ∷ whole (codes "number") ∷ whole (codes "account") ∷ whole (codes "turn") ∷ whole (codes "teller") ∷ whole (codes "delta") ∷ whole (codes "moment")
    ∷ whole (codes "day") ∷ whole (codes "user_no") ∷ whole (codes "form") ∷ whole (codes "partner") ∷ whole (codes "undoes") ∷ whole (codes "balance_after") ∷ [])
    (1 ∷ 2 ∷ []) ((3 ∷ 4 ∷ []) ∷ []) []

abbrev pub lines_table : Table
lines_table = by_columns (codes "lines") 17
    (whole (codes "branch") ∷ whole (codes "number") ∷ whole (codes "place") ∷ whole (codes "amount") ∷ whole (codes "form") ∷ whole (codes "moment") ∷ whole (codes "day")
    ∷ whole (codes "user_no") ∷ [])
    (1 ∷ 2 ∷ []) [] []

abbrev pub proofs_table : Table
proofs_table = by_columns (codes "proofs") 19
    (whole (codes "branch") ∷ whole (codes "day") ∷ whole (codes "entries") ∷ whole (codes "balance") ∷ whole (codes "cash") ∷ [])
    (1 ∷ 2 ∷ []) [] []

-- with the members of its operation, in the order in which the form names them, and 0 after the last
abbrev pub releases_table : Table
releases_table = by_columns (codes "releases") 21
    (whole (codes "user_no") ∷ whole (codes "number") ∷ whole (codes "giver") ∷ whole (codes "branch") ∷ whole (codes "day") ∷ whole (codes "form")
    ∷ whole (codes "member1") ∷ whole (codes "member2") ∷ whole (codes "member3") ∷ whole (codes "member4") ∷ whole (codes "member5") ∷ whole (codes "member6")
    ∷ whole (codes "member7") ∷ whole (codes "member8") ∷ whole (codes "used") ∷ [])
    (1 ∷ 2 ∷ []) [] []

-- with the members of its operation, and the bytes of what was replied
abbrev pub slips_table : Table
slips_table = by_columns (codes "slips") 25
    (whole (codes "user_no") ∷ whole (codes "slip") ∷ whole (codes "form")
    ∷ whole (codes "member1") ∷ whole (codes "member2") ∷ whole (codes "member3") ∷ whole (codes "member4") ∷ whole (codes "member5") ∷ whole (codes "member6")
    ∷ whole (codes "member7") ∷ whole (codes "member8") ∷ bytes (codes "reply") ∷ [])
    (1 ∷ 2 ∷ []) [] []

-- how many slips each user has
abbrev pub slip_counts_table : Table
slip_counts_table = by_rowid (codes "slip_counts") 27 (rowid_key (codes "user_no") ∷ whole (codes "slips") ∷ [])

-- ---- all of it

-- the index by which the columns of a key are kept apart
abbrev pub key_index : List ℕ → ℕ → ℕ → List ℕ → Index
key_index name tree table columns = record { name = name; tree = tree; table = table; columns = columns; order = plain; is_unique = true }

-- the table that differs from one schema version to another, and its index
abbrev pub triples_table_of : Edition → Table
triples_table_of First = triples_table
triples_table_of Second = grants_table
triples_table_of Third = grants_table

abbrev pub grants_index : Index
grants_index = key_index (codes "sqlite_autoindex_grants_1") 8 7 (1 ∷ 2 ∷ 3 ∷ [])

abbrev pub triples_index_of : Edition → Index
triples_index_of First = key_index (codes "sqlite_autoindex_triples_1") 8 7 (1 ∷ 2 ∷ 3 ∷ [])
triples_index_of Second = grants_index
triples_index_of Third = grants_index

-- the indexes of the keys of all other tables whose rowid is not their key
abbrev pub members_index : Index
members_index = key_index (codes "sqlite_autoindex_members_1") 4 3 (1 ∷ 2 ∷ [])

abbrev pub relations_index : Index
relations_index = key_index (codes "sqlite_autoindex_relations_1") 6 5 (1 ∷ 2 ∷ [])

abbrev pub certifiers_index : Index
certifiers_index = key_index (codes "sqlite_autoindex_certifiers_1") 10 9 (1 ∷ 2 ∷ [])

abbrev pub entries_index : Index
entries_index = key_index (codes "sqlite_autoindex_entries_1") 15 14 (1 ∷ 2 ∷ [])

abbrev pub turns_index : Index
turns_index = key_index (codes "sqlite_autoindex_entries_2") 16 14 (3 ∷ 4 ∷ [])

abbrev pub lines_index : Index
lines_index = key_index (codes "sqlite_autoindex_lines_1") 18 17 (1 ∷ 2 ∷ [])

abbrev pub proofs_index : Index
proofs_index = key_index (codes "sqlite_autoindex_proofs_1") 20 19 (1 ∷ 2 ∷ [])

abbrev pub releases_index : Index
releases_index = key_index (codes "sqlite_autoindex_releases_1") 22 21 (1 ∷ 2 ∷ [])

abbrev pub slips_index : Index
slips_index = key_index (codes "sqlite_autoindex_slips_1") 26 25 (1 ∷ 2 ∷ [])

-- the tables after all others, which the third schema version alone has
abbrev pub slip_tables_of : Edition → List Table
slip_tables_of First = []
slip_tables_of Second = []
slip_tables_of Third = slips_table ∷ slip_counts_table ∷ []

-- an index that keeps no rows apart, so that a look-up of its columns finds its rows without a walk
abbrev pub look_up_index : List ℕ → ℕ → ℕ → List ℕ → Index
look_up_index name tree table columns = record { name = name; tree = tree; table = table; columns = columns; order = plain; is_unique = false }

-- which entries of a branch correct one of it
abbrev pub entries_look_up : Index
entries_look_up = look_up_index (codes "entries_by_undoes") 23 14 (1 ∷ 12 ∷ [])

-- the tellers of a branch by their numbers
abbrev pub tellers_look_up : Index
tellers_look_up = look_up_index (codes "tellers_by_branch") 24 12 (2 ∷ 0 ∷ [])

-- the indexes after those that all schema versions have: those of look-ups, and that of the slips' key
abbrev pub last_indexes_of : Edition → List Index
last_indexes_of First = []
last_indexes_of Second = entries_look_up ∷ tellers_look_up ∷ []
last_indexes_of Third = entries_look_up ∷ tellers_look_up ∷ slips_index ∷ []

-- Trees are numbered as they are made: each table of the first schema version, followed by the indexes of its keys;
-- then the indexes of look-ups, and the tables of slips.
abbrev pub schema_of : Edition → Schema
schema_of e = record {
  tables = bank_table ∷ users_table ∷ sets_table ∷ members_table ∷ relations_table ∷ triples_table_of e ∷ certifiers_table
      ∷ branches_table ∷ tellers_table ∷ accounts_table ∷ entries_table ∷ lines_table ∷ proofs_table ∷ releases_table ∷ slip_tables_of e;
  indexes = members_index
      ∷ relations_index
      ∷ triples_index_of e
      ∷ certifiers_index
      ∷ entries_index
      ∷ turns_index
      ∷ lines_index
      ∷ proofs_index
      ∷ releases_index
      ∷ last_indexes_of e;
  views = [];
}

-- the schema version of the files that are made and adopted
abbrev pub newest : Edition
newest = Third

abbrev pub bank_schema : Schema
bank_schema = schema_of newest

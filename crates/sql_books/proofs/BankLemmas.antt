-- What the statements on the row of the bank do.
use Rattle.std.proofs.Common.{◌≡◌, ℕ, pos, List, Some, slice_get, [], ◌∷◌, map, drop, codes, true, false, Ok, refl, ap, arith, sym, ◌∙◌, subst}
use Rattle.std.proofs.lemmas.List.Sorted.{IsNonDecreasingBy-short, IsPermutation-refl}
use Rattle.sqlite.specs.Collation.TheVariants.{Binary}
use Rattle.sqlite.specs.Listing.{understood}
use Rattle.sqlite.specs.Term.{op2}
use Rattle.sqlite.proofs.Callers.{one_permutation}
use Rattle.sqlite_sql.specs.declared.ops.BinaryOp.TheVariants.{Compare}
use Rattle.sqlite_sql.specs.declared.ops.CompareOp.TheVariants.{Eq}
use Rattle.sqlite_tied.specs.Compute.{everything}
use Rattle.sqlite_value.specs.Order.{column}
use Rattle.sql_schema.specs.Cells.{bank_cells}
use Rattle.sql_schema.specs.Held.Sheet.{bank as in_bank}
use Rattle.sql_schema.specs.HeldRows.{HoldsRows}
use Rattle.sql_schema.specs.Schema.{bank_table}
use Rattle.sql_schema.proofs.FrameLemmas.{with_version}
use Rattle.sql_schema.proofs.TableNames.{Null, Int, Select, Update, reads_listing, Row, Executes, Shown, State, Term, col, lit, output, IsPlain, command_of, cast_row, id_in, rowid, Sheets, AnyRow, HoldsTables, all_of_it, bank_schema, nothing_set_off, pick, sets_row, alone, answered, no_limit, no_offset, one_equals, scan, cast_int, cast_null}
use Rattle.sql_books.specs.Texts.{set_version_text, version_text}

-- ---- one row, which its version alone determines

-- the key of the row, whatever its version is
abbrev only : ℕ → ℕ
only version = 1

abbrev Holds : List ℕ → List Row → Type 0
Holds = HoldsRows all_of_it bank_cells only AnyRow

held : (version : ℕ) (tree : List Row) → tree ≡ bank_cells version ∷ [] → Holds (version ∷ []) tree
held version tree is = subst (Holds (version ∷ [])) (sym is) (record {
  same = IsPermutation-refl _;
  ordered = record { in_order = IsNonDecreasingBy-short only (version ∷ []) (omega arith); distinct = (refl, tt) };
  fit = λ _ _. tt;
  shaped = ((tt, tt), (refl, tt));
})

all_of_them : (rows : List Row) → map all_of_it rows ≡ rows
all_of_them [] = refl
all_of_them (row ∷ rows) = ap (λ rest. row ∷ rest) (all_of_them rows)

stated : (version : ℕ) (tree : List Row) → Holds (version ∷ []) tree → tree ≡ bank_cells version ∷ []
stated version tree holds = sym (all_of_them tree) ∙ one_permutation (bank_cells version) (map all_of_it tree) holds.same

-- ---- SELECT

abbrev the_first : List Term
the_first = op2 (Compare Eq Binary) (col 1 0) (lit (Int (pos 1))) ∷ []

pub version_is : (command_of (understood bank_schema version_text) ≡ Select (record { lets = []; body = scan 0 the_first (col 1 3 ∷ []) [] no_limit no_offset }) (codes "policy" ∷ []))
    × (reads_listing bank_schema version_text ≡ false) × IsPlain (understood bank_schema version_text)
unfolding understood everything
version_is = (refl, refl, (refl, refl))

pub selects_version : (old new : State) (s : Sheets) (rows : List Row) → HoldsTables old.now s → Shown version_text [] old new rows → rows ≡ (Int (pos s.version) ∷ []) ∷ []
selects_version old new s rows holds h =
    alone all_of_it (λ c. c) bank_cells only AnyRow 0 (λ db. refl) the_first (col 1 3 ∷ []) [] no_limit no_offset [] (λ _. true)
    (λ r. (refl, refl)) (λ _. one_equals 1 1) old.now.trees (s.version ∷ []) rows (held s.version (old.now.trees 0) (holds.rows in_bank))
    (answered version_text _ (scan 0 the_first (col 1 3 ∷ []) [] no_limit no_offset) [] version_is.0 version_is.1 version_is.2 old new rows holds.schema h)
    (omega arith)

-- the version in that row
pub version_read : (row : Row) (rows : List Row) (version read : ℕ) → Some row ≡ slice_get rows 0 → rows ≡ (Int (pos version) ∷ []) ∷ [] → column row 0 ≡ Int (pos read) → read ≡ version
version_read row rows version read first are is =
    let one : Some row ≡ Some (Int (pos version) ∷ []) = first ∙ ap (λ rs. slice_get rs 0) are in
    let shown : row ≡ Int (pos version) ∷ [] = cc in
    let same : Int (pos version) ≡ Int (pos read) = sym (ap (λ r. column r 0) shown) ∙ is in
    cc

-- ---- UPDATE

abbrev set_version_columns : List Term
set_version_columns = col 1 0 ∷ col 1 0 ∷ lit Null ∷ col 1 2 ∷ col 0 0 ∷ []

pub set_version_is : (command_of (understood bank_schema set_version_text) ≡ Update 0 (record { lets = []; body = pick 0 the_first set_version_columns })) × IsPlain (understood bank_schema set_version_text)
unfolding understood everything
set_version_is = (refl, (refl, refl))

casts : (version : ℕ) → cast_row bank_table (bank_cells version) ≡ bank_cells version
casts version = rw (cast_int (pos 1), cast_null, cast_int (pos 3), cast_int (pos version)) refl

made : (version : ℕ) (r : Row) (old : ℕ) → r ≡ bank_cells old → only old ≡ only version → rowid r ≡ Int (id_in (rowid r))
    → cast_row bank_table (drop 1 (output (pick 0 the_first set_version_columns) ((Int (pos version) ∷ []) ∷ r ∷ [])).1) ≡ bank_cells version
made version r old is _ _ =
    subst (λ there. cast_row bank_table (drop 1 (output (pick 0 the_first set_version_columns) ((Int (pos version) ∷ []) ∷ there ∷ [])).1) ≡ bank_cells version) (sym is) (casts version)

pub sets_version : (old new : State) (s : Sheets) (version count : ℕ) → HoldsTables old.now s → Executes set_version_text (Int (pos version) ∷ []) old new (Ok count)
    → HoldsTables new.now (record s { version = version })
sets_version old new s version count holds h =
    let it = sets_row all_of_it (λ r. r) bank_cells only AnyRow 0 bank_table (λ db. refl) the_first set_version_columns set_version_text (Int (pos version) ∷ []) version
    set_version_is.0 set_version_is.1 refl (λ r. refl) (λ _ _. one_equals 1 1) (λ r. refl) (made version)
    (λ olds news. nothing_set_off 0 0 refl olds news) old new (s.version ∷ []) count holds.schema (held s.version (old.now.trees 0) (holds.rows in_bank)) tt h in
    record {
      schema = it.schema;
      sound = it.sound;
      rows = with_version old.now.trees new.now.trees s version holds.rows it.others (stated version (new.now.trees 0) it.rows);
    }

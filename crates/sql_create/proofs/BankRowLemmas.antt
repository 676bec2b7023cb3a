-- The row of the bank in tables that have no rows, and tables that hold it alone.
use Rattle.std.proofs.Common.{◌≡◌, ◌≢◌, ◌∙◌, ℕ, pos, List, [], ◌∷◌, ◌/◌, Contains, Ok, refl, ap, arith, sym, subst}
use Rattle.std.proofs.lemmas.List.Sorted.{IsNonDecreasingBy-short, IsPermutation-refl}
use Rattle.sqlite.specs.declared.types.Value.TheVariants.{Int, Null}
use Rattle.sqlite.specs.Command.TheVariants.{Insert}
use Rattle.sqlite.specs.Edit.{edit_of}
use Rattle.sqlite.specs.Effect.{value_rows}
use Rattle.sqlite.specs.Listing.{understood}
use Rattle.sqlite.specs.Order.{Row}
use Rattle.sqlite.specs.Rowids.TheVariants.{Chosen}
use Rattle.sqlite.specs.Source.TheVariants.{Values}
use Rattle.sqlite.specs.State.{Executes, State}
use Rattle.sqlite.specs.Table.{Table}
use Rattle.sqlite.specs.Term.{Term, col, lit}
use Rattle.sqlite.specs.Tree.{Trees}
use Rattle.sqlite.proofs.Callers.{IsPlain, command_of}
use Rattle.sqlite_tied.specs.Compute.{everything}
use Rattle.sqlite_trees.specs.Tree.{put_row}
use Rattle.std.specs.List.{AllByRecursion}
use Rattle.book_kept.specs.Sheets.{Sheets}
use Rattle.sql_schema.specs.Cells.{bank_cells}
use Rattle.sql_schema.specs.Held.{HoldsSheet, HoldsTables, Sheet, tree_of}
use Rattle.sql_schema.specs.Held.Sheet.{accounts, bank, branches, certifiers, entries, lines, members, proofs, relations, releases, sets, slip_counts, slips, tellers, triples, users}
use Rattle.sql_schema.specs.HeldRows.{HoldsRows}
use Rattle.sql_schema.specs.Schema.{bank_schema, bank_table}
use Rattle.sql_schema.proofs.FrameLemmas.{others}
use Rattle.sql_schema.proofs.InsertLemmas.{puts}
use Rattle.sql_schema.proofs.WriteLemmas.{cast_int, cast_null, inserts}
use Rattle.sql_create.specs.Blank.{IsBlank, bare}
use Rattle.sql_create.specs.Texts.{add_bank_text}

-- each table is empty
pub empty_sheet : (trees : Trees) → AllByRecursion (λ (t : Table). trees t.tree ≡ []) bank_schema.tables → (t : Sheet) → trees (tree_of t) ≡ []
empty_sheet trees h bank = h.0
empty_sheet trees h users = h.1.0
empty_sheet trees h sets = h.1.1.0
empty_sheet trees h members = h.1.1.1.0
empty_sheet trees h relations = h.1.1.1.1.0
empty_sheet trees h triples = h.1.1.1.1.1.0
empty_sheet trees h certifiers = h.1.1.1.1.1.1.0
empty_sheet trees h branches = h.1.1.1.1.1.1.1.0
empty_sheet trees h tellers = h.1.1.1.1.1.1.1.1.0
empty_sheet trees h accounts = h.1.1.1.1.1.1.1.1.1.0
empty_sheet trees h entries = h.1.1.1.1.1.1.1.1.1.1.0
empty_sheet trees h lines = h.1.1.1.1.1.1.1.1.1.1.1.0
empty_sheet trees h proofs = h.1.1.1.1.1.1.1.1.1.1.1.1.0
empty_sheet trees h releases = h.1.1.1.1.1.1.1.1.1.1.1.1.1.0
empty_sheet trees h slips = h.1.1.1.1.1.1.1.1.1.1.1.1.1.1.0
empty_sheet trees h slip_counts = h.1.1.1.1.1.1.1.1.1.1.1.1.1.1.1.0

no_rows : {X : Type 0} (shows : Row → Row) (cells : X → Row) (key : X → ℕ) (Fits : X → Type 0) → HoldsRows shows cells key Fits [] []
no_rows {X} shows cells key Fits = record {
  same = IsPermutation-refl _;
  ordered = record { in_order = IsNonDecreasingBy-short key [] (omega arith); distinct = tt };
  fit = λ x there. none x there;
  shaped = (tt, tt);
}
  where
    none : (x : X) → Contains [] x → Fits x
    none x (k, within, is) = absurd (omega (arith, within))

-- a table of the bank with no rows, but that of the bank itself
bare_sheet : (version : ℕ) (t : Sheet) → tree_of t ≢ 0 → HoldsSheet t (bare version) []
bare_sheet version bank other = absurd (other refl)
bare_sheet version users other = no_rows _ _ _ _
bare_sheet version sets other = no_rows _ _ _ _
bare_sheet version members other = no_rows _ _ _ _
bare_sheet version relations other = no_rows _ _ _ _
bare_sheet version triples other = no_rows _ _ _ _
bare_sheet version certifiers other = no_rows _ _ _ _
bare_sheet version branches other = no_rows _ _ _ _
bare_sheet version tellers other = no_rows _ _ _ _
bare_sheet version accounts other = no_rows _ _ _ _
bare_sheet version entries other = no_rows _ _ _ _
bare_sheet version lines other = no_rows _ _ _ _
bare_sheet version proofs other = no_rows _ _ _ _
bare_sheet version releases other = no_rows _ _ _ _
bare_sheet version slips other = no_rows _ _ _ _
bare_sheet version slip_counts other = no_rows _ _ _ _

abbrev add_bank_terms : List Term
add_bank_terms = lit (Int (pos 1)) ∷ lit Null ∷ lit (Int (pos 3)) ∷ col 0 0 ∷ []

pub add_bank_is : (command_of (understood bank_schema add_bank_text) ≡ Insert 0 (Values add_bank_terms 4)) × IsPlain (understood bank_schema add_bank_text)
unfolding understood everything
add_bank_is = (refl, (refl, refl))

news_are : (db : Trees) (version : ℕ) → (edit_of db bank_table [] Chosen 0 (value_rows (Int (pos version) ∷ []) 4 (4 / 4) add_bank_terms)).news ≡ bank_cells version ∷ []
news_are db version = rw (cast_int (pos 1), cast_null, cast_int (pos 3), cast_int (pos version)) refl

pub adds_bank : (old new : State) (version count : ℕ) → IsBlank bank_schema old.now → Executes add_bank_text (Int (pos version) ∷ []) old new (Ok count) → HoldsTables new.now (bare version)
adds_bank old new version count blank h =
    let it = inserts bank_schema add_bank_text (Int (pos version) ∷ []) 0 bank_table add_bank_terms 4 add_bank_is.0 add_bank_is.1 refl refl refl old new count blank.schema_is h in
    let put = puts bank_table (bank_cells version) (value_rows (Int (pos version) ∷ []) 4 (4 / 4) add_bank_terms) old.now.trees new.now.trees it.applies (news_are old.now.trees version) in
    let empty = empty_sheet old.now.trees blank.empty in
    let stays : (t : Sheet) → tree_of t ≢ 0 → HoldsSheet t (bare version) (new.now.trees (tree_of t)) =
    λ t apart. subst (HoldsSheet t (bare version)) (sym (others 0 old.now.trees new.now.trees it.applies.tables t apart ∙ empty t)) (bare_sheet version t apart) in
    record {
      schema = it.schema_is;
      sound = it.sound;
      rows = with_bank (bare version) new.now.trees (put.now ∙ ap (put_row (bank_cells version)) (empty bank)) stays;
    }
  where
    with_bank : (s : Sheets) (trees : Trees) → HoldsSheet bank s (trees 0) → ((t : Sheet) → tree_of t ≢ 0 → HoldsSheet t s (trees (tree_of t))) → (t : Sheet) → HoldsSheet t s (trees (tree_of t))
    with_bank s trees now stays bank = now
    with_bank s trees now stays t = stays t (λ e. omega (arith, e))

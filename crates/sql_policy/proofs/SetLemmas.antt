-- What the statements on the sets do.
use Rattle.std.proofs.Common.{◌≡◌, ◌/◌, ◌≤◌, ℕ, pos, List, [], ◌∷◌, map, filter, length, codes, true, false, Ok, refl, ap, sym, ◌∙◌, subst, ◌==◌}
use Rattle.sqlite_keyed.proofs.ListLemmas.{filter_all}
use Rattle.sqlite.specs.Listing.{understood}
use Rattle.sqlite_tied.specs.Compute.{everything}
use Rattle.sql_schema.specs.Cells.{set_cells}
use Rattle.sql_schema.specs.Held.{set_no}
use Rattle.sql_schema.specs.Held.Sheet.{sets as in_sets}
use Rattle.sql_schema.specs.Schema.{sets_table}
use Rattle.sql_schema.proofs.FrameLemmas.{with_sets}
use Rattle.sql_schema.specs.Shown.{shown_set}
use Rattle.sql_schema.proofs.TableNames.{find, length_permutation, all_of, Null, Int, Insert, Select, edit_of, value_rows, reads_listing, Row, Chosen, Values, Executes, Shown, State, Term, col, lit, Trees, IsPlain, command_of, add_row, IsFree, Sheets, AnyRow, HoldsTables, all_of_it, bank_schema, adds_by_rowid, apart_by_rowid, puts, one_of_key, alone, answered, answers, by_key, no_limit, no_offset, one_equals, rising_key, scan, cast_int, cast_null, inserts, at_most_one, few_mapped, length-mapped}
use Rattle.sql_policy.specs.Texts.{add_set_text, set_text, sets_text}

-- ---- SELECT

pub set_is : (command_of (understood bank_schema set_text) ≡ Select (record { lets = []; body = scan 2 by_key (col 1 0 ∷ []) [] no_limit no_offset }) (codes "set_no" ∷ []))
    × (reads_listing bank_schema set_text ≡ false) × IsPlain (understood bank_schema set_text)
unfolding understood everything
set_is = (refl, refl, (refl, refl))

pub sets_is : (command_of (understood bank_schema sets_text) ≡ Select (record { lets = []; body = scan 2 [] (col 1 0 ∷ []) ((col 1 0, rising_key) ∷ []) no_limit no_offset }) (codes "set_no" ∷ []))
    × (reads_listing bank_schema sets_text ≡ false) × IsPlain (understood bank_schema sets_text)
unfolding understood everything
sets_is = (refl, refl, (refl, refl))

pub selects_set : (old new : State) (s : Sheets) (set : ℕ) (rows : List Row) → HoldsTables old.now s → Shown set_text (Int (pos set) ∷ []) old new rows → rows ≡ map shown_set (filter (λ n. n == set) s.sets)
selects_set old new s set rows holds h =
    let params = Int (pos set) ∷ [] in
    let few = subst (λ l. length l ≤ 1) (sym (one_of_key set_no set s.sets (holds.rows in_sets).ordered.distinct)) (at_most_one (find (λ n. n == set) s.sets)) in
    alone all_of_it (λ c. c) set_cells set_no AnyRow 2 (λ db. refl) by_key (col 1 0 ∷ []) [] no_limit no_offset params (λ n. n == set)
    (λ r. (refl, refl)) (λ n. one_equals n set) old.now.trees s.sets rows (holds.rows in_sets)
    (answered set_text _ (scan 2 by_key (col 1 0 ∷ []) [] no_limit no_offset) params set_is.0 set_is.1 set_is.2 old new rows holds.schema h)
    (few_mapped _ (filter (λ n. n == set) s.sets) few)

-- as many rows as there are sets
pub counts_sets : (old new : State) (s : Sheets) (rows : List Row) → HoldsTables old.now s → Shown sets_text [] old new rows → length rows ≡ length s.sets
counts_sets old new s rows holds h =
    let it = answers all_of_it (λ c. c) set_cells set_no AnyRow 2 (λ db. refl) [] (col 1 0 ∷ []) ((col 1 0, rising_key) ∷ []) no_limit no_offset [] (λ n. true)
    (λ r. (refl, refl)) (λ n. refl) old.now.trees s.sets rows (holds.rows in_sets)
    (answered sets_text _ (scan 2 [] (col 1 0 ∷ []) ((col 1 0, rising_key) ∷ []) no_limit no_offset) [] sets_is.0 sets_is.1 sets_is.2 old new rows holds.schema h) in
    ap length it.3 ∙ length-mapped _ it.0 ∙ length_permutation _ it.0 it.1 ∙ length-mapped _ (filter (λ n. true) s.sets) ∙ ap length (filter_all (λ n. true) s.sets (all_of (λ n. true ≡ true) (λ n. refl) s.sets))

-- ---- INSERT

abbrev add_set_terms : List Term
add_set_terms = col 0 0 ∷ lit Null ∷ []

pub add_set_is : (command_of (understood bank_schema add_set_text) ≡ Insert 2 (Values add_set_terms 2)) × IsPlain (understood bank_schema add_set_text)
unfolding understood everything
add_set_is = (refl, (refl, refl))

news_are : (db : Trees) (n : ℕ) → (edit_of db sets_table [] Chosen 0 (value_rows (shown_set n) 2 (2 / 2) add_set_terms)).news ≡ set_cells n ∷ []
news_are db n = rw (cast_int (pos n), cast_null) refl

pub adds_set : (old new : State) (s : Sheets) (n : ℕ) (count : ℕ) → HoldsTables old.now s → Executes add_set_text (shown_set n) old new (Ok count)
    → HoldsTables new.now (record s { sets = add_row set_no n s.sets }) × IsFree set_no s.sets n
adds_set old new s n count holds h =
    let it = inserts bank_schema add_set_text (shown_set n) 2 sets_table add_set_terms 2 add_set_is.0 add_set_is.1 refl refl refl old new count holds.schema h in
    let put = puts sets_table (set_cells n) (value_rows (shown_set n) 2 (2 / 2) add_set_terms) old.now.trees new.now.trees it.applies (news_are old.now.trees n) in (
      record {
        schema = it.schema_is;
        sound = it.sound;
        rows = with_sets old.now.trees new.now.trees s (add_row set_no n s.sets) holds.rows it.applies.tables
            (adds_by_rowid set_cells set_no AnyRow sets_table (λ x. refl) old.now.trees new.now.trees n s.sets put tt (holds.rows in_sets));
      },
      apart_by_rowid set_cells set_no AnyRow (λ x. refl) n s.sets (old.now.trees 2) (holds.rows in_sets) put.free,
    )

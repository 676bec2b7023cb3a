-- What the statements on the relations do, but for the removal of one.
use Rattle.std.proofs.Common.{◌≡◌, ◌/◌, ◌<◌, ◌+◌, ◌*◌, ◌^◌, ◌≤◌, ℕ, pos, List, [], ◌∷◌, map, filter, drop, length, codes, true, false, Ok, refl, ap, arith, sym, ◌∙◌, subst, ◌==◌}
use Rattle.sqlite.specs.Listing.{understood}
use Rattle.sqlite_tied.specs.Compute.{everything}
use Rattle.sql_schema.specs.Schema.{relations_index}
use Rattle.sql_schema.proofs.NamedTables.{relations_index_there, relations_there}
use Rattle.sql_schema.proofs.FrameLemmas.{with_relations}
use Rattle.sql_schema.proofs.TableNames.{find, option_map, slice_get, eqb-true, Null, Int, Insert, Select, edit_of, value_rows, reads_listing, Row, Chosen, Values, Executes, Shown, State, Term, col, lit, Trees, output, IsPlain, command_of, next_rowid, agree, plain, add_row, number_of, relation_key, Relation, IsFree, Sheets, RelationFits, relation_cells, HoldsTables, in_relations, all_but_rowid, bank_schema, newest, relations_table, picked_alike, adds_by_columns, apart_by_index, parts_of, puts, two_agree, one_of_key, first_picked, alone, answered, by_one, by_two, in_order, no_limit, no_offset, one_equals, rises_by_one, rising_key, two_equal, passes, scan, cast_int, cast_null, inserts, at_most_one, few_mapped, two_parts}
use Rattle.sql_policy.specs.Tests.{is_relation_numbered, is_relation_on}
use Rattle.sql_policy.specs.Texts.{add_relation_text, relation_text, relations_text}

-- ---- SELECT

abbrev relation_columns : List Term
relation_columns = col 1 1 ∷ col 1 2 ∷ col 1 3 ∷ []

pub relation_is : (command_of (understood bank_schema relation_text) ≡ Select (record { lets = []; body = scan 5 by_two relation_columns [] no_limit no_offset }) (codes "procedure" ∷ codes "set_no" ∷ codes "by_user" ∷ []))
    × (reads_listing bank_schema relation_text ≡ false) × IsPlain (understood bank_schema relation_text)
unfolding understood everything
relation_is = (refl, refl, (refl, refl))

pub relations_is : (command_of (understood bank_schema relations_text) ≡ Select (record { lets = []; body = scan 5 by_one relation_columns ((col 1 2, rising_key) ∷ []) no_limit no_offset }) (codes "procedure" ∷ codes "set_no" ∷ codes "by_user" ∷ []))
    × (reads_listing bank_schema relations_text ≡ false) × IsPlain (understood bank_schema relations_text)
unfolding understood everything
relations_is = (refl, refl, (refl, refl))

relation_reads : (params r : Row) → (passes by_two params r ≡ passes by_two params (Null ∷ drop 1 r)) × (output (scan 5 by_two relation_columns [] no_limit no_offset) (params ∷ r ∷ []) ≡ output (scan 5 by_two relation_columns [] no_limit no_offset) (params ∷ (Null ∷ drop 1 r) ∷ []))
relation_reads params [] = (refl, refl)
relation_reads params (v ∷ r) = (refl, refl)

relations_reads : (params r : Row) → (passes by_one params r ≡ passes by_one params (Null ∷ drop 1 r)) × (output (scan 5 by_one relation_columns ((col 1 2, rising_key) ∷ []) no_limit no_offset) (params ∷ r ∷ []) ≡ output (scan 5 by_one relation_columns ((col 1 2, rising_key) ∷ []) no_limit no_offset) (params ∷ (Null ∷ drop 1 r) ∷ []))
relations_reads params [] = (refl, refl)
relations_reads params (v ∷ r) = (refl, refl)

set_rises : (a b m n : ℕ) → a ≡ m → 2 ^ 32 * a + b < 2 ^ 32 * m + n → b < n
set_rises a b m n p less = omega (arith, p, less)

pub selects_relations : (old new : State) (s : Sheets) (procedure : ℕ) (rows : List Row) → HoldsTables old.now s → Shown relations_text (Int (pos procedure) ∷ []) old new rows
    → rows ≡ map relation_cells (filter (is_relation_numbered procedure) s.relations)
selects_relations old new s procedure rows holds h =
    let params = Int (pos procedure) ∷ [] in
    in_order all_but_rowid (λ c. Null ∷ c) relation_cells relation_key RelationFits 5 (λ db. refl) by_one relation_columns ((col 1 2, rising_key) ∷ []) no_limit no_offset params (is_relation_numbered procedure)
    (relations_reads params) (λ x. one_equals (number_of x.procedure) procedure) old.now.trees s.relations rows (holds.rows in_relations)
    (answered relations_text _ (scan 5 by_one relation_columns ((col 1 2, rising_key) ∷ []) no_limit no_offset) params relations_is.0 relations_is.1 relations_is.2 old new rows holds.schema h)
    (λ x y p q less. rises_by_one x.set y.set (set_rises (number_of x.procedure) x.set (number_of y.procedure) y.set (eqb-true (number_of x.procedure) procedure p ∙ sym (eqb-true (number_of y.procedure) procedure q)) less))

-- ---- keys

-- a test by columns is one by key
pub by_number : (procedure set : ℕ) → set < 2 ^ 32 → (x : Relation) → RelationFits x → is_relation_on procedure set x ≡ (relation_key x == 2 ^ 32 * procedure + set)
by_number procedure set small x fit = two_parts (number_of x.procedure) x.set procedure set fit small

pub selects_relation : (old new : State) (s : Sheets) (procedure set : ℕ) (rows : List Row) → set < 2 ^ 32 → HoldsTables old.now s → Shown relation_text (Int (pos procedure) ∷ Int (pos set) ∷ []) old new rows
    → slice_get rows 0 ≡ option_map relation_cells (find (λ x. relation_key x == 2 ^ 32 * procedure + set) s.relations)
selects_relation old new s procedure set rows small holds h =
    let params = Int (pos procedure) ∷ Int (pos set) ∷ [] in
    let key = 2 ^ 32 * procedure + set in
    let alike = picked_alike all_but_rowid relation_cells relation_key RelationFits (is_relation_on procedure set) (λ x. relation_key x == key) s.relations (old.now.trees 5) (holds.rows in_relations) (by_number procedure set small) in
    ap (λ rs. slice_get rs 0)
    (alone all_but_rowid (λ c. Null ∷ c) relation_cells relation_key RelationFits 5 (λ db. refl) by_two relation_columns [] no_limit no_offset params (is_relation_on procedure set)
    (relation_reads params) (λ x. two_equal (number_of x.procedure) x.set procedure set) old.now.trees s.relations rows (holds.rows in_relations)
    (answered relation_text _ (scan 5 by_two relation_columns [] no_limit no_offset) params relation_is.0 relation_is.1 relation_is.2 old new rows holds.schema h)
    (few_mapped _ (filter (is_relation_on procedure set) s.relations) (subst (λ xs. length xs ≤ 1) (sym (alike ∙ one_of_key relation_key key s.relations (holds.rows in_relations).ordered.distinct)) (at_most_one (find (λ x. relation_key x == key) s.relations))))
    ∙ ap (map relation_cells) alike)
    ∙ first_picked relation_cells (λ x. relation_key x == key) s.relations

alike : (x y : Relation) → RelationFits x → RelationFits y → relation_key x ≡ relation_key y → agree plain (1 ∷ 2 ∷ []) (Null ∷ relation_cells x) (1 ∷ 2 ∷ []) (Null ∷ relation_cells y) ≡ true
alike x y p q same = let parts = parts_of (number_of x.procedure) x.set (number_of y.procedure) y.set p q same in two_agree plain (number_of x.procedure) x.set (number_of y.procedure) y.set parts.0 parts.1

-- ---- INSERT

abbrev add_relation_terms : List Term
add_relation_terms = lit Null ∷ col 0 0 ∷ col 0 1 ∷ col 0 2 ∷ []

pub add_relation_is : (command_of (understood bank_schema add_relation_text) ≡ Insert 4 (Values add_relation_terms 4)) × IsPlain (understood bank_schema add_relation_text)
unfolding understood everything
add_relation_is = (refl, (refl, refl))

blind : (r s : Row) → agree plain (1 ∷ 2 ∷ []) r (1 ∷ 2 ∷ []) s ≡ agree plain (1 ∷ 2 ∷ []) (Null ∷ drop 1 r) (1 ∷ 2 ∷ []) (Null ∷ drop 1 s)
blind [] [] = refl
blind [] (y ∷ s) = refl
blind (x ∷ r) [] = refl
blind (x ∷ r) (y ∷ s) = refl

-- the row that an INSERT makes, by the rows that are there
abbrev new_relation : List Row → Relation → Row
new_relation rows r = Int (next_rowid rows) ∷ relation_cells r

news_are : (db : Trees) (r : Relation) → (edit_of db relations_table [] Chosen 0 (value_rows (relation_cells r) 4 (4 / 4) add_relation_terms)).news ≡ new_relation (db 5) r ∷ []
news_are db r = rw (cast_null, cast_int (pos (number_of r.procedure)), cast_int (pos r.set), cast_int (pos r.by)) refl

pub adds_relation : (old new : State) (s : Sheets) (r : Relation) (count : ℕ) → RelationFits r → HoldsTables old.now s → Executes add_relation_text (relation_cells r) old new (Ok count)
    → HoldsTables new.now (record s { relations = add_row relation_key r s.relations }) × IsFree relation_key s.relations (relation_key r)
adds_relation old new s r count fit holds h =
    let it = inserts bank_schema add_relation_text (relation_cells r) 4 relations_table add_relation_terms 4 add_relation_is.0 add_relation_is.1 refl refl refl old new count holds.schema h in
    let row = new_relation (old.now.trees 5) r in
    let put = puts relations_table row (value_rows (relation_cells r) 4 (4 / 4) add_relation_terms) old.now.trees new.now.trees it.applies (news_are old.now.trees r) in
    let free = apart_by_index relation_cells relation_key RelationFits relations_table relations_index (relations_there newest) (relations_index_there newest) refl blind alike
    old.now.trees new.now.trees row r s.relations put refl fit (holds.rows in_relations) in (
      record {
        schema = it.schema_is;
        sound = it.sound;
        rows = with_relations old.now.trees new.now.trees s (add_row relation_key r s.relations) holds.rows it.applies.tables
            (adds_by_columns relation_cells relation_key RelationFits relations_table old.now.trees new.now.trees row r s.relations put refl fit free (holds.rows in_relations));
      },
      free,
    )

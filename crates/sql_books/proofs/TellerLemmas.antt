-- What the statements on the tellers do.
use Rattle.std.proofs.Common.{◌≡◌, ◌/◌, ℕ, pos, List, [], ◌∷◌, map, filter, take, drop, codes, false, Ok, refl, ap, sym, ◌∙◌, subst, ◌==◌}
use Rattle.sqlite.specs.Listing.{understood}
use Rattle.sqlite_tied.specs.Compute.{everything}
use Rattle.book_kept.specs.declared.records.KeptTeller.{KeptTeller}
use Rattle.book_kept.specs.Sheets.{teller_no}
use Rattle.sql_schema.specs.Cells.{teller_cells}
use Rattle.sql_schema.specs.Held.Sheet.{tellers as in_tellers}
use Rattle.sql_schema.specs.Schema.{tellers_table}
use Rattle.sql_schema.proofs.FrameLemmas.{with_tellers}
use Rattle.sql_schema.proofs.ReadLemmas.{is_above}
use Rattle.sql_schema.proofs.PickedRows.{equal_and_above}
use Rattle.sql_schema.proofs.TableNames.{Null, Int, Insert, Select, Update, edit_of, value_rows, reads_listing, Row, Chosen, Values, Executes, Shown, State, Term, col, lit, Trees, output, IsPlain, command_of, cast_row, id_in, rowid, add_row, IsFree, Sheets, set_row, AnyRow, HoldsTables, all_of_it, bank_schema, nothing_set_off, adds_by_rowid, apart_by_rowid, puts, pick, sets_row, alone, answered, by_key, in_order, is_given, no_limit, no_offset, one_equals, rises_by_one, rising_key, scan, cast_int, cast_null, inserts, few_of_key, first_alone}
use Rattle.sql_books.specs.Picks.{is_teller_after, is_teller_of}
use Rattle.sql_schema.specs.Shown.{shown_teller}
use Rattle.sql_books.specs.Texts.{teller_text, add_teller_text, set_teller_text, roster_text, next_teller_text}

-- ---- SELECT

abbrev teller_columns : List Term
teller_columns = col 1 0 ∷ col 1 2 ∷ col 1 3 ∷ col 1 4 ∷ col 1 5 ∷ col 1 6 ∷ []

pub teller_is : (command_of (understood bank_schema teller_text) ≡ Select (record { lets = []; body = scan 12 by_key teller_columns [] no_limit no_offset }) (codes "teller" ∷ codes "branch" ∷ codes "opening" ∷ codes "balance" ∷ codes "cash" ∷ codes "holder" ∷ []))
    × (reads_listing bank_schema teller_text ≡ false) × IsPlain (understood bank_schema teller_text)
unfolding understood everything
teller_is = (refl, refl, (refl, refl))

pub selects_teller : (old new : State) (s : Sheets) (key : ℕ) (rows : List Row) → HoldsTables old.now s → Shown teller_text (Int (pos key) ∷ []) old new rows
    → rows ≡ map shown_teller (filter (λ t. teller_no t == key) s.tellers)
selects_teller old new s key rows holds h =
    let params = Int (pos key) ∷ [] in
    alone all_of_it (λ c. c) teller_cells teller_no AnyRow 12 (λ db. refl) by_key teller_columns [] no_limit no_offset params (λ t. teller_no t == key)
    (λ r. (refl, refl)) (λ t. one_equals (teller_no t) key) old.now.trees s.tellers rows (holds.rows in_tellers)
    (answered teller_text _ (scan 12 by_key teller_columns [] no_limit no_offset) params teller_is.0 teller_is.1 teller_is.2 old new rows holds.schema h)
    (few_of_key _ teller_no key s.tellers (holds.rows in_tellers).ordered.distinct)

abbrev of_branch : List Term
of_branch = is_given 2 0 ∷ []

pub roster_is : (command_of (understood bank_schema roster_text) ≡ Select (record { lets = []; body = scan 12 of_branch teller_columns ((col 1 0, rising_key) ∷ []) no_limit no_offset }) (codes "teller" ∷ codes "branch" ∷ codes "opening" ∷ codes "balance" ∷ codes "cash" ∷ codes "holder" ∷ []))
    × (reads_listing bank_schema roster_text ≡ false) × IsPlain (understood bank_schema roster_text)
unfolding understood everything
roster_is = (refl, refl, (refl, refl))

pub selects_roster : (old new : State) (s : Sheets) (branch : ℕ) (rows : List Row) → HoldsTables old.now s → Shown roster_text (Int (pos branch) ∷ []) old new rows
    → rows ≡ map shown_teller (filter (is_teller_of branch) s.tellers)
selects_roster old new s branch rows holds h =
    let params = Int (pos branch) ∷ [] in
    in_order all_of_it (λ c. c) teller_cells teller_no AnyRow 12 (λ db. refl) of_branch teller_columns ((col 1 0, rising_key) ∷ []) no_limit no_offset params (is_teller_of branch)
    (λ r. (refl, refl)) (λ t. one_equals t.row.branch branch) old.now.trees s.tellers rows (holds.rows in_tellers)
    (answered roster_text _ (scan 12 of_branch teller_columns ((col 1 0, rising_key) ∷ []) no_limit no_offset) params roster_is.0 roster_is.1 roster_is.2 old new rows holds.schema h)
    (λ x y _ _ less. rises_by_one (teller_no x) (teller_no y) less)

abbrev of_branch_above : List Term
of_branch_above = is_given 2 0 ∷ is_above 0 1 ∷ []

pub next_teller_is : (command_of (understood bank_schema next_teller_text) ≡ Select (record { lets = []; body = scan 12 of_branch_above teller_columns ((col 1 0, rising_key) ∷ []) first_alone no_offset }) (codes "teller" ∷ codes "branch" ∷ codes "opening" ∷ codes "balance" ∷ codes "cash" ∷ codes "holder" ∷ []))
    × (reads_listing bank_schema next_teller_text ≡ false) × IsPlain (understood bank_schema next_teller_text)
unfolding understood everything
next_teller_is = (refl, refl, (refl, refl))

pub selects_next_teller : (old new : State) (s : Sheets) (branch after : ℕ) (rows : List Row) → HoldsTables old.now s → Shown next_teller_text (Int (pos branch) ∷ Int (pos after) ∷ []) old new rows
    → rows ≡ take 1 (map shown_teller (filter (is_teller_after branch after) s.tellers))
selects_next_teller old new s branch after rows holds h =
    let params = Int (pos branch) ∷ Int (pos after) ∷ [] in
    in_order all_of_it (λ c. c) teller_cells teller_no AnyRow 12 (λ db. refl) of_branch_above teller_columns ((col 1 0, rising_key) ∷ []) first_alone no_offset params (is_teller_after branch after)
    (λ r. (refl, refl)) (λ t. equal_and_above t.row.branch (teller_no t) branch after) old.now.trees s.tellers rows (holds.rows in_tellers)
    (answered next_teller_text _ (scan 12 of_branch_above teller_columns ((col 1 0, rising_key) ∷ []) first_alone no_offset) params next_teller_is.0 next_teller_is.1 next_teller_is.2 old new rows holds.schema h)
    (λ x y _ _ less. rises_by_one (teller_no x) (teller_no y) less)

-- ---- INSERT

abbrev add_teller_terms : List Term
add_teller_terms = col 0 0 ∷ lit Null ∷ col 0 1 ∷ col 0 2 ∷ col 0 3 ∷ col 0 4 ∷ col 0 5 ∷ []

pub add_teller_is : (command_of (understood bank_schema add_teller_text) ≡ Insert 8 (Values add_teller_terms 7)) × IsPlain (understood bank_schema add_teller_text)
unfolding understood everything
add_teller_is = (refl, (refl, refl))

news_are : (db : Trees) (t : KeptTeller) → (edit_of db tellers_table [] Chosen 0 (value_rows (shown_teller t) 7 (7 / 7) add_teller_terms)).news ≡ teller_cells t ∷ []
news_are db t = rw (cast_int (pos t.row.teller), cast_null, cast_int (pos t.row.branch), cast_int t.row.opening, cast_int t.balance, cast_int t.cash, cast_int (pos t.holder)) refl

pub adds_teller : (old new : State) (s : Sheets) (t : KeptTeller) (count : ℕ) → HoldsTables old.now s → Executes add_teller_text (shown_teller t) old new (Ok count)
    → HoldsTables new.now (record s { tellers = add_row teller_no t s.tellers }) × IsFree teller_no s.tellers (teller_no t)
adds_teller old new s t count holds h =
    let it = inserts bank_schema add_teller_text (shown_teller t) 8 tellers_table add_teller_terms 7 add_teller_is.0 add_teller_is.1 refl refl refl old new count holds.schema h in
    let put = puts tellers_table (teller_cells t) (value_rows (shown_teller t) 7 (7 / 7) add_teller_terms) old.now.trees new.now.trees it.applies (news_are old.now.trees t) in (
      record {
        schema = it.schema_is;
        sound = it.sound;
        rows = with_tellers old.now.trees new.now.trees s (add_row teller_no t s.tellers) holds.rows it.applies.tables
            (adds_by_rowid teller_cells teller_no AnyRow tellers_table (λ x. refl) old.now.trees new.now.trees t s.tellers put tt (holds.rows in_tellers));
      },
      apart_by_rowid teller_cells teller_no AnyRow (λ x. refl) t s.tellers (old.now.trees 12) (holds.rows in_tellers) put.free,
    )

-- ---- UPDATE

abbrev set_teller_columns : List Term
set_teller_columns = col 1 0 ∷ col 1 0 ∷ lit Null ∷ col 0 1 ∷ col 0 2 ∷ col 0 3 ∷ col 0 4 ∷ col 0 5 ∷ []

pub set_teller_is : (command_of (understood bank_schema set_teller_text) ≡ Update 8 (record { lets = []; body = pick 12 by_key set_teller_columns })) × IsPlain (understood bank_schema set_teller_text)
unfolding understood everything
set_teller_is = (refl, (refl, refl))

casts : (t : KeptTeller) → cast_row tellers_table (teller_cells t) ≡ teller_cells t
casts t = rw (cast_int (pos t.row.teller), cast_null, cast_int (pos t.row.branch), cast_int t.row.opening, cast_int t.balance, cast_int t.cash, cast_int (pos t.holder)) refl

made : (t : KeptTeller) (r : Row) (x : KeptTeller) → r ≡ teller_cells x → teller_no x ≡ teller_no t → rowid r ≡ Int (id_in (rowid r))
    → cast_row tellers_table (drop 1 (output (pick 12 by_key set_teller_columns) (shown_teller t ∷ r ∷ [])).1) ≡ teller_cells t
made t r x is same _ =
    subst (λ there. cast_row tellers_table (drop 1 (output (pick 12 by_key set_teller_columns) (shown_teller t ∷ there ∷ [])).1) ≡ teller_cells t) (sym is)
    (ap (λ key. cast_row tellers_table (Int (pos key) ∷ drop 1 (teller_cells t))) same ∙ casts t)

pub sets_teller : (old new : State) (s : Sheets) (t : KeptTeller) (count : ℕ) → HoldsTables old.now s → Executes set_teller_text (shown_teller t) old new (Ok count)
    → HoldsTables new.now (record s { tellers = set_row teller_no t s.tellers })
sets_teller old new s t count holds h =
    let it = sets_row all_of_it (λ r. r) teller_cells teller_no AnyRow 8 tellers_table (λ db. refl) by_key set_teller_columns set_teller_text (shown_teller t) t
    set_teller_is.0 set_teller_is.1 refl (λ r. refl) (λ x _. one_equals (teller_no x) (teller_no t)) (λ r. refl) (made t)
    (λ olds news. nothing_set_off 0 12 refl olds news) old new s.tellers count holds.schema (holds.rows in_tellers) tt h in
    record {
      schema = it.schema;
      sound = it.sound;
      rows = with_tellers old.now.trees new.now.trees s (set_row teller_no t s.tellers) holds.rows it.others it.rows;
    }

-- What the statements on the entries do.
use Rattle.std.proofs.Common.{◌≡◌, ◌/◌, ◌<◌, ◌^◌, ℕ, pos, List, [], ◌∷◌, map, filter, take, drop, length, codes, true, false, Ok, refl, ap, ◌∙◌}
use Rattle.std.proofs.lemmas.List.Sorted.{length_permutation}
use Rattle.sqlite.specs.Listing.{understood}
use Rattle.sqlite_tied.specs.Compute.{everything}
use Rattle.sqlite_value.specs.declared.keys.Key.{Key}
use Rattle.bank_books.specs.declared.records.EntryRecord.{EntryRecord}
use Rattle.sql_schema.specs.Numbers.{entry_form_number}
use Rattle.book_kept.specs.Sheets.{entry_no}
use Rattle.sql_schema.specs.Cells.{EntryFits, entry_cells}
use Rattle.sql_schema.specs.Held.Sheet.{entries as in_entries}
use Rattle.sql_schema.specs.HeldRows.{all_but_rowid}
use Rattle.sql_schema.specs.Schema.{entries_index, entries_table}
use Rattle.sql_schema.proofs.NamedTables.{entries_index_there, entries_there}
use Rattle.sql_schema.proofs.FrameLemmas.{with_entries}
use Rattle.sql_schema.proofs.KeyTests.{length-mapped}
use Rattle.sql_schema.proofs.ReadLemmas.{answers, by_two, in_order_of_fitting, rises_by_two, two_equal}
use Rattle.sql_schema.proofs.ScanLemmas.{passes}
use Rattle.sql_schema.proofs.PickedRows.{few_of_parts}
use Rattle.sql_schema.proofs.TableNames.{Null, Int, Insert, Select, edit_of, value_rows, reads_listing, Row, Chosen, Values, Executes, Shown, State, Term, col, lit, Trees, output, IsPlain, command_of, next_rowid, agree, plain, add_row, IsFree, Sheets, HoldsTables, bank_schema, newest, adds_by_columns, apart_by_index, parts_of, puts, two_agree, alone, answered, is_given, no_limit, no_offset, rising_key, scan, cast_int, cast_null, inserts, first_alone}
use Rattle.sql_books.specs.Picks.{is_entry, is_entry_at, undoes_entry}
use Rattle.sql_books.specs.Texts.{entry_text, add_entry_text, turn_text, undoing_text}

-- ---- SELECT

abbrev entry_columns : List Term
entry_columns = col 1 1 ∷ col 1 2 ∷ col 1 3 ∷ col 1 4 ∷ col 1 5 ∷ col 1 6 ∷ col 1 7 ∷ col 1 8 ∷ col 1 9 ∷ col 1 10 ∷ col 1 11 ∷ col 1 12 ∷ col 1 13 ∷ []

pub entry_is : (command_of (understood bank_schema entry_text) ≡ Select (record { lets = []; body = scan 14 by_two entry_columns [] no_limit no_offset }) (codes "branch" ∷ codes "number" ∷ codes "account" ∷ codes "turn" ∷ codes "teller" ∷ codes "delta" ∷ codes "moment" ∷ codes "day" ∷ codes "user_no" ∷ codes "form" ∷ codes "partner" ∷ codes "undoes" ∷ codes "balance_after" ∷ []))
    × (reads_listing bank_schema entry_text ≡ false) × IsPlain (understood bank_schema entry_text)
unfolding understood everything
entry_is = (refl, refl, (refl, refl))

entry_reads : (params r : Row) → (passes by_two params r ≡ passes by_two params (Null ∷ drop 1 r))
    × (output (scan 14 by_two entry_columns [] no_limit no_offset) (params ∷ r ∷ []) ≡ output (scan 14 by_two entry_columns [] no_limit no_offset) (params ∷ (Null ∷ drop 1 r) ∷ []))
entry_reads params [] = (refl, refl)
entry_reads params (c ∷ r) = (refl, refl)

pub selects_entry : (old new : State) (s : Sheets) (branch number : ℕ) (rows : List Row) → number < 2 ^ 32 → HoldsTables old.now s → Shown entry_text (Int (pos branch) ∷ Int (pos number) ∷ []) old new rows
    → rows ≡ map entry_cells (filter (is_entry branch number) s.entries)
selects_entry old new s branch number rows small holds h =
    let params = Int (pos branch) ∷ Int (pos number) ∷ [] in
    alone all_but_rowid (λ c. Null ∷ c) entry_cells entry_no EntryFits 14 (λ db. refl) by_two entry_columns [] no_limit no_offset params (is_entry branch number)
    (entry_reads params) (λ e. two_equal e.row.branch e.row.number branch number) old.now.trees s.entries rows (holds.rows in_entries)
    (answered entry_text _ (scan 14 by_two entry_columns [] no_limit no_offset) params entry_is.0 entry_is.1 entry_is.2 old new rows holds.schema h)
    (few_of_parts _ entry_cells entry_no EntryFits (λ e. e.row.branch) (λ e. e.row.number) (λ e. refl) (λ e fit. fit) branch number small s.entries (old.now.trees 14) (holds.rows in_entries))

-- ---- SELECT by the turn of an account

abbrev by_turn : List Term
by_turn = is_given 3 0 ∷ is_given 4 1 ∷ []

abbrev in_order_of_key : List (Term × Key)
in_order_of_key = (col 1 1, rising_key) ∷ (col 1 2, rising_key) ∷ []

pub turn_is : (command_of (understood bank_schema turn_text) ≡ Select (record { lets = []; body = scan 14 by_turn entry_columns in_order_of_key first_alone no_offset }) (codes "branch" ∷ codes "number" ∷ codes "account" ∷ codes "turn" ∷ codes "teller" ∷ codes "delta" ∷ codes "moment" ∷ codes "day" ∷ codes "user_no" ∷ codes "form" ∷ codes "partner" ∷ codes "undoes" ∷ codes "balance_after" ∷ []))
    × (reads_listing bank_schema turn_text ≡ false) × IsPlain (understood bank_schema turn_text)
unfolding understood everything
turn_is = (refl, refl, (refl, refl))

turn_reads : (params r : Row) → (passes by_turn params r ≡ passes by_turn params (Null ∷ drop 1 r))
    × (output (scan 14 by_turn entry_columns in_order_of_key first_alone no_offset) (params ∷ r ∷ []) ≡ output (scan 14 by_turn entry_columns in_order_of_key first_alone no_offset) (params ∷ (Null ∷ drop 1 r) ∷ []))
turn_reads params [] = (refl, refl)
turn_reads params (c ∷ r) = (refl, refl)

pub selects_turn : (old new : State) (s : Sheets) (account turn : ℕ) (rows : List Row) → HoldsTables old.now s → Shown turn_text (Int (pos account) ∷ Int (pos turn) ∷ []) old new rows
    → rows ≡ take 1 (map entry_cells (filter (is_entry_at account turn) s.entries))
selects_turn old new s account turn rows holds h =
    let params = Int (pos account) ∷ Int (pos turn) ∷ [] in
    in_order_of_fitting all_but_rowid (λ c. Null ∷ c) entry_cells entry_no EntryFits 14 (λ db. refl) by_turn entry_columns in_order_of_key first_alone no_offset params (is_entry_at account turn)
    (turn_reads params) (λ e. two_equal e.row.account e.row.turn account turn) old.now.trees s.entries rows (holds.rows in_entries)
    (answered turn_text _ (scan 14 by_turn entry_columns in_order_of_key first_alone no_offset) params turn_is.0 turn_is.1 turn_is.2 old new rows holds.schema h)
    (λ x y p q less. rises_by_two x.row.branch x.row.number y.row.branch y.row.number p q less)

-- ---- SELECT of what undoes an entry

abbrev by_undone : List Term
by_undone = is_given 1 0 ∷ is_given 12 1 ∷ []

pub undoing_is : (command_of (understood bank_schema undoing_text) ≡ Select (record { lets = []; body = scan 14 by_undone (col 1 2 ∷ []) [] no_limit no_offset }) (codes "number" ∷ []))
    × (reads_listing bank_schema undoing_text ≡ false) × IsPlain (understood bank_schema undoing_text)
unfolding understood everything
undoing_is = (refl, refl, (refl, refl))

undoing_reads : (params r : Row) → (passes by_undone params r ≡ passes by_undone params (Null ∷ drop 1 r))
    × (output (scan 14 by_undone (col 1 2 ∷ []) [] no_limit no_offset) (params ∷ r ∷ []) ≡ output (scan 14 by_undone (col 1 2 ∷ []) [] no_limit no_offset) (params ∷ (Null ∷ drop 1 r) ∷ []))
undoing_reads params [] = (refl, refl)
undoing_reads params (c ∷ r) = (refl, refl)

-- as many rows as there are such entries
pub counts_undoing : (old new : State) (s : Sheets) (branch number : ℕ) (rows : List Row) → HoldsTables old.now s → Shown undoing_text (Int (pos branch) ∷ Int (pos number) ∷ []) old new rows
    → length rows ≡ length (filter (undoes_entry branch number) s.entries)
counts_undoing old new s branch number rows holds h =
    let params = Int (pos branch) ∷ Int (pos number) ∷ [] in
    let it = answers all_but_rowid (λ c. Null ∷ c) entry_cells entry_no EntryFits 14 (λ db. refl) by_undone (col 1 2 ∷ []) [] no_limit no_offset params (undoes_entry branch number)
    (undoing_reads params) (λ e. two_equal e.row.branch e.row.undoes branch number) old.now.trees s.entries rows (holds.rows in_entries)
    (answered undoing_text _ (scan 14 by_undone (col 1 2 ∷ []) [] no_limit no_offset) params undoing_is.0 undoing_is.1 undoing_is.2 old new rows holds.schema h) in
    ap length it.3 ∙ length-mapped _ it.0 ∙ length_permutation _ it.0 it.1 ∙ length-mapped _ (filter (undoes_entry branch number) s.entries)

-- ---- INSERT

abbrev add_entry_terms : List Term
add_entry_terms = lit Null ∷ col 0 0 ∷ col 0 1 ∷ col 0 2 ∷ col 0 3 ∷ col 0 4 ∷ col 0 5 ∷ col 0 6 ∷ col 0 7 ∷ col 0 8 ∷ col 0 9 ∷ col 0 10 ∷ col 0 11 ∷ col 0 12 ∷ []

pub add_entry_is : (command_of (understood bank_schema add_entry_text) ≡ Insert 10 (Values add_entry_terms 14)) × IsPlain (understood bank_schema add_entry_text)
unfolding understood everything
add_entry_is = (refl, (refl, refl))

blind : (r s : Row) → agree plain (1 ∷ 2 ∷ []) r (1 ∷ 2 ∷ []) s ≡ agree plain (1 ∷ 2 ∷ []) (Null ∷ drop 1 r) (1 ∷ 2 ∷ []) (Null ∷ drop 1 s)
blind [] [] = refl
blind [] (y ∷ s) = refl
blind (x ∷ r) [] = refl
blind (x ∷ r) (y ∷ s) = refl

alike : (x y : EntryRecord) → EntryFits x → EntryFits y → entry_no x ≡ entry_no y → agree plain (1 ∷ 2 ∷ []) (Null ∷ entry_cells x) (1 ∷ 2 ∷ []) (Null ∷ entry_cells y) ≡ true
alike x y p q same =
    let parts = parts_of x.row.branch x.row.number y.row.branch y.row.number p q same in
    two_agree plain x.row.branch x.row.number y.row.branch y.row.number parts.0 parts.1

-- the row that an INSERT makes, by the rows that are there
abbrev new_entry : List Row → EntryRecord → Row
new_entry rows e = Int (next_rowid rows) ∷ entry_cells e

news_are : (db : Trees) (e : EntryRecord) → (edit_of db entries_table [] Chosen 0 (value_rows (entry_cells e) 14 (14 / 14) add_entry_terms)).news ≡ new_entry (db 14) e ∷ []
news_are db e = rw (cast_null, cast_int (pos e.row.branch), cast_int (pos e.row.number), cast_int (pos e.row.account), cast_int (pos e.row.turn), cast_int (pos e.row.teller), cast_int e.row.delta, cast_int (pos e.row.moment), cast_int (pos e.row.day), cast_int (pos e.row.user), cast_int (pos (entry_form_number e.row.form)), cast_int (pos e.row.partner), cast_int (pos e.row.undoes), cast_int e.balance_after) refl

pub adds_entry : (old new : State) (s : Sheets) (e : EntryRecord) (count : ℕ) → EntryFits e → HoldsTables old.now s → Executes add_entry_text (entry_cells e) old new (Ok count)
    → HoldsTables new.now (record s { entries = add_row entry_no e s.entries }) × IsFree entry_no s.entries (entry_no e)
adds_entry old new s e count fit holds h =
    let it = inserts bank_schema add_entry_text (entry_cells e) 10 entries_table add_entry_terms 14 add_entry_is.0 add_entry_is.1 refl refl refl old new count holds.schema h in
    let row = new_entry (old.now.trees 14) e in
    let put = puts entries_table row (value_rows (entry_cells e) 14 (14 / 14) add_entry_terms) old.now.trees new.now.trees it.applies (news_are old.now.trees e) in
    let free = apart_by_index entry_cells entry_no EntryFits entries_table entries_index (entries_there newest) (entries_index_there newest) refl blind alike old.now.trees new.now.trees row e s.entries put refl fit (holds.rows in_entries) in (
      record {
        schema = it.schema_is;
        sound = it.sound;
        rows = with_entries old.now.trees new.now.trees s (add_row entry_no e s.entries) holds.rows it.applies.tables
            (adds_by_columns entry_cells entry_no EntryFits entries_table old.now.trees new.now.trees row e s.entries put refl fit free (holds.rows in_entries));
      },
      free,
    )

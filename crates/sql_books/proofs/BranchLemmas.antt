-- What the statements on the branches do.
use Rattle.std.proofs.Common.{◌≡◌, ◌/◌, ℕ, pos, List, [], ◌∷◌, map, filter, drop, codes, false, Ok, refl, ap, sym, ◌∙◌, subst, ◌==◌}
use Rattle.sqlite.specs.Listing.{understood}
use Rattle.sqlite_tied.specs.Compute.{everything}
use Rattle.bank_books.specs.declared.records.BranchRecord.{BranchRecord}
use Rattle.book_kept.specs.Sheets.{branch_no}
use Rattle.sql_schema.specs.Cells.{branch_cells}
use Rattle.sql_schema.specs.Held.Sheet.{branches as in_branches}
use Rattle.sql_schema.specs.Schema.{branches_table}
use Rattle.sql_schema.proofs.FrameLemmas.{with_branches}
use Rattle.sql_schema.specs.Shown.{shown_branch}
use Rattle.sql_schema.proofs.TableNames.{Null, Int, Insert, Select, Update, edit_of, value_rows, reads_listing, Row, Chosen, Values, Executes, Shown, State, Term, col, lit, Trees, output, IsPlain, command_of, cast_row, id_in, rowid, add_row, IsFree, Sheets, set_row, AnyRow, HoldsTables, all_of_it, bank_schema, nothing_set_off, adds_by_rowid, apart_by_rowid, puts, pick, sets_row, alone, answered, by_key, no_limit, no_offset, one_equals, scan, cast_int, cast_null, inserts, few_of_key}
use Rattle.sql_books.specs.Texts.{branch_text, add_branch_text, set_branch_text}

-- ---- SELECT

abbrev branch_columns : List Term
branch_columns = col 1 0 ∷ col 1 2 ∷ col 1 3 ∷ col 1 4 ∷ col 1 5 ∷ col 1 6 ∷ col 1 7 ∷ col 1 8 ∷ col 1 9 ∷ col 1 10 ∷ col 1 11 ∷ col 1 12 ∷ col 1 13 ∷ []

pub branch_is : (command_of (understood bank_schema branch_text) ≡ Select (record { lets = []; body = scan 11 by_key branch_columns [] no_limit no_offset }) (codes "branch" ∷ codes "opening" ∷ codes "cash" ∷ codes "day" ∷ codes "balance" ∷ codes "vault" ∷ codes "entries" ∷ codes "lines" ∷ codes "accounts" ∷ codes "history" ∷ codes "drawers" ∷ codes "cash_entries" ∷ codes "differences" ∷ []))
    × (reads_listing bank_schema branch_text ≡ false) × IsPlain (understood bank_schema branch_text)
unfolding understood everything
branch_is = (refl, refl, (refl, refl))

pub selects_branch : (old new : State) (s : Sheets) (key : ℕ) (rows : List Row) → HoldsTables old.now s → Shown branch_text (Int (pos key) ∷ []) old new rows
    → rows ≡ map shown_branch (filter (λ b. branch_no b == key) s.branches)
selects_branch old new s key rows holds h =
    let params = Int (pos key) ∷ [] in
    alone all_of_it (λ c. c) branch_cells branch_no AnyRow 11 (λ db. refl) by_key branch_columns [] no_limit no_offset params (λ b. branch_no b == key)
    (λ r. (refl, refl)) (λ b. one_equals (branch_no b) key) old.now.trees s.branches rows (holds.rows in_branches)
    (answered branch_text _ (scan 11 by_key branch_columns [] no_limit no_offset) params branch_is.0 branch_is.1 branch_is.2 old new rows holds.schema h)
    (few_of_key _ branch_no key s.branches (holds.rows in_branches).ordered.distinct)

-- ---- INSERT

abbrev add_branch_terms : List Term
add_branch_terms = col 0 0 ∷ lit Null ∷ col 0 1 ∷ col 0 2 ∷ col 0 3 ∷ col 0 4 ∷ col 0 5 ∷ col 0 6 ∷ col 0 7 ∷ col 0 8 ∷ col 0 9 ∷ col 0 10 ∷ col 0 11 ∷ col 0 12 ∷ []

pub add_branch_is : (command_of (understood bank_schema add_branch_text) ≡ Insert 7 (Values add_branch_terms 14)) × IsPlain (understood bank_schema add_branch_text)
unfolding understood everything
add_branch_is = (refl, (refl, refl))

news_are : (db : Trees) (b : BranchRecord) → (edit_of db branches_table [] Chosen 0 (value_rows (shown_branch b) 14 (14 / 14) add_branch_terms)).news ≡ branch_cells b ∷ []
news_are db b = rw (cast_int (pos b.row.branch), cast_null, cast_int b.row.opening, cast_int b.row.cash, cast_int (pos b.row.day), cast_int b.balance, cast_int b.vault, cast_int (pos b.entries), cast_int (pos b.lines), cast_int (pos b.accounts), cast_int b.history, cast_int b.drawers, cast_int b.cash_entries, cast_int b.differences) refl

pub adds_branch : (old new : State) (s : Sheets) (b : BranchRecord) (count : ℕ) → HoldsTables old.now s → Executes add_branch_text (shown_branch b) old new (Ok count)
    → HoldsTables new.now (record s { branches = add_row branch_no b s.branches }) × IsFree branch_no s.branches (branch_no b)
adds_branch old new s b count holds h =
    let it = inserts bank_schema add_branch_text (shown_branch b) 7 branches_table add_branch_terms 14 add_branch_is.0 add_branch_is.1 refl refl refl old new count holds.schema h in
    let put = puts branches_table (branch_cells b) (value_rows (shown_branch b) 14 (14 / 14) add_branch_terms) old.now.trees new.now.trees it.applies (news_are old.now.trees b) in (
      record {
        schema = it.schema_is;
        sound = it.sound;
        rows = with_branches old.now.trees new.now.trees s (add_row branch_no b s.branches) holds.rows it.applies.tables
            (adds_by_rowid branch_cells branch_no AnyRow branches_table (λ x. refl) old.now.trees new.now.trees b s.branches put tt (holds.rows in_branches));
      },
      apart_by_rowid branch_cells branch_no AnyRow (λ x. refl) b s.branches (old.now.trees 11) (holds.rows in_branches) put.free,
    )

-- ---- UPDATE

abbrev set_branch_columns : List Term
set_branch_columns = col 1 0 ∷ col 1 0 ∷ lit Null ∷ col 0 1 ∷ col 0 2 ∷ col 0 3 ∷ col 0 4 ∷ col 0 5 ∷ col 0 6 ∷ col 0 7 ∷ col 0 8 ∷ col 0 9 ∷ col 0 10 ∷ col 0 11 ∷ col 0 12 ∷ []

pub set_branch_is : (command_of (understood bank_schema set_branch_text) ≡ Update 7 (record { lets = []; body = pick 11 by_key set_branch_columns })) × IsPlain (understood bank_schema set_branch_text)
unfolding understood everything
set_branch_is = (refl, (refl, refl))

casts : (b : BranchRecord) → cast_row branches_table (branch_cells b) ≡ branch_cells b
casts b = rw (cast_int (pos b.row.branch), cast_null, cast_int b.row.opening, cast_int b.row.cash, cast_int (pos b.row.day), cast_int b.balance, cast_int b.vault, cast_int (pos b.entries), cast_int (pos b.lines), cast_int (pos b.accounts), cast_int b.history, cast_int b.drawers, cast_int b.cash_entries, cast_int b.differences) refl

made : (b : BranchRecord) (r : Row) (x : BranchRecord) → r ≡ branch_cells x → branch_no x ≡ branch_no b → rowid r ≡ Int (id_in (rowid r))
    → cast_row branches_table (drop 1 (output (pick 11 by_key set_branch_columns) (shown_branch b ∷ r ∷ [])).1) ≡ branch_cells b
made b r x is same _ =
    subst (λ there. cast_row branches_table (drop 1 (output (pick 11 by_key set_branch_columns) (shown_branch b ∷ there ∷ [])).1) ≡ branch_cells b) (sym is)
    (ap (λ key. cast_row branches_table (Int (pos key) ∷ drop 1 (branch_cells b))) same ∙ casts b)

pub sets_branch : (old new : State) (s : Sheets) (b : BranchRecord) (count : ℕ) → HoldsTables old.now s → Executes set_branch_text (shown_branch b) old new (Ok count)
    → HoldsTables new.now (record s { branches = set_row branch_no b s.branches })
sets_branch old new s b count holds h =
    let it = sets_row all_of_it (λ r. r) branch_cells branch_no AnyRow 7 branches_table (λ db. refl) by_key set_branch_columns set_branch_text (shown_branch b) b
    set_branch_is.0 set_branch_is.1 refl (λ r. refl) (λ x _. one_equals (branch_no x) (branch_no b)) (λ r. refl) (made b)
    (λ olds news. nothing_set_off 0 11 refl olds news) old new s.branches count holds.schema (holds.rows in_branches) tt h in
    record {
      schema = it.schema;
      sound = it.sound;
      rows = with_branches old.now.trees new.now.trees s (set_row branch_no b s.branches) holds.rows it.others it.rows;
    }

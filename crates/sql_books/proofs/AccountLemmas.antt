-- What the statements on the accounts do.
use Rattle.std.proofs.Common.{◌≡◌, ◌/◌, ℕ, pos, List, [], ◌∷◌, map, filter, take, drop, codes, false, Ok, refl, ap, sym, ◌∙◌, subst, ◌==◌}
use Rattle.sqlite.specs.Listing.{understood}
use Rattle.sqlite_tied.specs.Compute.{everything}
use Rattle.bank_books.specs.declared.records.AccountRecord.{AccountRecord}
use Rattle.book_kept.specs.Sheets.{account_no}
use Rattle.sql_schema.specs.Cells.{account_cells}
use Rattle.sql_schema.specs.Held.Sheet.{accounts as in_accounts}
use Rattle.sql_schema.specs.Schema.{accounts_table}
use Rattle.sql_schema.proofs.FrameLemmas.{with_accounts}
use Rattle.sql_schema.proofs.ReadLemmas.{is_at_least}
use Rattle.sql_schema.proofs.PickedRows.{is_at_most, within}
use Rattle.sql_schema.proofs.TableNames.{Null, Int, Insert, Select, Update, edit_of, value_rows, reads_listing, Row, Chosen, Values, Executes, Shown, State, Term, col, lit, Trees, output, IsPlain, command_of, cast_row, id_in, rowid, add_row, IsFree, Sheets, set_row, AnyRow, HoldsTables, all_of_it, bank_schema, nothing_set_off, adds_by_rowid, apart_by_rowid, puts, pick, sets_row, alone, answered, by_key, in_order, no_limit, no_offset, one_equals, rises_by_one, rising_key, scan, cast_int, cast_null, inserts, few_of_key, first_alone}
use Rattle.sql_books.specs.Picks.{is_account_between}
use Rattle.sql_schema.specs.Shown.{shown_account}
use Rattle.sql_books.specs.Texts.{account_text, add_account_text, set_account_text, least_account_text}

-- ---- SELECT

abbrev account_columns : List Term
account_columns = col 1 0 ∷ col 1 2 ∷ col 1 3 ∷ col 1 4 ∷ col 1 5 ∷ col 1 6 ∷ []

pub account_is : (command_of (understood bank_schema account_text) ≡ Select (record { lets = []; body = scan 13 by_key account_columns [] no_limit no_offset }) (codes "account" ∷ codes "home" ∷ codes "opening" ∷ codes "floor" ∷ codes "balance" ∷ codes "turns" ∷ []))
    × (reads_listing bank_schema account_text ≡ false) × IsPlain (understood bank_schema account_text)
unfolding understood everything
account_is = (refl, refl, (refl, refl))

pub selects_account : (old new : State) (s : Sheets) (key : ℕ) (rows : List Row) → HoldsTables old.now s → Shown account_text (Int (pos key) ∷ []) old new rows
    → rows ≡ map shown_account (filter (λ a. account_no a == key) s.accounts)
selects_account old new s key rows holds h =
    let params = Int (pos key) ∷ [] in
    alone all_of_it (λ c. c) account_cells account_no AnyRow 13 (λ db. refl) by_key account_columns [] no_limit no_offset params (λ a. account_no a == key)
    (λ r. (refl, refl)) (λ a. one_equals (account_no a) key) old.now.trees s.accounts rows (holds.rows in_accounts)
    (answered account_text _ (scan 13 by_key account_columns [] no_limit no_offset) params account_is.0 account_is.1 account_is.2 old new rows holds.schema h)
    (few_of_key _ account_no key s.accounts (holds.rows in_accounts).ordered.distinct)

abbrev from_the_one_to_the_other : List Term
from_the_one_to_the_other = is_at_least 0 0 ∷ is_at_most 0 1 ∷ []

pub least_account_is : (command_of (understood bank_schema least_account_text) ≡ Select (record { lets = []; body = scan 13 from_the_one_to_the_other account_columns ((col 1 0, rising_key) ∷ []) first_alone no_offset }) (codes "account" ∷ codes "home" ∷ codes "opening" ∷ codes "floor" ∷ codes "balance" ∷ codes "turns" ∷ []))
    × (reads_listing bank_schema least_account_text ≡ false) × IsPlain (understood bank_schema least_account_text)
unfolding understood everything
least_account_is = (refl, refl, (refl, refl))

pub selects_least_account : (old new : State) (s : Sheets) (low high : ℕ) (rows : List Row) → HoldsTables old.now s → Shown least_account_text (Int (pos low) ∷ Int (pos high) ∷ []) old new rows
    → rows ≡ take 1 (map shown_account (filter (is_account_between low high) s.accounts))
selects_least_account old new s low high rows holds h =
    let params = Int (pos low) ∷ Int (pos high) ∷ [] in
    in_order all_of_it (λ c. c) account_cells account_no AnyRow 13 (λ db. refl) from_the_one_to_the_other account_columns ((col 1 0, rising_key) ∷ []) first_alone no_offset params (is_account_between low high)
    (λ r. (refl, refl)) (λ a. within (account_no a) low high) old.now.trees s.accounts rows (holds.rows in_accounts)
    (answered least_account_text _ (scan 13 from_the_one_to_the_other account_columns ((col 1 0, rising_key) ∷ []) first_alone no_offset) params least_account_is.0 least_account_is.1 least_account_is.2 old new rows holds.schema h)
    (λ x y _ _ less. rises_by_one (account_no x) (account_no y) less)

-- ---- INSERT

abbrev add_account_terms : List Term
add_account_terms = col 0 0 ∷ lit Null ∷ col 0 1 ∷ col 0 2 ∷ col 0 3 ∷ col 0 4 ∷ col 0 5 ∷ []

pub add_account_is : (command_of (understood bank_schema add_account_text) ≡ Insert 9 (Values add_account_terms 7)) × IsPlain (understood bank_schema add_account_text)
unfolding understood everything
add_account_is = (refl, (refl, refl))

news_are : (db : Trees) (a : AccountRecord) → (edit_of db accounts_table [] Chosen 0 (value_rows (shown_account a) 7 (7 / 7) add_account_terms)).news ≡ account_cells a ∷ []
news_are db a = rw (cast_int (pos a.row.account), cast_null, cast_int (pos a.row.home), cast_int a.row.opening, cast_int a.row.floor, cast_int a.balance, cast_int (pos a.turns)) refl

pub adds_account : (old new : State) (s : Sheets) (a : AccountRecord) (count : ℕ) → HoldsTables old.now s → Executes add_account_text (shown_account a) old new (Ok count)
    → HoldsTables new.now (record s { accounts = add_row account_no a s.accounts }) × IsFree account_no s.accounts (account_no a)
adds_account old new s a count holds h =
    let it = inserts bank_schema add_account_text (shown_account a) 9 accounts_table add_account_terms 7 add_account_is.0 add_account_is.1 refl refl refl old new count holds.schema h in
    let put = puts accounts_table (account_cells a) (value_rows (shown_account a) 7 (7 / 7) add_account_terms) old.now.trees new.now.trees it.applies (news_are old.now.trees a) in (
      record {
        schema = it.schema_is;
        sound = it.sound;
        rows = with_accounts old.now.trees new.now.trees s (add_row account_no a s.accounts) holds.rows it.applies.tables
            (adds_by_rowid account_cells account_no AnyRow accounts_table (λ x. refl) old.now.trees new.now.trees a s.accounts put tt (holds.rows in_accounts));
      },
      apart_by_rowid account_cells account_no AnyRow (λ x. refl) a s.accounts (old.now.trees 13) (holds.rows in_accounts) put.free,
    )

-- ---- UPDATE

abbrev set_account_columns : List Term
set_account_columns = col 1 0 ∷ col 1 0 ∷ lit Null ∷ col 0 1 ∷ col 0 2 ∷ col 0 3 ∷ col 0 4 ∷ col 0 5 ∷ []

pub set_account_is : (command_of (understood bank_schema set_account_text) ≡ Update 9 (record { lets = []; body = pick 13 by_key set_account_columns })) × IsPlain (understood bank_schema set_account_text)
unfolding understood everything
set_account_is = (refl, (refl, refl))

casts : (a : AccountRecord) → cast_row accounts_table (account_cells a) ≡ account_cells a
casts a = rw (cast_int (pos a.row.account), cast_null, cast_int (pos a.row.home), cast_int a.row.opening, cast_int a.row.floor, cast_int a.balance, cast_int (pos a.turns)) refl

made : (a : AccountRecord) (r : Row) (x : AccountRecord) → r ≡ account_cells x → account_no x ≡ account_no a → rowid r ≡ Int (id_in (rowid r))
    → cast_row accounts_table (drop 1 (output (pick 13 by_key set_account_columns) (shown_account a ∷ r ∷ [])).1) ≡ account_cells a
made a r x is same _ =
    subst (λ there. cast_row accounts_table (drop 1 (output (pick 13 by_key set_account_columns) (shown_account a ∷ there ∷ [])).1) ≡ account_cells a) (sym is)
    (ap (λ key. cast_row accounts_table (Int (pos key) ∷ drop 1 (account_cells a))) same ∙ casts a)

pub sets_account : (old new : State) (s : Sheets) (a : AccountRecord) (count : ℕ) → HoldsTables old.now s → Executes set_account_text (shown_account a) old new (Ok count)
    → HoldsTables new.now (record s { accounts = set_row account_no a s.accounts })
sets_account old new s a count holds h =
    let it = sets_row all_of_it (λ r. r) account_cells account_no AnyRow 9 accounts_table (λ db. refl) by_key set_account_columns set_account_text (shown_account a) a
    set_account_is.0 set_account_is.1 refl (λ r. refl) (λ x _. one_equals (account_no x) (account_no a)) (λ r. refl) (made a)
    (λ olds news. nothing_set_off 0 13 refl olds news) old new s.accounts count holds.schema (holds.rows in_accounts) tt h in
    record {
      schema = it.schema;
      sound = it.sound;
      rows = with_accounts old.now.trees new.now.trees s (set_row account_no a s.accounts) holds.rows it.others it.rows;
    }

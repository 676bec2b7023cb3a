-- What the statements on the users do.
use Rattle.std.proofs.Common.{◌≡◌, ◌/◌, ℕ, pos, List, [], ◌∷◌, drop, codes, Bool, true, false, Ok, refl, ap, ◌∙◌, ◌==◌}
use Rattle.sqlite.specs.Command.TheVariants.{Update}
use Rattle.sqlite.specs.Listing.{understood}
use Rattle.sqlite.specs.Cast.{cast}
use Rattle.sqlite.specs.Kind.TheVariants.{Integer}
use Rattle.sqlite_rules.specs.Cast.{cast_row}
use Rattle.sqlite_value.specs.Order.{column}
use Rattle.sqlite_tied.specs.Compute.{everything}
use Rattle.book_kept.specs.Sheets.{set_row, user_no}
use Rattle.book_kept.specs.declared.records.KeptUser.{KeptUser}
use Rattle.sql_schema.specs.Cells.{user_cells}
use Rattle.sql_schema.specs.Held.Sheet.{users as in_users}
use Rattle.sql_schema.specs.Numbers.{truth_cell}
use Rattle.sql_schema.specs.Schema.{users_table}
use Rattle.sql_schema.proofs.FrameLemmas.{with_users}
use Rattle.sql_schema.proofs.PickedRows.{few_of_key}
use Rattle.sql_schema.proofs.PickLemmas.{sets_row}
use Rattle.sql_schema.specs.Shown.{shown_user}
use Rattle.sql_schema.proofs.TableNames.{find, option_map, slice_get, Null, Int, Insert, Select, edit_of, value_rows, reads_listing, Row, Chosen, Values, Executes, Shown, State, Term, col, lit, Trees, output, IsPlain, command_of, add_row, IsFree, Sheets, AnyRow, HoldsTables, all_of_it, bank_schema, nothing_set_off, adds_by_rowid, apart_by_rowid, puts, first_picked, pick, alone, answered, by_key, no_limit, no_offset, one_equals, scan, cast_int, cast_null, inserts}
use Rattle.sql_policy.specs.Texts.{add_user_text, set_user_text, user_text}

-- ---- casts

cast_truth : (b : Bool) → cast Integer (truth_cell b) ≡ truth_cell b
cast_truth true = cast_int (pos 1)
cast_truth false = cast_int (pos 0)

user_casts : (u : KeptUser) → cast_row users_table (Int (pos (user_no u)) ∷ drop 1 (user_cells u)) ≡ user_cells u
user_casts u = rw (cast_int (pos u.row.user), cast_null, cast_truth u.row.officer, cast_truth u.row.suspended, cast_int (pos u.row.session), cast_truth u.row.on, cast_int (pos u.releases)) refl

-- ---- SELECT

abbrev user_columns : List Term
user_columns = col 1 0 ∷ col 1 2 ∷ col 1 3 ∷ col 1 4 ∷ col 1 5 ∷ col 1 6 ∷ col 1 7 ∷ []

pub user_is : (command_of (understood bank_schema user_text) ≡ Select (record { lets = []; body = scan 1 by_key user_columns [] no_limit no_offset })
    (codes "user_no" ∷ codes "name" ∷ codes "officer" ∷ codes "suspended" ∷ codes "session" ∷ codes "is_on" ∷ codes "releases" ∷ []))
    × (reads_listing bank_schema user_text ≡ false) × IsPlain (understood bank_schema user_text)
unfolding understood everything
user_is = (refl, refl, (refl, refl))

pub selects_user : (old new : State) (s : Sheets) (user : ℕ) (rows : List Row) → HoldsTables old.now s → Shown user_text (Int (pos user) ∷ []) old new rows → slice_get rows 0 ≡ option_map shown_user (find (λ u. user_no u == user) s.users)
selects_user old new s user rows holds h =
    let params = Int (pos user) ∷ [] in
    ap (λ rs. slice_get rs 0)
    (alone all_of_it (λ c. c) user_cells user_no AnyRow 1 (λ db. refl) by_key user_columns [] no_limit no_offset params (λ u. user_no u == user)
    (λ r. (refl, refl)) (λ u. one_equals (user_no u) user) old.now.trees s.users rows (holds.rows in_users)
    (answered user_text _ (scan 1 by_key user_columns [] no_limit no_offset) params user_is.0 user_is.1 user_is.2 old new rows holds.schema h)
    (few_of_key _ user_no user s.users (holds.rows in_users).ordered.distinct))
    ∙ first_picked shown_user (λ u. user_no u == user) s.users

-- ---- INSERT

abbrev add_user_terms : List Term
add_user_terms = col 0 0 ∷ lit Null ∷ col 0 1 ∷ col 0 2 ∷ col 0 3 ∷ col 0 4 ∷ col 0 5 ∷ col 0 6 ∷ []

pub add_user_is : (command_of (understood bank_schema add_user_text) ≡ Insert 1 (Values add_user_terms 8)) × IsPlain (understood bank_schema add_user_text)
unfolding understood everything
add_user_is = (refl, (refl, refl))

news_are : (db : Trees) (u : KeptUser) → (edit_of db users_table [] Chosen 0 (value_rows (shown_user u) 8 (8 / 8) add_user_terms)).news ≡ user_cells u ∷ []
news_are db u = rw (cast_int (pos u.row.user), cast_null, cast_truth u.row.officer, cast_truth u.row.suspended, cast_int (pos u.row.session), cast_truth u.row.on, cast_int (pos u.releases)) refl

pub adds_user : (old new : State) (s : Sheets) (u : KeptUser) (count : ℕ) → HoldsTables old.now s → Executes add_user_text (shown_user u) old new (Ok count)
    → HoldsTables new.now (record s { users = add_row user_no u s.users }) × IsFree user_no s.users (user_no u)
adds_user old new s u count holds h =
    let it = inserts bank_schema add_user_text (shown_user u) 1 users_table add_user_terms 8 add_user_is.0 add_user_is.1 refl refl refl old new count holds.schema h in
    let put = puts users_table (user_cells u) (value_rows (shown_user u) 8 (8 / 8) add_user_terms) old.now.trees new.now.trees it.applies (news_are old.now.trees u) in (
      record {
        schema = it.schema_is;
        sound = it.sound;
        rows = with_users old.now.trees new.now.trees s (add_row user_no u s.users) holds.rows it.applies.tables
            (adds_by_rowid user_cells user_no AnyRow users_table (λ x. refl) old.now.trees new.now.trees u s.users put tt (holds.rows in_users));
      },
      apart_by_rowid user_cells user_no AnyRow (λ x. refl) u s.users (old.now.trees 1) (holds.rows in_users) put.free,
    )

-- ---- UPDATE

abbrev set_user_columns : List Term
set_user_columns = col 1 0 ∷ col 1 0 ∷ lit Null ∷ col 0 1 ∷ col 0 2 ∷ col 0 3 ∷ col 0 4 ∷ col 0 5 ∷ col 0 6 ∷ []

pub set_user_is : (command_of (understood bank_schema set_user_text) ≡ Update 1 (record { lets = []; body = pick 1 by_key set_user_columns })) × IsPlain (understood bank_schema set_user_text)
unfolding understood everything
set_user_is = (refl, (refl, refl))

-- the row that an UPDATE makes of that of the user
made : (u : KeptUser) (r : Row) (x : KeptUser) → r ≡ user_cells x → user_no x ≡ user_no u → cast_row users_table (drop 1 (output (pick 1 by_key set_user_columns) (shown_user u ∷ r ∷ [])).1) ≡ user_cells u
made u r x is same = ap (λ v. cast_row users_table (v ∷ Null ∷ drop 1 (shown_user u))) (ap (λ y. column y 0) is ∙ ap (λ n. Int (pos n)) same) ∙ user_casts u

pub sets_user : (old new : State) (s : Sheets) (u : KeptUser) (count : ℕ) → HoldsTables old.now s → Executes set_user_text (shown_user u) old new (Ok count) → HoldsTables new.now (record s { users = set_row user_no u s.users })
sets_user old new s u count holds h =
    let it = sets_row all_of_it (λ c. c) user_cells user_no AnyRow 1 users_table (λ db. refl) by_key set_user_columns set_user_text (shown_user u) u set_user_is.0 set_user_is.1 refl
    (λ r. refl) (λ y _. one_equals (user_no y) (user_no u)) (λ r. refl) (λ r x is same _. made u r x is same) (λ olds news. nothing_set_off 0 1 refl olds news) old new s.users count holds.schema (holds.rows in_users) tt h in
    record { schema = it.schema; sound = it.sound; rows = with_users old.now.trees new.now.trees s (set_row user_no u s.users) holds.rows it.others it.rows }

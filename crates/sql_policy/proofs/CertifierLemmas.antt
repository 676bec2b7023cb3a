-- What the statements on the certifiers do.
use Rattle.std.proofs.Common.{◌≡◌, ◌/◌, ◌<◌, ◌+◌, ◌*◌, ◌^◌, ◌≤◌, ℕ, pos, List, [], ◌∷◌, map, filter, drop, length, not, codes, true, false, Ok, refl, sym, ◌∙◌, subst, ◌==◌}
use Rattle.sqlite.specs.Listing.{understood}
use Rattle.sqlite_tied.specs.Compute.{everything}
use Rattle.bank_policy.specs.PolicyKeys.{certifier_key}
use Rattle.bank_policy.specs.declared.rows.Certifier.{Certifier}
use Rattle.sql_schema.specs.Cells.{certifier_cells}
use Rattle.sql_schema.specs.Held.Sheet.{certifiers as in_certifiers}
use Rattle.sql_schema.specs.Schema.{certifiers_index, certifiers_table}
use Rattle.sql_schema.proofs.NamedTables.{certifiers_index_there, certifiers_there}
use Rattle.sql_schema.proofs.FrameLemmas.{with_certifiers}
use Rattle.bank_terms.proofs.Procedures.{small_number}
use Rattle.sql_schema.proofs.TableNames.{find, Null, Int, Delete, Insert, Select, edit_of, value_rows, reads_listing, Row, Chosen, Values, Executes, Shown, State, Term, col, lit, Trees, output, IsPlain, command_of, next_rowid, agree, plain, delete_rows, add_row, number_of, IsFree, Sheets, AnyRow, HoldsTables, HoldsRows, all_but_rowid, bank_schema, newest, nothing_set_off, picked_alike, adds_by_columns, apart_by_index, parts_of, puts, two_agree, one_of_key, deletes_rows, pick, alone, answered, by_two, no_limit, no_offset, two_equal, passes, scan, cast_int, cast_null, inserts, at_most_one, few_mapped, two_parts}
use Rattle.sql_policy.specs.Tests.{is_certifier_of}
use Rattle.sql_policy.specs.Texts.{add_certifier_text, certifier_text, remove_certifier_text}

-- ---- the texts

abbrev certifier_columns : List Term
certifier_columns = col 1 1 ∷ col 1 2 ∷ []

pub certifier_is : (command_of (understood bank_schema certifier_text) ≡ Select (record { lets = []; body = scan 9 by_two certifier_columns [] no_limit no_offset }) (codes "user_no" ∷ codes "procedure" ∷ []))
    × (reads_listing bank_schema certifier_text ≡ false) × IsPlain (understood bank_schema certifier_text)
unfolding understood everything
certifier_is = (refl, refl, (refl, refl))

abbrev add_certifier_terms : List Term
add_certifier_terms = lit Null ∷ col 0 0 ∷ col 0 1 ∷ []

pub add_certifier_is : (command_of (understood bank_schema add_certifier_text) ≡ Insert 6 (Values add_certifier_terms 3)) × IsPlain (understood bank_schema add_certifier_text)
unfolding understood everything
add_certifier_is = (refl, (refl, refl))

pub remove_certifier_is : (command_of (understood bank_schema remove_certifier_text) ≡ Delete 6 (record { lets = []; body = pick 9 by_two (col 1 0 ∷ []) })) × IsPlain (understood bank_schema remove_certifier_text)
unfolding understood everything
remove_certifier_is = (refl, (refl, refl))

-- ---- keys

key_parts : (x y : Certifier) → certifier_key x ≡ certifier_key y → (x.user ≡ y.user) × (number_of x.procedure ≡ number_of y.procedure)
key_parts x y same = parts_of x.user (number_of x.procedure) y.user (number_of y.procedure) (small_number x.procedure) (small_number y.procedure) same

-- a test by columns is one by key
by_number : (user procedure : ℕ) → procedure < 2 ^ 32 → (x : Certifier) → is_certifier_of user procedure x ≡ (certifier_key x == 2 ^ 32 * user + procedure)
by_number user procedure small x = two_parts x.user (number_of x.procedure) user procedure (small_number x.procedure) small

-- ---- SELECT

certifier_reads : (params r : Row) → (passes by_two params r ≡ passes by_two params (Null ∷ drop 1 r))
    × (output (scan 9 by_two certifier_columns [] no_limit no_offset) (params ∷ r ∷ []) ≡ output (scan 9 by_two certifier_columns [] no_limit no_offset) (params ∷ (Null ∷ drop 1 r) ∷ []))
certifier_reads params [] = (refl, refl)
certifier_reads params (v ∷ r) = (refl, refl)

few_of_key : (user procedure : ℕ) → procedure < 2 ^ 32 → (s : Sheets) (tree : List Row) → HoldsRows all_but_rowid certifier_cells certifier_key AnyRow s.certifiers tree → length (filter (is_certifier_of user procedure) s.certifiers) ≤ 1
few_of_key user procedure small s tree holds =
    subst (λ l. length l ≤ 1) (sym (picked_alike all_but_rowid certifier_cells certifier_key AnyRow (is_certifier_of user procedure) (λ x. certifier_key x == 2 ^ 32 * user + procedure) s.certifiers tree holds (λ x _. by_number user procedure small x)
    ∙ one_of_key certifier_key (2 ^ 32 * user + procedure) s.certifiers holds.ordered.distinct)) (at_most_one (find (λ x. certifier_key x == 2 ^ 32 * user + procedure) s.certifiers))

pub selects_certifier : (old new : State) (s : Sheets) (user procedure : ℕ) (rows : List Row) → procedure < 2 ^ 32 → HoldsTables old.now s → Shown certifier_text (Int (pos user) ∷ Int (pos procedure) ∷ []) old new rows
    → rows ≡ map certifier_cells (filter (is_certifier_of user procedure) s.certifiers)
selects_certifier old new s user procedure rows small holds h =
    let params = Int (pos user) ∷ Int (pos procedure) ∷ [] in
    let q = scan 9 by_two certifier_columns [] no_limit no_offset in
    alone all_but_rowid (λ c. Null ∷ c) certifier_cells certifier_key AnyRow 9 (λ db. refl) by_two certifier_columns [] no_limit no_offset params (is_certifier_of user procedure)
    (certifier_reads params) (λ x. two_equal x.user (number_of x.procedure) user procedure) old.now.trees s.certifiers rows (holds.rows in_certifiers)
    (answered certifier_text _ q params certifier_is.0 certifier_is.1 certifier_is.2 old new rows holds.schema h)
    (few_mapped _ (filter (is_certifier_of user procedure) s.certifiers) (few_of_key user procedure small s (old.now.trees 9) (holds.rows in_certifiers)))

-- ---- INSERT

blind : (r s : Row) → agree plain (1 ∷ 2 ∷ []) r (1 ∷ 2 ∷ []) s ≡ agree plain (1 ∷ 2 ∷ []) (Null ∷ drop 1 r) (1 ∷ 2 ∷ []) (Null ∷ drop 1 s)
blind [] [] = refl
blind [] (y ∷ s) = refl
blind (x ∷ r) [] = refl
blind (x ∷ r) (y ∷ s) = refl

alike : (x y : Certifier) → AnyRow x → AnyRow y → certifier_key x ≡ certifier_key y → agree plain (1 ∷ 2 ∷ []) (Null ∷ certifier_cells x) (1 ∷ 2 ∷ []) (Null ∷ certifier_cells y) ≡ true
alike x y _ _ same = let parts = key_parts x y same in two_agree plain x.user (number_of x.procedure) y.user (number_of y.procedure) parts.0 parts.1

-- the row that an INSERT makes, by the rows that are there
abbrev new_certifier : List Row → Certifier → Row
new_certifier rows c = Int (next_rowid rows) ∷ certifier_cells c

news_are : (db : Trees) (c : Certifier) → (edit_of db certifiers_table [] Chosen 0 (value_rows (certifier_cells c) 3 (3 / 3) add_certifier_terms)).news ≡ new_certifier (db 9) c ∷ []
news_are db c = rw (cast_null, cast_int (pos c.user), cast_int (pos (number_of c.procedure))) refl

pub adds_certifier : (old new : State) (s : Sheets) (c : Certifier) (count : ℕ) → HoldsTables old.now s → Executes add_certifier_text (certifier_cells c) old new (Ok count)
    → HoldsTables new.now (record s { certifiers = add_row certifier_key c s.certifiers }) × IsFree certifier_key s.certifiers (certifier_key c)
adds_certifier old new s c count holds h =
    let it = inserts bank_schema add_certifier_text (certifier_cells c) 6 certifiers_table add_certifier_terms 3 add_certifier_is.0 add_certifier_is.1 refl refl refl old new count holds.schema h in
    let row = new_certifier (old.now.trees 9) c in
    let put = puts certifiers_table row (value_rows (certifier_cells c) 3 (3 / 3) add_certifier_terms) old.now.trees new.now.trees it.applies (news_are old.now.trees c) in
    let free = apart_by_index certifier_cells certifier_key AnyRow certifiers_table certifiers_index (certifiers_there newest) (certifiers_index_there newest) refl blind alike
    old.now.trees new.now.trees row c s.certifiers put refl tt (holds.rows in_certifiers) in (
      record {
        schema = it.schema_is;
        sound = it.sound;
        rows = with_certifiers old.now.trees new.now.trees s (add_row certifier_key c s.certifiers) holds.rows it.applies.tables
            (adds_by_columns certifier_cells certifier_key AnyRow certifiers_table old.now.trees new.now.trees row c s.certifiers put refl tt free (holds.rows in_certifiers));
      },
      free,
    )

-- ---- DELETE

pub removes_certifier : (old new : State) (s : Sheets) (c : Certifier) (count : ℕ) → HoldsTables old.now s → Executes remove_certifier_text (certifier_cells c) old new (Ok count)
    → HoldsTables new.now (record s { certifiers = delete_rows certifier_key (certifier_key c) s.certifiers })
removes_certifier old new s c count holds h =
    let params = certifier_cells c in
    let it = deletes_rows all_but_rowid (λ r. Null ∷ r) certifier_cells certifier_key AnyRow 6 certifiers_table (λ db. refl) by_two remove_certifier_text params (is_certifier_of c.user (number_of c.procedure))
    remove_certifier_is.0 remove_certifier_is.1 refl (λ r. (certifier_reads params r).0) (λ x. two_equal x.user (number_of x.procedure) c.user (number_of c.procedure))
    (λ olds. nothing_set_off 0 9 refl olds []) old new s.certifiers count holds.schema (holds.rows in_certifiers) h in
    let left : filter (λ x. not (is_certifier_of c.user (number_of c.procedure) x)) s.certifiers ≡ delete_rows certifier_key (certifier_key c) s.certifiers =
    (λ i. filter (λ x. not (by_number c.user (number_of c.procedure) (small_number c.procedure) x i)) s.certifiers) in
    record {
      schema = it.schema;
      sound = it.sound;
      rows = with_certifiers old.now.trees new.now.trees s (delete_rows certifier_key (certifier_key c) s.certifiers) holds.rows it.others
          (subst (λ l. HoldsRows all_but_rowid certifier_cells certifier_key AnyRow l (new.now.trees 9)) left it.rows);
    }

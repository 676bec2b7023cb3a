-- What the statements on the triples do.
use Rattle.std.proofs.Common.{◌≡◌, ◌/◌, ◌<◌, ◌+◌, ◌*◌, ◌^◌, ◌≤◌, ℕ, pos, List, [], ◌∷◌, map, filter, drop, length, not, codes, true, false, Ok, refl, ap, arith, sym, ◌∙◌, subst, ◌==◌}
use Rattle.sqlite.specs.Listing.{understood}
use Rattle.sqlite_tied.specs.Compute.{everything}
use Rattle.sql_schema.specs.Schema.{grants_index}
use Rattle.sql_schema.proofs.NamedTables.{triples_index_there, triples_there}
use Rattle.sql_schema.proofs.FrameLemmas.{with_triples}
use Rattle.sql_schema.proofs.InsertLemmas.{three_agree}
use Rattle.sql_schema.proofs.ReadLemmas.{by_three, three_equal}
use Rattle.sql_schema.proofs.KeyTests.{three_parts, three_parts_of}
use Rattle.bank_terms.proofs.Procedures.{small_number}
use Rattle.sql_schema.proofs.TableNames.{find, option_map, slice_get, and_parts, eqb-true, length_permutation, Null, Int, Delete, Insert, Select, edit_of, value_rows, reads_listing, Row, Chosen, Values, Executes, Shown, State, Term, col, lit, Trees, output, IsPlain, command_of, next_rowid, agree, plain, delete_rows, add_row, number_of, triple_key, Triple, IsFree, Sheets, TripleFits, triple_cells, HoldsTables, in_triples, HoldsRows, all_but_rowid, bank_schema, grants_table, newest, nothing_set_off, picked_alike, adds_by_columns, apart_by_index, puts, one_of_key, deletes_rows, pick, first_picked, alone, answered, answers, by_one, by_two, in_order, no_limit, no_offset, one_equals, rises_by_one, rising_key, two_equal, passes, scan, cast_int, cast_null, inserts, at_most_one, few_mapped, length-mapped}
use Rattle.sql_policy.specs.Tests.{is_triple_at, is_triple_by, is_triple_numbered}
use Rattle.sql_policy.specs.Texts.{add_triple_text, remove_triple_text, triple_text, triples_text, user_triples_text}

-- ---- SELECT

abbrev triple_columns : List Term
triple_columns = col 1 1 ∷ col 1 2 ∷ col 1 3 ∷ col 1 4 ∷ col 1 5 ∷ col 1 6 ∷ []

pub triple_is : (command_of (understood bank_schema triple_text) ≡ Select (record { lets = []; body = scan 7 by_three triple_columns [] no_limit no_offset }) (codes "user_no" ∷ codes "procedure" ∷ codes "set_no" ∷ codes "ceiling" ∷ codes "first_at" ∷ codes "last_at" ∷ []))
    × (reads_listing bank_schema triple_text ≡ false) × IsPlain (understood bank_schema triple_text)
unfolding understood everything
triple_is = (refl, refl, (refl, refl))

pub triples_is : (command_of (understood bank_schema triples_text) ≡ Select (record { lets = []; body = scan 7 by_two triple_columns ((col 1 3, rising_key) ∷ []) no_limit no_offset }) (codes "user_no" ∷ codes "procedure" ∷ codes "set_no" ∷ codes "ceiling" ∷ codes "first_at" ∷ codes "last_at" ∷ []))
    × (reads_listing bank_schema triples_text ≡ false) × IsPlain (understood bank_schema triples_text)
unfolding understood everything
triples_is = (refl, refl, (refl, refl))

pub user_triples_is : (command_of (understood bank_schema user_triples_text) ≡ Select (record { lets = []; body = scan 7 by_one triple_columns ((col 1 2, rising_key) ∷ (col 1 3, rising_key) ∷ []) no_limit no_offset }) (codes "user_no" ∷ codes "procedure" ∷ codes "set_no" ∷ codes "ceiling" ∷ codes "first_at" ∷ codes "last_at" ∷ []))
    × (reads_listing bank_schema user_triples_text ≡ false) × IsPlain (understood bank_schema user_triples_text)
unfolding understood everything
user_triples_is = (refl, refl, (refl, refl))

triple_reads : (params r : Row) → (passes by_three params r ≡ passes by_three params (Null ∷ drop 1 r)) × (output (scan 7 by_three triple_columns [] no_limit no_offset) (params ∷ r ∷ []) ≡ output (scan 7 by_three triple_columns [] no_limit no_offset) (params ∷ (Null ∷ drop 1 r) ∷ []))
triple_reads params [] = (refl, refl)
triple_reads params (v ∷ r) = (refl, refl)

triples_reads : (params r : Row) → (passes by_two params r ≡ passes by_two params (Null ∷ drop 1 r)) × (output (scan 7 by_two triple_columns ((col 1 3, rising_key) ∷ []) no_limit no_offset) (params ∷ r ∷ []) ≡ output (scan 7 by_two triple_columns ((col 1 3, rising_key) ∷ []) no_limit no_offset) (params ∷ (Null ∷ drop 1 r) ∷ []))
triples_reads params [] = (refl, refl)
triples_reads params (v ∷ r) = (refl, refl)

user_triples_reads : (params r : Row) → (passes by_one params r ≡ passes by_one params (Null ∷ drop 1 r)) × (output (scan 7 by_one triple_columns ((col 1 2, rising_key) ∷ (col 1 3, rising_key) ∷ []) no_limit no_offset) (params ∷ r ∷ []) ≡ output (scan 7 by_one triple_columns ((col 1 2, rising_key) ∷ (col 1 3, rising_key) ∷ []) no_limit no_offset) (params ∷ (Null ∷ drop 1 r) ∷ []))
user_triples_reads params [] = (refl, refl)
user_triples_reads params (v ∷ r) = (refl, refl)

set_rises : (a b c l m n : ℕ) → a ≡ l → b ≡ m → 2 ^ 64 * a + 2 ^ 32 * b + c < 2 ^ 64 * l + 2 ^ 32 * m + n → c < n
set_rises a b c l m n p q less = omega (arith, p, q, less)

pub selects_triples : (old new : State) (s : Sheets) (user procedure : ℕ) (rows : List Row) → HoldsTables old.now s → Shown triples_text (Int (pos user) ∷ Int (pos procedure) ∷ []) old new rows
    → rows ≡ map triple_cells (filter (is_triple_numbered user procedure) s.triples)
selects_triples old new s user procedure rows holds h =
    let params = Int (pos user) ∷ Int (pos procedure) ∷ [] in
    in_order all_but_rowid (λ c. Null ∷ c) triple_cells triple_key TripleFits 7 (λ db. refl) by_two triple_columns ((col 1 3, rising_key) ∷ []) no_limit no_offset params (is_triple_numbered user procedure)
    (triples_reads params) (λ x. two_equal x.user (number_of x.procedure) user procedure) old.now.trees s.triples rows (holds.rows in_triples)
    (answered triples_text _ (scan 7 by_two triple_columns ((col 1 3, rising_key) ∷ []) no_limit no_offset) params triples_is.0 triples_is.1 triples_is.2 old new rows holds.schema h)
    (λ x y p q less.
    let one = and_parts (x.user == user) (number_of x.procedure == procedure) p in
    let two = and_parts (y.user == user) (number_of y.procedure == procedure) q in
    rises_by_one x.set y.set (set_rises x.user (number_of x.procedure) x.set y.user (number_of y.procedure) y.set (eqb-true x.user user one.0 ∙ sym (eqb-true y.user user two.0))
    (eqb-true (number_of x.procedure) procedure one.1 ∙ sym (eqb-true (number_of y.procedure) procedure two.1)) less))

-- as many rows as the user has triples
pub counts_triples : (old new : State) (s : Sheets) (user : ℕ) (rows : List Row) → HoldsTables old.now s → Shown user_triples_text (Int (pos user) ∷ []) old new rows → length rows ≡ length (filter (is_triple_by user) s.triples)
counts_triples old new s user rows holds h =
    let params = Int (pos user) ∷ [] in
    let it = answers all_but_rowid (λ c. Null ∷ c) triple_cells triple_key TripleFits 7 (λ db. refl) by_one triple_columns ((col 1 2, rising_key) ∷ (col 1 3, rising_key) ∷ []) no_limit no_offset params (is_triple_by user)
    (user_triples_reads params) (λ x. one_equals x.user user) old.now.trees s.triples rows (holds.rows in_triples)
    (answered user_triples_text _ (scan 7 by_one triple_columns ((col 1 2, rising_key) ∷ (col 1 3, rising_key) ∷ []) no_limit no_offset) params user_triples_is.0 user_triples_is.1 user_triples_is.2 old new rows holds.schema h) in
    ap length it.3 ∙ length-mapped _ it.0 ∙ length_permutation _ it.0 it.1 ∙ length-mapped _ (filter (is_triple_by user) s.triples)

-- ---- keys

-- a test by columns is one by key
pub by_number : (user procedure set : ℕ) → procedure < 2 ^ 32 → set < 2 ^ 32 → (x : Triple) → TripleFits x → is_triple_at user procedure set x ≡ (triple_key x == 2 ^ 64 * user + 2 ^ 32 * procedure + set)
by_number user procedure set small small' x fit = three_parts x.user (number_of x.procedure) x.set user procedure set (small_number x.procedure) small fit small'

pub selects_triple : (old new : State) (s : Sheets) (user procedure set : ℕ) (rows : List Row) → procedure < 2 ^ 32 → set < 2 ^ 32 → HoldsTables old.now s
    → Shown triple_text (Int (pos user) ∷ Int (pos procedure) ∷ Int (pos set) ∷ []) old new rows → slice_get rows 0 ≡ option_map triple_cells (find (λ x. triple_key x == 2 ^ 64 * user + 2 ^ 32 * procedure + set) s.triples)
selects_triple old new s user procedure set rows small small' holds h =
    let params = Int (pos user) ∷ Int (pos procedure) ∷ Int (pos set) ∷ [] in
    let key = 2 ^ 64 * user + 2 ^ 32 * procedure + set in
    let alike = picked_alike all_but_rowid triple_cells triple_key TripleFits (is_triple_at user procedure set) (λ x. triple_key x == key) s.triples (old.now.trees 7) (holds.rows in_triples) (by_number user procedure set small small') in
    ap (λ rs. slice_get rs 0)
    (alone all_but_rowid (λ c. Null ∷ c) triple_cells triple_key TripleFits 7 (λ db. refl) by_three triple_columns [] no_limit no_offset params (is_triple_at user procedure set)
    (triple_reads params) (λ x. three_equal x.user (number_of x.procedure) x.set user procedure set) old.now.trees s.triples rows (holds.rows in_triples)
    (answered triple_text _ (scan 7 by_three triple_columns [] no_limit no_offset) params triple_is.0 triple_is.1 triple_is.2 old new rows holds.schema h)
    (few_mapped _ (filter (is_triple_at user procedure set) s.triples) (subst (λ xs. length xs ≤ 1) (sym (alike ∙ one_of_key triple_key key s.triples (holds.rows in_triples).ordered.distinct)) (at_most_one (find (λ x. triple_key x == key) s.triples))))
    ∙ ap (map triple_cells) alike)
    ∙ first_picked triple_cells (λ x. triple_key x == key) s.triples

alike : (x y : Triple) → TripleFits x → TripleFits y → triple_key x ≡ triple_key y → agree plain (1 ∷ 2 ∷ 3 ∷ []) (Null ∷ triple_cells x) (1 ∷ 2 ∷ 3 ∷ []) (Null ∷ triple_cells y) ≡ true
alike x y p q same =
    let parts = three_parts_of x.user (number_of x.procedure) x.set y.user (number_of y.procedure) y.set (small_number x.procedure) (small_number y.procedure) p q same in
    three_agree plain x.user (number_of x.procedure) x.set y.user (number_of y.procedure) y.set parts.0 parts.1 parts.2

-- ---- INSERT

abbrev add_triple_terms : List Term
add_triple_terms = lit Null ∷ col 0 0 ∷ col 0 1 ∷ col 0 2 ∷ col 0 3 ∷ col 0 4 ∷ col 0 5 ∷ []

pub add_triple_is : (command_of (understood bank_schema add_triple_text) ≡ Insert 5 (Values add_triple_terms 7)) × IsPlain (understood bank_schema add_triple_text)
unfolding understood everything
add_triple_is = (refl, (refl, refl))

blind : (r s : Row) → agree plain (1 ∷ 2 ∷ 3 ∷ []) r (1 ∷ 2 ∷ 3 ∷ []) s ≡ agree plain (1 ∷ 2 ∷ 3 ∷ []) (Null ∷ drop 1 r) (1 ∷ 2 ∷ 3 ∷ []) (Null ∷ drop 1 s)
blind [] [] = refl
blind [] (y ∷ s) = refl
blind (x ∷ r) [] = refl
blind (x ∷ r) (y ∷ s) = refl

-- the row that an INSERT makes, by the rows that are there
abbrev new_triple : List Row → Triple → Row
new_triple rows t = Int (next_rowid rows) ∷ triple_cells t

news_are : (db : Trees) (t : Triple) → (edit_of db grants_table [] Chosen 0 (value_rows (triple_cells t) 7 (7 / 7) add_triple_terms)).news ≡ new_triple (db 7) t ∷ []
news_are db t = rw (cast_null, cast_int (pos t.user), cast_int (pos (number_of t.procedure)), cast_int (pos t.set), cast_int (pos t.limit), cast_int (pos t.first), cast_int (pos t.last)) refl

pub adds_triple : (old new : State) (s : Sheets) (t : Triple) (count : ℕ) → TripleFits t → HoldsTables old.now s → Executes add_triple_text (triple_cells t) old new (Ok count)
    → HoldsTables new.now (record s { triples = add_row triple_key t s.triples }) × IsFree triple_key s.triples (triple_key t)
adds_triple old new s t count fit holds h =
    let it = inserts bank_schema add_triple_text (triple_cells t) 5 grants_table add_triple_terms 7 add_triple_is.0 add_triple_is.1 refl refl refl old new count holds.schema h in
    let row = new_triple (old.now.trees 7) t in
    let put = puts grants_table row (value_rows (triple_cells t) 7 (7 / 7) add_triple_terms) old.now.trees new.now.trees it.applies (news_are old.now.trees t) in
    let free = apart_by_index triple_cells triple_key TripleFits grants_table grants_index (triples_there newest) (triples_index_there newest) refl blind alike
    old.now.trees new.now.trees row t s.triples put refl fit (holds.rows in_triples) in (
      record {
        schema = it.schema_is;
        sound = it.sound;
        rows = with_triples old.now.trees new.now.trees s (add_row triple_key t s.triples) holds.rows it.applies.tables
            (adds_by_columns triple_cells triple_key TripleFits grants_table old.now.trees new.now.trees row t s.triples put refl fit free (holds.rows in_triples));
      },
      free,
    )

-- ---- DELETE

pub remove_triple_is : (command_of (understood bank_schema remove_triple_text) ≡ Delete 5 (record { lets = []; body = pick 7 by_three (col 1 0 ∷ []) })) × IsPlain (understood bank_schema remove_triple_text)
unfolding understood everything
remove_triple_is = (refl, (refl, refl))

pub removes_triple : (old new : State) (s : Sheets) (user procedure set count : ℕ) → procedure < 2 ^ 32 → set < 2 ^ 32 → HoldsTables old.now s
    → Executes remove_triple_text (Int (pos user) ∷ Int (pos procedure) ∷ Int (pos set) ∷ []) old new (Ok count)
    → HoldsTables new.now (record s { triples = delete_rows triple_key (2 ^ 64 * user + 2 ^ 32 * procedure + set) s.triples })
removes_triple old new s user procedure set count small small' holds h =
    let params = Int (pos user) ∷ Int (pos procedure) ∷ Int (pos set) ∷ [] in
    let k = 2 ^ 64 * user + 2 ^ 32 * procedure + set in
    let it = deletes_rows all_but_rowid (λ r. Null ∷ r) triple_cells triple_key TripleFits 5 grants_table (λ db. refl) by_three remove_triple_text params (is_triple_at user procedure set)
    remove_triple_is.0 remove_triple_is.1 refl (λ r. (triple_reads params r).0) (λ x. three_equal x.user (number_of x.procedure) x.set user procedure set)
    (λ olds. nothing_set_off 0 7 refl olds []) old new s.triples count holds.schema (holds.rows in_triples) h in
    let left : filter (λ x. not (is_triple_at user procedure set x)) s.triples ≡ delete_rows triple_key k s.triples =
    picked_alike all_but_rowid triple_cells triple_key TripleFits (λ x. not (is_triple_at user procedure set x)) (λ x. not (triple_key x == k)) s.triples (old.now.trees 7) (holds.rows in_triples)
    (λ x fit. ap not (by_number user procedure set small small' x fit)) in
    record {
      schema = it.schema;
      sound = it.sound;
      rows = with_triples old.now.trees new.now.trees s (delete_rows triple_key k s.triples) holds.rows it.others
          (subst (λ l. HoldsRows all_but_rowid triple_cells triple_key TripleFits l (new.now.trees 7)) left it.rows);
    }

-- What the statements on the slips do.
use Rattle.std.proofs.Common.{◌≡◌, ◌/◌, ◌<◌, ◌^◌, ◌≤◌, ℕ, pos, List, [], ◌∷◌, map, filter, drop, length, codes, Bool, true, false, Ok, refl, ap, sym, ◌∙◌, subst, ◌==◌, ◌&&◌, slice_index_or}
use Rattle.sqlite.specs.Listing.{understood}
use Rattle.sqlite_tied.specs.Compute.{everything}
use Rattle.bank_books.specs.Keys.{slip_key, slip_number}
use Rattle.bank_books.specs.SlipRow.{SlipRow}
use Rattle.book_kept.specs.Named.{IsFree}
use Rattle.sql_schema.specs.Cells.{SlipFits, slip_cells}
use Rattle.sql_schema.specs.Held.Sheet.{slips as in_slips}
use Rattle.sql_schema.specs.Schema.{slips_index, slips_table}
use Rattle.sql_schema.proofs.NamedTables.{slips_index_there, slips_there}
use Rattle.sql_schema.proofs.FrameLemmas.{with_slips}
use Rattle.sql_schema.proofs.TableNames.{find, cons_option, Null, Int, Insert, Select, edit_of, value_rows, reads_listing, Row, output, Chosen, Values, Executes, Shown, State, Term, col, lit, Trees, IsPlain, command_of, next_rowid, agree, plain, add_row, number_of, Sheets, HoldsTables, HoldsRows, all_but_rowid, bank_schema, picked_alike, adds_by_columns, apart_by_index, parts_of, puts, two_agree, one_of_key, alone, answered, by_two, no_limit, no_offset, two_equal, passes, scan, cast_int, cast_null, inserts, at_most_one, few_mapped, two_parts}
use Rattle.sql_releases.specs.Texts.{add_slip_text, slip_text}

-- ---- SELECT

abbrev slip_columns : List Term
slip_columns = col 1 1 ∷ col 1 2 ∷ col 1 3 ∷ col 1 4 ∷ col 1 5 ∷ col 1 6 ∷ col 1 7 ∷ col 1 8 ∷ col 1 9 ∷ col 1 10 ∷ col 1 11 ∷ col 1 12 ∷ []

pub slip_is : (command_of (understood bank_schema slip_text) ≡ Select (record { lets = []; body = scan 25 by_two slip_columns [] no_limit no_offset })
    (codes "user_no" ∷ codes "slip" ∷ codes "form" ∷ codes "member1" ∷ codes "member2" ∷ codes "member3" ∷ codes "member4" ∷ codes "member5" ∷ codes "member6" ∷ codes "member7" ∷ codes "member8" ∷ codes "reply" ∷ []))
    × (reads_listing bank_schema slip_text ≡ false) × IsPlain (understood bank_schema slip_text)
unfolding understood everything
slip_is = (refl, refl, (refl, refl))

slip_reads : (params r : Row) → (passes by_two params r ≡ passes by_two params (Null ∷ drop 1 r))
    × (output (scan 25 by_two slip_columns [] no_limit no_offset) (params ∷ r ∷ []) ≡ output (scan 25 by_two slip_columns [] no_limit no_offset) (params ∷ (Null ∷ drop 1 r) ∷ []))
slip_reads params [] = (refl, refl)
slip_reads params (v ∷ r) = (refl, refl)

abbrev is_slip_at : ℕ → ℕ → SlipRow → Bool
is_slip_at user number r = r.user == user && r.number == number

-- a test by columns is one by key
by_number : (user number : ℕ) → number < 2 ^ 32 → (x : SlipRow) → SlipFits x → is_slip_at user number x ≡ (slip_key x == slip_number user number)
by_number user number small x fit = two_parts x.user x.number user number fit.number small

few_of_key : (user number : ℕ) → number < 2 ^ 32 → (s : Sheets) (tree : List Row) → HoldsRows all_but_rowid slip_cells slip_key SlipFits s.slips tree
    → filter (is_slip_at user number) s.slips ≡ cons_option (find (λ x. slip_key x == slip_number user number) s.slips) []
few_of_key user number small s tree holds =
    picked_alike all_but_rowid slip_cells slip_key SlipFits (is_slip_at user number) (λ x. slip_key x == slip_number user number) s.slips tree holds (by_number user number small)
    ∙ one_of_key slip_key (slip_number user number) s.slips holds.ordered.distinct

pub selects_slip : (old new : State) (s : Sheets) (user number : ℕ) (rows : List Row) → number < 2 ^ 32 → HoldsTables old.now s → Shown slip_text (Int (pos user) ∷ Int (pos number) ∷ []) old new rows
    → rows ≡ map slip_cells (cons_option (find (λ x. slip_key x == slip_number user number) s.slips) [])
selects_slip old new s user number rows small holds h =
    let params = Int (pos user) ∷ Int (pos number) ∷ [] in
    let one = few_of_key user number small s (old.now.trees 25) (holds.rows in_slips) in
    alone all_but_rowid (λ c. Null ∷ c) slip_cells slip_key SlipFits 25 (λ db. refl) by_two slip_columns [] no_limit no_offset params (is_slip_at user number)
    (slip_reads params) (λ x. two_equal x.user x.number user number) old.now.trees s.slips rows (holds.rows in_slips)
    (answered slip_text _ (scan 25 by_two slip_columns [] no_limit no_offset) params slip_is.0 slip_is.1 slip_is.2 old new rows holds.schema h)
    (few_mapped _ (filter (is_slip_at user number) s.slips) (subst (λ l. length l ≤ 1) (sym one) (at_most_one (find (λ x. slip_key x == slip_number user number) s.slips))))
    ∙ ap (map slip_cells) one

-- ---- INSERT

abbrev add_slip_terms : List Term
add_slip_terms =
    lit Null ∷ col 0 0 ∷ col 0 1 ∷ col 0 2 ∷ col 0 3 ∷ col 0 4 ∷ col 0 5 ∷ col 0 6 ∷ col 0 7 ∷ col 0 8 ∷ col 0 9 ∷ col 0 10 ∷ col 0 11 ∷ []

pub add_slip_is : (command_of (understood bank_schema add_slip_text) ≡ Insert 14 (Values add_slip_terms 13)) × IsPlain (understood bank_schema add_slip_text)
unfolding understood everything
add_slip_is = (refl, (refl, refl))

blind : (r s : Row) → agree plain (1 ∷ 2 ∷ []) r (1 ∷ 2 ∷ []) s ≡ agree plain (1 ∷ 2 ∷ []) (Null ∷ drop 1 r) (1 ∷ 2 ∷ []) (Null ∷ drop 1 s)
blind [] [] = refl
blind [] (y ∷ s) = refl
blind (x ∷ r) [] = refl
blind (x ∷ r) (y ∷ s) = refl

alike : (x y : SlipRow) → SlipFits x → SlipFits y → slip_key x ≡ slip_key y → agree plain (1 ∷ 2 ∷ []) (Null ∷ slip_cells x) (1 ∷ 2 ∷ []) (Null ∷ slip_cells y) ≡ true
alike x y p q same =
    let parts = parts_of x.user x.number y.user y.number p.number q.number same in
    two_agree plain x.user x.number y.user y.number parts.0 parts.1

-- the row that an INSERT makes, by the rows that are there
abbrev new_slip : List Row → SlipRow → Row
new_slip rows r = Int (next_rowid rows) ∷ slip_cells r

news_are : (db : Trees) (r : SlipRow) → (edit_of db slips_table [] Chosen 0 (value_rows (slip_cells r) 13 (13 / 13) add_slip_terms)).news ≡ new_slip (db 25) r ∷ []
news_are db r =
    rw (
      cast_null,
      cast_int (pos r.user),
      cast_int (pos r.number),
      cast_int (pos (number_of r.operation.form)),
      cast_int (slice_index_or r.operation.members 0 (pos 0)),
      cast_int (slice_index_or r.operation.members 1 (pos 0)),
      cast_int (slice_index_or r.operation.members 2 (pos 0)),
      cast_int (slice_index_or r.operation.members 3 (pos 0)),
      cast_int (slice_index_or r.operation.members 4 (pos 0)),
      cast_int (slice_index_or r.operation.members 5 (pos 0)),
      cast_int (slice_index_or r.operation.members 6 (pos 0)),
      cast_int (slice_index_or r.operation.members 7 (pos 0)),
    ) refl

pub adds_slip : (old new : State) (s : Sheets) (r : SlipRow) (count : ℕ) → SlipFits r → HoldsTables old.now s → Executes add_slip_text (slip_cells r) old new (Ok count)
    → HoldsTables new.now (record s { slips = add_row slip_key r s.slips }) × IsFree slip_key s.slips (slip_key r)
adds_slip old new s r count fit holds h =
    let it = inserts bank_schema add_slip_text (slip_cells r) 14 slips_table add_slip_terms 13 add_slip_is.0 add_slip_is.1 refl refl refl old new count holds.schema h in
    let row = new_slip (old.now.trees 25) r in
    let put = puts slips_table row (value_rows (slip_cells r) 13 (13 / 13) add_slip_terms) old.now.trees new.now.trees it.applies (news_are old.now.trees r) in
    let free = apart_by_index slip_cells slip_key SlipFits slips_table slips_index slips_there slips_index_there refl blind alike old.now.trees new.now.trees row r s.slips put refl fit (holds.rows in_slips) in (
      record {
        schema = it.schema_is;
        sound = it.sound;
        rows = with_slips old.now.trees new.now.trees s (add_row slip_key r s.slips) holds.rows it.applies.tables
            (adds_by_columns slip_cells slip_key SlipFits slips_table old.now.trees new.now.trees row r s.slips put refl fit free (holds.rows in_slips));
      },
      free,
    )

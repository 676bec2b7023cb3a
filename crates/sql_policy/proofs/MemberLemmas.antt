-- What the statements on the members of sets do.
use Rattle.std.proofs.Common.{◌≡◌, ◌/◌, ◌<◌, ◌+◌, ◌*◌, ◌^◌, ℕ, pos, List, [], ◌∷◌, map, filter, drop, codes, true, false, Ok, refl, arith, sym, ◌∙◌}
use Rattle.sqlite.specs.Listing.{understood}
use Rattle.sqlite_tied.specs.Compute.{everything}
use Rattle.book_kept.specs.Sheets.{member_no}
use Rattle.book_kept.specs.declared.records.MemberRow.{MemberRow}
use Rattle.sql_schema.specs.Cells.{MemberFits, member_cells}
use Rattle.sql_schema.specs.Held.Sheet.{members as in_members}
use Rattle.sql_schema.specs.Numbers.{kind_number}
use Rattle.sql_schema.specs.Schema.{members_index, members_table}
use Rattle.sql_schema.proofs.NamedTables.{members_index_there, members_there}
use Rattle.sql_schema.proofs.FrameLemmas.{with_members}
use Rattle.sql_schema.proofs.TableNames.{eqb-true, Null, Int, Insert, Select, edit_of, value_rows, reads_listing, Row, Chosen, Values, Executes, Shown, State, Term, col, lit, Trees, output, IsPlain, command_of, next_rowid, agree, plain, add_row, IsFree, Sheets, HoldsTables, all_but_rowid, bank_schema, newest, adds_by_columns, apart_by_index, parts_of, puts, two_agree, answered, by_one, in_order, no_limit, no_offset, one_equals, rises_by_one, rising_key, passes, scan, cast_int, cast_null, inserts}
use Rattle.sql_policy.specs.Tests.{is_member_of}
use Rattle.sql_policy.specs.Texts.{add_member_text, members_text}

-- ---- SELECT

abbrev member_columns : List Term
member_columns = col 1 1 ∷ col 1 2 ∷ col 1 3 ∷ col 1 4 ∷ col 1 5 ∷ []

pub members_is : (command_of (understood bank_schema members_text) ≡ Select (record { lets = []; body = scan 3 by_one member_columns ((col 1 2, rising_key) ∷ []) no_limit no_offset }) (codes "set_no" ∷ codes "place" ∷ codes "kind" ∷ codes "low" ∷ codes "high" ∷ []))
    × (reads_listing bank_schema members_text ≡ false) × IsPlain (understood bank_schema members_text)
unfolding understood everything
members_is = (refl, refl, (refl, refl))

members_reads : (params r : Row) → (passes by_one params r ≡ passes by_one params (Null ∷ drop 1 r)) × (output (scan 3 by_one member_columns ((col 1 2, rising_key) ∷ []) no_limit no_offset) (params ∷ r ∷ []) ≡ output (scan 3 by_one member_columns ((col 1 2, rising_key) ∷ []) no_limit no_offset) (params ∷ (Null ∷ drop 1 r) ∷ []))
members_reads params [] = (refl, refl)
members_reads params (v ∷ r) = (refl, refl)

place_rises : (a b m n : ℕ) → a ≡ m → 2 ^ 32 * a + b < 2 ^ 32 * m + n → b < n
place_rises a b m n p less = omega (arith, p, less)

pub selects_members : (old new : State) (s : Sheets) (set : ℕ) (rows : List Row) → HoldsTables old.now s → Shown members_text (Int (pos set) ∷ []) old new rows → rows ≡ map member_cells (filter (is_member_of set) s.members)
selects_members old new s set rows holds h =
    let params = Int (pos set) ∷ [] in
    in_order all_but_rowid (λ c. Null ∷ c) member_cells member_no MemberFits 3 (λ db. refl) by_one member_columns ((col 1 2, rising_key) ∷ []) no_limit no_offset params (is_member_of set)
    (members_reads params) (λ x. one_equals x.set set) old.now.trees s.members rows (holds.rows in_members)
    (answered members_text _ (scan 3 by_one member_columns ((col 1 2, rising_key) ∷ []) no_limit no_offset) params members_is.0 members_is.1 members_is.2 old new rows holds.schema h)
    (λ x y p q less. rises_by_one x.place y.place (place_rises x.set x.place y.set y.place (eqb-true x.set set p ∙ sym (eqb-true y.set set q)) less))

-- ---- keys

alike : (x y : MemberRow) → MemberFits x → MemberFits y → member_no x ≡ member_no y → agree plain (1 ∷ 2 ∷ []) (Null ∷ member_cells x) (1 ∷ 2 ∷ []) (Null ∷ member_cells y) ≡ true
alike x y p q same = let parts = parts_of x.set x.place y.set y.place p q same in two_agree plain x.set x.place y.set y.place parts.0 parts.1

-- ---- INSERT

abbrev add_member_terms : List Term
add_member_terms = lit Null ∷ col 0 0 ∷ col 0 1 ∷ col 0 2 ∷ col 0 3 ∷ col 0 4 ∷ []

pub add_member_is : (command_of (understood bank_schema add_member_text) ≡ Insert 3 (Values add_member_terms 6)) × IsPlain (understood bank_schema add_member_text)
unfolding understood everything
add_member_is = (refl, (refl, refl))

blind : (r s : Row) → agree plain (1 ∷ 2 ∷ []) r (1 ∷ 2 ∷ []) s ≡ agree plain (1 ∷ 2 ∷ []) (Null ∷ drop 1 r) (1 ∷ 2 ∷ []) (Null ∷ drop 1 s)
blind [] [] = refl
blind [] (y ∷ s) = refl
blind (x ∷ r) [] = refl
blind (x ∷ r) (y ∷ s) = refl

-- the row that an INSERT makes, by the rows that are there
abbrev new_member : List Row → MemberRow → Row
new_member rows m = Int (next_rowid rows) ∷ member_cells m

news_are : (db : Trees) (m : MemberRow) → (edit_of db members_table [] Chosen 0 (value_rows (member_cells m) 6 (6 / 6) add_member_terms)).news ≡ new_member (db 3) m ∷ []
news_are db m = rw (cast_null, cast_int (pos m.set), cast_int (pos m.place), cast_int (pos (kind_number m.member.kind)), cast_int (pos m.member.low), cast_int (pos m.member.high)) refl

pub adds_member : (old new : State) (s : Sheets) (m : MemberRow) (count : ℕ) → MemberFits m → HoldsTables old.now s → Executes add_member_text (member_cells m) old new (Ok count)
    → HoldsTables new.now (record s { members = add_row member_no m s.members }) × IsFree member_no s.members (member_no m)
adds_member old new s m count fit holds h =
    let it = inserts bank_schema add_member_text (member_cells m) 3 members_table add_member_terms 6 add_member_is.0 add_member_is.1 refl refl refl old new count holds.schema h in
    let row = new_member (old.now.trees 3) m in
    let put = puts members_table row (value_rows (member_cells m) 6 (6 / 6) add_member_terms) old.now.trees new.now.trees it.applies (news_are old.now.trees m) in
    let free = apart_by_index member_cells member_no MemberFits members_table members_index (members_there newest) (members_index_there newest) refl blind alike
    old.now.trees new.now.trees row m s.members put refl fit (holds.rows in_members) in (
      record {
        schema = it.schema_is;
        sound = it.sound;
        rows = with_members old.now.trees new.now.trees s (add_row member_no m s.members) holds.rows it.applies.tables
            (adds_by_columns member_cells member_no MemberFits members_table old.now.trees new.now.trees row m s.members put refl fit free (holds.rows in_members));
      },
      free,
    )

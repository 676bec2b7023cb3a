-- What the INSERT of a line does.
use Rattle.std.proofs.Common.{◌≡◌, ◌/◌, ℕ, pos, List, [], ◌∷◌, drop, true, Ok, refl}
use Rattle.sqlite.specs.Listing.{understood}
use Rattle.sqlite_tied.specs.Compute.{everything}
use Rattle.bank_books.specs.Keys.{line_key}
use Rattle.bank_books.specs.declared.rows.CashLine.{CashLine}
use Rattle.sql_schema.specs.Cells.{LineFits, line_cells}
use Rattle.sql_schema.specs.Held.Sheet.{lines as in_lines}
use Rattle.sql_schema.specs.Numbers.{line_form_number}
use Rattle.sql_schema.specs.Schema.{lines_index, lines_table}
use Rattle.sql_schema.proofs.NamedTables.{lines_index_there, lines_there}
use Rattle.sql_schema.proofs.FrameLemmas.{with_lines}
use Rattle.sql_schema.proofs.TableNames.{Null, Int, Insert, edit_of, value_rows, Row, Chosen, Values, Executes, State, Term, col, lit, Trees, IsPlain, command_of, next_rowid, agree, plain, add_row, Sheets, HoldsTables, bank_schema, newest, adds_by_columns, apart_by_index, parts_of, puts, two_agree, cast_int, cast_null, inserts}
use Rattle.sql_books.specs.Texts.{add_line_text}

abbrev add_line_terms : List Term
add_line_terms = lit Null ∷ col 0 0 ∷ col 0 1 ∷ col 0 2 ∷ col 0 3 ∷ col 0 4 ∷ col 0 5 ∷ col 0 6 ∷ col 0 7 ∷ []

pub add_line_is : (command_of (understood bank_schema add_line_text) ≡ Insert 11 (Values add_line_terms 9)) × IsPlain (understood bank_schema add_line_text)
unfolding understood everything
add_line_is = (refl, (refl, refl))

blind : (r s : Row) → agree plain (1 ∷ 2 ∷ []) r (1 ∷ 2 ∷ []) s ≡ agree plain (1 ∷ 2 ∷ []) (Null ∷ drop 1 r) (1 ∷ 2 ∷ []) (Null ∷ drop 1 s)
blind [] [] = refl
blind [] (y ∷ s) = refl
blind (x ∷ r) [] = refl
blind (x ∷ r) (y ∷ s) = refl

alike : (x y : CashLine) → LineFits x → LineFits y → line_key x ≡ line_key y → agree plain (1 ∷ 2 ∷ []) (Null ∷ line_cells x) (1 ∷ 2 ∷ []) (Null ∷ line_cells y) ≡ true
alike x y p q same =
    let parts = parts_of x.branch x.number y.branch y.number p q same in
    two_agree plain x.branch x.number y.branch y.number parts.0 parts.1

-- the row that an INSERT makes, by the rows that are there
abbrev new_line : List Row → CashLine → Row
new_line rows r = Int (next_rowid rows) ∷ line_cells r

news_are : (db : Trees) (r : CashLine) → (edit_of db lines_table [] Chosen 0 (value_rows (line_cells r) 9 (9 / 9) add_line_terms)).news ≡ new_line (db 17) r ∷ []
news_are db r = rw (cast_null, cast_int (pos r.branch), cast_int (pos r.number), cast_int (pos r.place), cast_int r.amount, cast_int (pos (line_form_number r.form)), cast_int (pos r.moment), cast_int (pos r.day), cast_int (pos r.user)) refl

pub adds_line : (old new : State) (s : Sheets) (r : CashLine) (count : ℕ) → LineFits r → HoldsTables old.now s → Executes add_line_text (line_cells r) old new (Ok count)
    → HoldsTables new.now (record s { lines = add_row line_key r s.lines })
adds_line old new s r count fit holds h =
    let it = inserts bank_schema add_line_text (line_cells r) 11 lines_table add_line_terms 9 add_line_is.0 add_line_is.1 refl refl refl old new count holds.schema h in
    let row = new_line (old.now.trees 17) r in
    let put = puts lines_table row (value_rows (line_cells r) 9 (9 / 9) add_line_terms) old.now.trees new.now.trees it.applies (news_are old.now.trees r) in
    let free = apart_by_index line_cells line_key LineFits lines_table lines_index (lines_there newest) (lines_index_there newest) refl blind alike old.now.trees new.now.trees row r s.lines put refl fit (holds.rows in_lines) in
    record {
      schema = it.schema_is;
      sound = it.sound;
      rows = with_lines old.now.trees new.now.trees s (add_row line_key r s.lines) holds.rows it.applies.tables
          (adds_by_columns line_cells line_key LineFits lines_table old.now.trees new.now.trees row r s.lines put refl fit free (holds.rows in_lines));
    }

-- What the INSERT of a proof does.
use Rattle.std.proofs.Common.{◌≡◌, ◌/◌, ◌<◌, ◌^◌, ℕ, pos, List, [], ◌∷◌, drop, true, Ok, refl, ap, subst}
use Rattle.sqlite.specs.Listing.{understood}
use Rattle.sqlite_tied.specs.Compute.{everything}
use Rattle.sqlite_value.specs.Order.{column}
use Rattle.bank_books.specs.Keys.{proof_key}
use Rattle.bank_books.specs.declared.rows.Proof.{Proof}
use Rattle.sql_schema.specs.Cells.{ProofFits, proof_cells}
use Rattle.sql_schema.specs.Held.Sheet.{proofs as in_proofs}
use Rattle.sql_schema.specs.Schema.{proofs_index, proofs_table}
use Rattle.sql_schema.proofs.NamedTables.{proofs_index_there, proofs_there}
use Rattle.sql_schema.proofs.FrameLemmas.{with_proofs}
use Rattle.sql_schema.proofs.TableNames.{Null, Int, Insert, edit_of, value_rows, Row, Chosen, Values, Executes, State, Term, col, lit, Trees, IsPlain, command_of, next_rowid, agree, plain, add_row, IsFree, Sheets, HoldsTables, bank_schema, newest, adds_by_columns, apart_by_index, parts_of, puts, two_agree, cast_int, cast_null, inserts}
use Rattle.sql_books.specs.Given.{given_proof}
use Rattle.sql_books.specs.Texts.{add_proof_text}
use Rattle.sql_books.specs.declared.day_proofs.ProofCells.{ProofCells}

abbrev add_proof_terms : List Term
add_proof_terms = lit Null ∷ col 0 0 ∷ col 0 1 ∷ col 0 2 ∷ col 0 3 ∷ col 0 4 ∷ []

pub add_proof_is : (command_of (understood bank_schema add_proof_text) ≡ Insert 12 (Values add_proof_terms 6)) × IsPlain (understood bank_schema add_proof_text)
unfolding understood everything
add_proof_is = (refl, (refl, refl))

blind : (r s : Row) → agree plain (1 ∷ 2 ∷ []) r (1 ∷ 2 ∷ []) s ≡ agree plain (1 ∷ 2 ∷ []) (Null ∷ drop 1 r) (1 ∷ 2 ∷ []) (Null ∷ drop 1 s)
blind [] [] = refl
blind [] (y ∷ s) = refl
blind (x ∷ r) [] = refl
blind (x ∷ r) (y ∷ s) = refl

alike : (x y : Proof) → ProofFits x → ProofFits y → proof_key x ≡ proof_key y → agree plain (1 ∷ 2 ∷ []) (Null ∷ proof_cells x) (1 ∷ 2 ∷ []) (Null ∷ proof_cells y) ≡ true
alike x y p q same =
    let parts = parts_of x.branch x.day y.branch y.day p q same in
    two_agree plain x.branch x.day y.branch y.day parts.0 parts.1

-- the row that an INSERT makes, by the rows that are there
abbrev new_proof : List Row → Proof → Row
new_proof rows r = Int (next_rowid rows) ∷ proof_cells r

news_are : (db : Trees) (r : Proof) → (edit_of db proofs_table [] Chosen 0 (value_rows (proof_cells r) 6 (6 / 6) add_proof_terms)).news ≡ new_proof (db 19) r ∷ []
news_are db r = rw (cast_null, cast_int (pos r.branch), cast_int (pos r.day), cast_int (pos r.entries), cast_int r.balance, cast_int r.cash) refl

pub adds_proof : (old new : State) (s : Sheets) (r : Proof) (count : ℕ) → ProofFits r → HoldsTables old.now s → Executes add_proof_text (proof_cells r) old new (Ok count)
    → HoldsTables new.now (record s { proofs = add_row proof_key r s.proofs }) × IsFree proof_key s.proofs (proof_key r)
adds_proof old new s r count fit holds h =
    let it = inserts bank_schema add_proof_text (proof_cells r) 12 proofs_table add_proof_terms 6 add_proof_is.0 add_proof_is.1 refl refl refl old new count holds.schema h in
    let row = new_proof (old.now.trees 19) r in
    let put = puts proofs_table row (value_rows (proof_cells r) 6 (6 / 6) add_proof_terms) old.now.trees new.now.trees it.applies (news_are old.now.trees r) in
    let free = apart_by_index proof_cells proof_key ProofFits proofs_table proofs_index (proofs_there newest) (proofs_index_there newest) refl blind alike old.now.trees new.now.trees row r s.proofs put refl fit (holds.rows in_proofs) in (
      record {
        schema = it.schema_is;
        sound = it.sound;
        rows = with_proofs old.now.trees new.now.trees s (add_row proof_key r s.proofs) holds.rows it.applies.tables
            (adds_by_columns proof_cells proof_key ProofFits proofs_table old.now.trees new.now.trees row r s.proofs put refl fit free (holds.rows in_proofs));
      },
      free,
    )

-- ---- what is given with it

number_back : (m n : ℕ) → Int (pos m) ≡ Int (pos n) → m ≡ n
number_back m n e = cc

pub fits_by : (c : ProofCells) (p : Proof) → given_proof c ≡ proof_cells p → c.day < 2 ^ 32 → ProofFits p
fits_by c p same small = subst (λ day. day < 2 ^ 32) (number_back c.day p.day (ap (λ cells. column cells 1) same)) small

-- The queries for the row of the bank, whole.
use Rattle.std.proofs.Common.{ℕ, List, [], ◌∷◌, codes, inr, refl}
use Rattle.sqlite.specs.Listing.{understood}
use Rattle.sqlite.specs.Term.{Term, col}
use Rattle.sqlite_tied.specs.Compute.{everything}
use Rattle.sqlite_value.specs.declared.keys.Key.{Key}
use Rattle.sql_schema.specs.Cells.{AnyRow, bank_cells}
use Rattle.sql_schema.specs.Held.Sheet.{bank as in_bank}
use Rattle.sql_schema.specs.declared.edition.Edition.{Edition}
use Rattle.sql_schema.specs.declared.edition.Edition.TheVariants.{First, Second, Third}
use Rattle.sql_schema.specs.HeldRows.{all_of_it}
use Rattle.sql_schema.specs.Schema.{bank_table}
use Rattle.sql_schema.proofs.ReadLemmas.{rises_by_one, rising_key}
use Rattle.sql_schema.proofs.NamedTables.{bank_there}
use Rattle.sql_whole.specs.Texts.{all_bank_text}
use Rattle.sql_schema.specs.ReadBack.{stored_by_rowid}
use Rattle.sql_whole.specs.Whole.{TellsWhole}
use Rattle.sql_whole.proofs.WholeLemmas.{IsScanOf, by_rowid_whole}

-- ---- bank

abbrev bank_columns : List Term
bank_columns = col 1 0 ∷ col 1 2 ∷ col 1 3 ∷ []

abbrev bank_order : List (Term × Key)
bank_order = (col 1 0, rising_key) ∷ []

bank_is : (e : Edition) → IsScanOf e all_bank_text 0 bank_columns bank_order (codes "id" ∷ codes "version" ∷ codes "policy" ∷ [])
unfolding understood everything
bank_is First = (refl, refl, (refl, refl), (refl, refl), refl)
bank_is Second = (refl, refl, (refl, refl), (refl, refl), refl)
bank_is Third = (refl, refl, (refl, refl), (refl, refl), refl)

-- the key of its only row
abbrev pub bank_no : ℕ → ℕ
bank_no version = 1

pub tells_bank : (e : Edition) → TellsWhole e all_of_it (stored_by_rowid 2) bank_cells bank_no AnyRow in_bank all_bank_text
tells_bank e =
    by_rowid_whole e bank_cells bank_no AnyRow in_bank tt bank_table all_bank_text bank_columns bank_order _ 2 (bank_is e)
    (bank_there e) refl (λ db. refl) refl refl (inr refl) (λ r. refl) (λ version. refl) (λ x y _ _ less. rises_by_one 1 1 less)

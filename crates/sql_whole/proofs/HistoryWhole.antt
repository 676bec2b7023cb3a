-- The queries for lines, proofs, releases and slips, whole.
use Rattle.std.proofs.Common.{List, [], ◌∷◌, codes, inr, refl}
use Rattle.sqlite.specs.Listing.{understood}
use Rattle.sqlite.specs.Term.{Term, col}
use Rattle.sqlite_tied.specs.Compute.{everything}
use Rattle.sqlite_value.specs.declared.keys.Key.{Key}
use Rattle.bank_books.specs.Keys.{line_key, proof_key, release_key, slip_key}
use Rattle.book_kept.specs.Sheets.{slip_no}
use Rattle.sql_schema.specs.Cells.{AnyRow, LineFits, ProofFits, ReleaseFits, SlipFits, line_cells, proof_cells, release_cells, slip_cells, slip_count_cells}
use Rattle.sql_schema.specs.Held.Sheet.{lines as in_lines, proofs as in_proofs, releases as in_releases, slip_counts as in_slip_counts, slips as in_slips}
use Rattle.sql_schema.specs.declared.edition.Edition.{Edition}
use Rattle.sql_schema.specs.declared.edition.Edition.TheVariants.{First, Second, Third}
use Rattle.sql_schema.specs.HeldRows.{all_but_rowid, all_of_it}
use Rattle.sql_schema.specs.Schema.{lines_table, proofs_table, releases_table, slip_counts_table, slips_table}
use Rattle.sql_schema.specs.ReadBack.{stored_by_columns, stored_by_rowid}
use Rattle.sql_schema.proofs.ReadLemmas.{rises_by_one, rises_by_two, rising_key}
use Rattle.sql_schema.proofs.NamedTables.{lines_there, proofs_there, releases_there, slip_counts_there, slips_there}
use Rattle.sql_whole.specs.Texts.{all_lines_text, all_proofs_text, all_releases_text, all_slip_counts_text, all_slips_text}
use Rattle.sql_whole.specs.Whole.{TellsWhole}
use Rattle.sql_whole.proofs.WholeLemmas.{IsScanOf, ReadsNoRowid, by_columns_whole, by_rowid_whole, whole_scan}

-- ---- lines

abbrev lines_columns : List Term
lines_columns = col 1 1 ∷ col 1 2 ∷ col 1 3 ∷ col 1 4 ∷ col 1 5 ∷ col 1 6 ∷ col 1 7 ∷ col 1 8 ∷ []

abbrev lines_order : List (Term × Key)
lines_order = (col 1 1, rising_key) ∷ (col 1 2, rising_key) ∷ []

lines_is : (e : Edition) → IsScanOf e all_lines_text 17 lines_columns lines_order (codes "branch" ∷ codes "number" ∷ codes "place" ∷ codes "amount" ∷ codes "form" ∷ codes "moment" ∷ codes "day" ∷ codes "user_no" ∷ [])
unfolding understood everything
lines_is First = (refl, refl, (refl, refl), (refl, refl), refl)
lines_is Second = (refl, refl, (refl, refl), (refl, refl), refl)
lines_is Third = (refl, refl, (refl, refl), (refl, refl), refl)

lines_alike : ReadsNoRowid (whole_scan 17 lines_columns lines_order)
lines_alike [] = refl
lines_alike (id ∷ r) = refl

pub tells_lines : (e : Edition) → TellsWhole e all_but_rowid (stored_by_columns 8) line_cells line_key LineFits in_lines all_lines_text
tells_lines e =
    by_columns_whole e line_cells line_key LineFits in_lines tt lines_table all_lines_text lines_columns lines_order _ 8 (lines_is e)
    (lines_there e) refl (λ db. refl) refl refl (λ r. refl) lines_alike (λ x. refl)
    (λ x y p q less. rises_by_two x.branch x.number y.branch y.number p q less)

-- ---- proofs

abbrev proofs_columns : List Term
proofs_columns = col 1 1 ∷ col 1 2 ∷ col 1 3 ∷ col 1 4 ∷ col 1 5 ∷ []

abbrev proofs_order : List (Term × Key)
proofs_order = (col 1 1, rising_key) ∷ (col 1 2, rising_key) ∷ []

proofs_is : (e : Edition) → IsScanOf e all_proofs_text 19 proofs_columns proofs_order (codes "branch" ∷ codes "day" ∷ codes "entries" ∷ codes "balance" ∷ codes "cash" ∷ [])
unfolding understood everything
proofs_is First = (refl, refl, (refl, refl), (refl, refl), refl)
proofs_is Second = (refl, refl, (refl, refl), (refl, refl), refl)
proofs_is Third = (refl, refl, (refl, refl), (refl, refl), refl)

proofs_alike : ReadsNoRowid (whole_scan 19 proofs_columns proofs_order)
proofs_alike [] = refl
proofs_alike (id ∷ r) = refl

pub tells_proofs : (e : Edition) → TellsWhole e all_but_rowid (stored_by_columns 5) proof_cells proof_key ProofFits in_proofs all_proofs_text
tells_proofs e =
    by_columns_whole e proof_cells proof_key ProofFits in_proofs tt proofs_table all_proofs_text proofs_columns proofs_order _ 5 (proofs_is e)
    (proofs_there e) refl (λ db. refl) refl refl (λ r. refl) proofs_alike (λ x. refl)
    (λ x y p q less. rises_by_two x.branch x.day y.branch y.day p q less)

-- ---- releases

abbrev releases_columns : List Term
releases_columns = col 1 1 ∷ col 1 2 ∷ col 1 3 ∷ col 1 4 ∷ col 1 5 ∷ col 1 6 ∷ col 1 7 ∷ col 1 8 ∷ col 1 9 ∷ col 1 10 ∷ col 1 11 ∷ col 1 12 ∷ col 1 13 ∷ col 1 14 ∷ col 1 15 ∷ []

abbrev releases_order : List (Term × Key)
releases_order = (col 1 1, rising_key) ∷ (col 1 2, rising_key) ∷ []

releases_is : (e : Edition) → IsScanOf e all_releases_text 21 releases_columns releases_order (codes "user_no" ∷ codes "number" ∷ codes "giver" ∷ codes "branch" ∷ codes "day" ∷ codes "form" ∷ codes "member1" ∷ codes "member2" ∷ codes "member3" ∷ codes "member4" ∷ codes "member5" ∷ codes "member6" ∷ codes "member7" ∷ codes "member8" ∷ codes "used" ∷ [])
unfolding understood everything
releases_is First = (refl, refl, (refl, refl), (refl, refl), refl)
releases_is Second = (refl, refl, (refl, refl), (refl, refl), refl)
releases_is Third = (refl, refl, (refl, refl), (refl, refl), refl)

releases_alike : ReadsNoRowid (whole_scan 21 releases_columns releases_order)
releases_alike [] = refl
releases_alike (id ∷ r) = refl

pub tells_releases : (e : Edition) → TellsWhole e all_but_rowid (stored_by_columns 15) release_cells release_key ReleaseFits in_releases all_releases_text
tells_releases e =
    by_columns_whole e release_cells release_key ReleaseFits in_releases tt releases_table all_releases_text releases_columns releases_order _ 15 (releases_is e)
    (releases_there e) refl (λ db. refl) refl refl (λ r. refl) releases_alike (λ x. refl)
    (λ x y p q less. rises_by_two x.user x.number y.user y.number p.number q.number less)

-- ---- slips, which the third schema version alone has

abbrev slips_columns : List Term
slips_columns = col 1 1 ∷ col 1 2 ∷ col 1 3 ∷ col 1 4 ∷ col 1 5 ∷ col 1 6 ∷ col 1 7 ∷ col 1 8 ∷ col 1 9 ∷ col 1 10 ∷ col 1 11 ∷ col 1 12 ∷ []

abbrev slips_order : List (Term × Key)
slips_order = (col 1 1, rising_key) ∷ (col 1 2, rising_key) ∷ []

slips_is : IsScanOf Third all_slips_text 25 slips_columns slips_order (codes "user_no" ∷ codes "slip" ∷ codes "form" ∷ codes "member1" ∷ codes "member2" ∷ codes "member3" ∷ codes "member4" ∷ codes "member5" ∷ codes "member6" ∷ codes "member7" ∷ codes "member8" ∷ codes "reply" ∷ [])
unfolding understood everything
slips_is = (refl, refl, (refl, refl), (refl, refl), refl)

slips_alike : ReadsNoRowid (whole_scan 25 slips_columns slips_order)
slips_alike [] = refl
slips_alike (id ∷ r) = refl

pub tells_slips : TellsWhole Third all_but_rowid (stored_by_columns 12) slip_cells slip_key SlipFits in_slips all_slips_text
tells_slips =
    by_columns_whole Third slip_cells slip_key SlipFits in_slips tt slips_table all_slips_text slips_columns slips_order _ 12 slips_is
    slips_there refl (λ db. refl) refl refl (λ r. refl) slips_alike (λ x. refl)
    (λ x y p q less. rises_by_two x.user x.number y.user y.number p.number q.number less)

-- ---- how many slips each user has

abbrev counts_columns : List Term
counts_columns = col 1 0 ∷ col 1 2 ∷ []

abbrev counts_order : List (Term × Key)
counts_order = (col 1 0, rising_key) ∷ []

counts_is : IsScanOf Third all_slip_counts_text 27 counts_columns counts_order (codes "user_no" ∷ codes "slips" ∷ [])
unfolding understood everything
counts_is = (refl, refl, (refl, refl), (refl, refl), refl)

pub tells_slip_counts : TellsWhole Third all_of_it (stored_by_rowid 1) slip_count_cells slip_no AnyRow in_slip_counts all_slip_counts_text
tells_slip_counts =
    by_rowid_whole Third slip_count_cells slip_no AnyRow in_slip_counts tt slip_counts_table all_slip_counts_text counts_columns counts_order _ 1 counts_is
    slip_counts_there refl (λ db. refl) refl refl (inr refl) (λ r. refl) (λ x. refl)
    (λ x y _ _ less. rises_by_one x.user y.user less)

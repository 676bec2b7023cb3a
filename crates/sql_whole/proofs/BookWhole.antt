-- The queries for branches, tellers, accounts and entries, whole.
use Rattle.std.proofs.Common.{List, [], ◌∷◌, codes, inr, refl}
use Rattle.sqlite.specs.Listing.{understood}
use Rattle.sqlite.specs.Term.{Term, col}
use Rattle.sqlite_tied.specs.Compute.{everything}
use Rattle.sqlite_value.specs.declared.keys.Key.{Key}
use Rattle.book_kept.specs.Sheets.{account_no, branch_no, entry_no, teller_no}
use Rattle.sql_schema.specs.Cells.{AnyRow, EntryFits, account_cells, branch_cells, entry_cells, teller_cells}
use Rattle.sql_schema.specs.Held.Sheet.{branches as in_branches, tellers as in_tellers, accounts as in_accounts, entries as in_entries}
use Rattle.sql_schema.specs.declared.edition.Edition.{Edition}
use Rattle.sql_schema.specs.declared.edition.Edition.TheVariants.{First, Second, Third}
use Rattle.sql_schema.specs.HeldRows.{all_but_rowid, all_of_it}
use Rattle.sql_schema.specs.Schema.{accounts_table, branches_table, entries_table, tellers_table}
use Rattle.sql_schema.specs.ReadBack.{stored_by_columns, stored_by_rowid}
use Rattle.sql_schema.proofs.ReadLemmas.{rises_by_one, rises_by_two, rising_key}
use Rattle.sql_schema.proofs.NamedTables.{accounts_there, branches_there, entries_there, tellers_there}
use Rattle.sql_whole.specs.Texts.{all_branches_text, all_tellers_text, all_accounts_text, all_entries_text}
use Rattle.sql_whole.specs.Whole.{TellsWhole}
use Rattle.sql_whole.proofs.WholeLemmas.{IsScanOf, ReadsNoRowid, by_columns_whole, by_rowid_whole, whole_scan}

-- ---- branches

abbrev branches_columns : List Term
branches_columns = col 1 0 ∷ col 1 2 ∷ col 1 3 ∷ col 1 4 ∷ col 1 5 ∷ col 1 6 ∷ col 1 7 ∷ col 1 8 ∷ col 1 9 ∷ col 1 10 ∷ col 1 11 ∷ col 1 12 ∷ col 1 13 ∷ []

abbrev branches_order : List (Term × Key)
branches_order = (col 1 0, rising_key) ∷ []

branches_is : (e : Edition) → IsScanOf e all_branches_text 11 branches_columns branches_order (codes "branch" ∷ codes "opening" ∷ codes "cash" ∷ codes "day" ∷ codes "balance" ∷ codes "vault" ∷ codes "entries" ∷ codes "lines" ∷ codes "accounts" ∷ codes "history" ∷ codes "drawers" ∷ codes "cash_entries" ∷ codes "differences" ∷ [])
unfolding understood everything
branches_is First = (refl, refl, (refl, refl), (refl, refl), refl)
branches_is Second = (refl, refl, (refl, refl), (refl, refl), refl)
branches_is Third = (refl, refl, (refl, refl), (refl, refl), refl)

pub tells_branches : (e : Edition) → TellsWhole e all_of_it (stored_by_rowid 12) branch_cells branch_no AnyRow in_branches all_branches_text
tells_branches e =
    by_rowid_whole e branch_cells branch_no AnyRow in_branches tt branches_table all_branches_text branches_columns branches_order _ 12 (branches_is e)
    (branches_there e) refl (λ db. refl) refl refl (inr refl) (λ r. refl) (λ x. refl)
    (λ x y _ _ less. rises_by_one x.row.branch y.row.branch less)

-- ---- tellers

abbrev tellers_columns : List Term
tellers_columns = col 1 0 ∷ col 1 2 ∷ col 1 3 ∷ col 1 4 ∷ col 1 5 ∷ col 1 6 ∷ []

abbrev tellers_order : List (Term × Key)
tellers_order = (col 1 0, rising_key) ∷ []

tellers_is : (e : Edition) → IsScanOf e all_tellers_text 12 tellers_columns tellers_order (codes "teller" ∷ codes "branch" ∷ codes "opening" ∷ codes "balance" ∷ codes "cash" ∷ codes "holder" ∷ [])
unfolding understood everything
tellers_is First = (refl, refl, (refl, refl), (refl, refl), refl)
tellers_is Second = (refl, refl, (refl, refl), (refl, refl), refl)
tellers_is Third = (refl, refl, (refl, refl), (refl, refl), refl)

pub tells_tellers : (e : Edition) → TellsWhole e all_of_it (stored_by_rowid 5) teller_cells teller_no AnyRow in_tellers all_tellers_text
tells_tellers e =
    by_rowid_whole e teller_cells teller_no AnyRow in_tellers tt tellers_table all_tellers_text tellers_columns tellers_order _ 5 (tellers_is e)
    (tellers_there e) refl (λ db. refl) refl refl (inr refl) (λ r. refl) (λ x. refl)
    (λ x y _ _ less. rises_by_one x.row.teller y.row.teller less)

-- ---- accounts

abbrev accounts_columns : List Term
accounts_columns = col 1 0 ∷ col 1 2 ∷ col 1 3 ∷ col 1 4 ∷ col 1 5 ∷ col 1 6 ∷ []

abbrev accounts_order : List (Term × Key)
accounts_order = (col 1 0, rising_key) ∷ []

accounts_is : (e : Edition) → IsScanOf e all_accounts_text 13 accounts_columns accounts_order (codes "account" ∷ codes "home" ∷ codes "opening" ∷ codes "floor" ∷ codes "balance" ∷ codes "turns" ∷ [])
unfolding understood everything
accounts_is First = (refl, refl, (refl, refl), (refl, refl), refl)
accounts_is Second = (refl, refl, (refl, refl), (refl, refl), refl)
accounts_is Third = (refl, refl, (refl, refl), (refl, refl), refl)

pub tells_accounts : (e : Edition) → TellsWhole e all_of_it (stored_by_rowid 5) account_cells account_no AnyRow in_accounts all_accounts_text
tells_accounts e =
    by_rowid_whole e account_cells account_no AnyRow in_accounts tt accounts_table all_accounts_text accounts_columns accounts_order _ 5 (accounts_is e)
    (accounts_there e) refl (λ db. refl) refl refl (inr refl) (λ r. refl) (λ x. refl)
    (λ x y _ _ less. rises_by_one x.row.account y.row.account less)

-- ---- entries

abbrev entries_columns : List Term
entries_columns = col 1 1 ∷ col 1 2 ∷ col 1 3 ∷ col 1 4 ∷ col 1 5 ∷ col 1 6 ∷ col 1 7 ∷ col 1 8 ∷ col 1 9 ∷ col 1 10 ∷ col 1 11 ∷ col 1 12 ∷ col 1 13 ∷ []

abbrev entries_order : List (Term × Key)
entries_order = (col 1 1, rising_key) ∷ (col 1 2, rising_key) ∷ []

entries_is : (e : Edition) → IsScanOf e all_entries_text 14 entries_columns entries_order (codes "branch" ∷ codes "number" ∷ codes "account" ∷ codes "turn" ∷ codes "teller" ∷ codes "delta" ∷ codes "moment" ∷ codes "day" ∷ codes "user_no" ∷ codes "form" ∷ codes "partner" ∷ codes "undoes" ∷ codes "balance_after" ∷ [])
unfolding understood everything
entries_is First = (refl, refl, (refl, refl), (refl, refl), refl)
entries_is Second = (refl, refl, (refl, refl), (refl, refl), refl)
entries_is Third = (refl, refl, (refl, refl), (refl, refl), refl)

entries_alike : ReadsNoRowid (whole_scan 14 entries_columns entries_order)
entries_alike [] = refl
entries_alike (id ∷ r) = refl

pub tells_entries : (e : Edition) → TellsWhole e all_but_rowid (stored_by_columns 13) entry_cells entry_no EntryFits in_entries all_entries_text
tells_entries e =
    by_columns_whole e entry_cells entry_no EntryFits in_entries tt entries_table all_entries_text entries_columns entries_order _ 13 (entries_is e)
    (entries_there e) refl (λ db. refl) refl refl (λ r. refl) entries_alike (λ x. refl)
    (λ x y p q less. rises_by_two x.row.branch x.row.number y.row.branch y.row.number p q less)

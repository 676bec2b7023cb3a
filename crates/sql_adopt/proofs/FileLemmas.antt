-- Tables that are known to hold a World are those of a bank: what a store leaves may be adopted.
use Rattle.std.proofs.Common.{◌≡◌, ◌≢◌, ◌∙◌, ◌<◌, ◌-◌, ℕ, zero, suc, List, [], ◌∷◌, map, length, Contains, refl, sym, ap, subst, arith}
use Rattle.std.proofs.lemmas.List.{length-drop}
use Rattle.std.proofs.lemmas.List.Sorted.{Contains-permutation, IsPermutation-sym}
use Rattle.sqlite.specs.Order.{Row}
use Rattle.sqlite.specs.State.{State}
use Rattle.sqlite.specs.Tree.{Trees}
use Rattle.keyed_rows.proofs.Rows.{Contains-map, Contains-map_source}
use Rattle.bank_books.specs.SlipRow.{SlipRow}
use Rattle.bank_books.specs.WorldLists.{WorldLists}
use Rattle.sql_schema.specs.Cells.{TripleFitsIn, bank_cells_in, edition_number, triple_cells_in}
use Rattle.bank_policy.specs.PolicyKeys.{triple_key}
use Rattle.bank_policy.specs.declared.rows.Triple.{Triple}
use Rattle.sql_schema.specs.declared.edition.Edition.{Edition}
use Rattle.sql_schema.specs.declared.edition.Edition.TheVariants.{First, Second, Third}
use Rattle.sql_schema.specs.Held.{HasSlips, HoldsBank, HoldsSheetsIn, HoldsSlipCountsIn, HoldsSlipsIn, IsIn, Sheet, tree_of}
use Rattle.sql_schema.specs.Held.Sheet.{accounts as in_accounts, bank as in_bank, branches as in_branches, certifiers as in_certifiers, entries as in_entries, lines as in_lines, members as in_members, proofs as in_proofs, relations as in_relations, releases as in_releases, sets as in_sets, slip_counts as in_slip_counts, slips as in_slips, tellers as in_tellers, triples as in_triples, users as in_users}
use Rattle.sql_schema.specs.HeldRows.{HoldsRows, all_but_rowid, all_of_it}
use Rattle.sql_schema.specs.Schema.{newest}
use Rattle.book_kept.specs.Sheets.{Sheets, sheets_of}
use Rattle.sql_whole.specs.Whole.{IsKeptTable}
use Rattle.sql_adopt.specs.Adopted.{HoldsBankIn, IsBankFile, IsBankFileIn, IsOfAnother}
use Rattle.sql_adopt.specs.Older.{IsNewestFile, IsOlderFile}
use Rattle.sql_adopt.proofs.TakenLemmas.{number_in, same_number}

module _ {X : Type 0} (cells : X → Row) (key : X → ℕ) (Fits : X → Type 0) (rows : List X) (tree : List Row) where
  -- a row of the tree shows what the cells of some row are
  shown : (shows : Row → Row) (row : Row) → HoldsRows shows cells key Fits rows tree → Contains tree row → (x : X) × (cells x ≡ shows row)
  shown shows row held there =
      let at = Contains-permutation (map shows tree) (map cells rows) (shows row) (IsPermutation-sym (map cells rows) (map shows tree) held.same) (Contains-map shows tree row there) in
      let source = Contains-map_source cells rows (shows row) at in
      (source.0, source.1.1)

  -- a table whose rowid is its key
  pub kept_by_key : ((x : X) → 1 < length (cells x)) → HoldsRows all_of_it cells key Fits rows tree → IsKeptTable tree
  kept_by_key wide held = record {
    shaped = held.shaped;
    beside = λ row there. let found = shown all_of_it row held there in subst (λ r. 1 < length r) found.1 (wide found.0);
  }

  -- any other table
  pub kept_beside_rowid : ((x : X) → 0 < length (cells x)) → HoldsRows all_but_rowid cells key Fits rows tree → IsKeptTable tree
  kept_beside_rowid wide held = record {
    shaped = held.shaped;
    beside = λ row there.
        let found = shown all_but_rowid row held there in
        let more : 0 < length row - 1 = subst (λ n. 0 < n) (length-drop 1 row) (subst (λ r. 0 < length r) found.1 (wide found.0)) in
        omega (arith, more);
  }

-- the table of the bank has one row
wide_bank : (e : Edition) (version : ℕ) (row : Row) → Contains (bank_cells_in e version ∷ []) row → 1 < length row
wide_bank e version row (zero, within, is) = subst (λ r. 1 < length r) is (omega arith)
wide_bank e version row (suc k, within, is) = let inside : suc k < 1 = within in omega (arith, inside)

kept_bank : (e : Edition) (version : ℕ) → IsKeptTable (bank_cells_in e version ∷ [])
kept_bank e version = record { shaped = ((tt, tt), (refl, tt)); beside = wide_bank e version }

kept_triples : (e : Edition) (rows : List Triple) (tree : List Row) → HoldsRows all_but_rowid (triple_cells_in e) triple_key (TripleFitsIn e) rows tree → IsKeptTable tree
kept_triples First rows tree held = kept_beside_rowid _ _ _ _ _ (λ x. omega arith) held
kept_triples Second rows tree held = kept_beside_rowid _ _ _ _ _ (λ x. omega arith) held
kept_triples Third rows tree held = kept_beside_rowid _ _ _ _ _ (λ x. omega arith) held

kept_slips : (e : Edition) (rows : List SlipRow) (tree : List Row) → HasSlips e → HoldsSlipsIn e rows tree → IsKeptTable tree
kept_slips First rows tree inside held = absurd inside
kept_slips Second rows tree inside held = absurd inside
kept_slips Third rows tree inside held = kept_beside_rowid _ _ _ _ _ (λ x. omega arith) held

kept_counts : (e : Edition) (s : Sheets) (tree : List Row) → HasSlips e → HoldsSlipCountsIn e s tree → IsKeptTable tree
kept_counts First s tree inside held = absurd inside
kept_counts Second s tree inside held = absurd inside
kept_counts Third s tree inside held = kept_by_key _ _ _ _ _ (λ x. omega arith) held

kept_sheets : (e : Edition) (db : Trees) (s : Sheets) → HoldsSheetsIn e db s → (t : Sheet) → IsIn e t → IsKeptTable (db (tree_of t))
kept_sheets e db s holds in_bank inside = subst IsKeptTable (sym (holds in_bank)) (kept_bank e s.version)
kept_sheets e db s holds in_users inside = kept_by_key _ _ _ _ _ (λ x. omega arith) (holds in_users)
kept_sheets e db s holds in_sets inside = kept_by_key _ _ _ _ _ (λ x. omega arith) (holds in_sets)
kept_sheets e db s holds in_members inside = kept_beside_rowid _ _ _ _ _ (λ x. omega arith) (holds in_members)
kept_sheets e db s holds in_relations inside = kept_beside_rowid _ _ _ _ _ (λ x. omega arith) (holds in_relations)
kept_sheets e db s holds in_triples inside = kept_triples e _ _ (holds in_triples)
kept_sheets e db s holds in_certifiers inside = kept_beside_rowid _ _ _ _ _ (λ x. omega arith) (holds in_certifiers)
kept_sheets e db s holds in_branches inside = kept_by_key _ _ _ _ _ (λ x. omega arith) (holds in_branches)
kept_sheets e db s holds in_tellers inside = kept_by_key _ _ _ _ _ (λ x. omega arith) (holds in_tellers)
kept_sheets e db s holds in_accounts inside = kept_by_key _ _ _ _ _ (λ x. omega arith) (holds in_accounts)
kept_sheets e db s holds in_entries inside = kept_beside_rowid _ _ _ _ _ (λ x. omega arith) (holds in_entries)
kept_sheets e db s holds in_lines inside = kept_beside_rowid _ _ _ _ _ (λ x. omega arith) (holds in_lines)
kept_sheets e db s holds in_proofs inside = kept_beside_rowid _ _ _ _ _ (λ x. omega arith) (holds in_proofs)
kept_sheets e db s holds in_releases inside = kept_beside_rowid _ _ _ _ _ (λ x. omega arith) (holds in_releases)
kept_sheets e db s holds in_slips inside = kept_slips e s.slips (db 25) inside (holds in_slips)
kept_sheets e db s holds in_slip_counts inside = kept_counts e s (db 27) inside (holds in_slip_counts)

-- what holds a World, with nothing uncommitted, is a bank's file in its schema version
bank_is_file_in : (e : Edition) (s : State) (w : WorldLists) → HoldsBankIn e s w → IsBankFileIn e s
bank_is_file_in e s w bank = record {
  schema = bank.now.schema;
  kept = kept_sheets e s.now.trees (sheets_of w) bank.now.world.rows;
  settled = bank.settled;
}

pub bank_is_file : (s : State) (w : WorldLists) → HoldsBank s w → IsBankFile s
bank_is_file s w bank = bank_is_file_in newest s w (record { now = bank.now; settled = bank.settled })

pub newest_bank_is_file : (s : State) (w : WorldLists) → HoldsBank s w → IsNewestFile s
newest_bank_is_file s w bank = record { file = bank_is_file s w bank; version = w.version; row = bank.now.world.rows in_bank }

-- ---- the row of the bank names the schema version

one_edition : (e other : Edition) → edition_number e ≡ edition_number other → other ≡ e
one_edition First First same = refl
one_edition First Second same = absurd (omega (arith, same))
one_edition First Third same = absurd (omega (arith, same))
one_edition Second First same = absurd (omega (arith, same))
one_edition Second Second same = refl
one_edition Second Third same = absurd (omega (arith, same))
one_edition Third First same = absurd (omega (arith, same))
one_edition Third Second same = absurd (omega (arith, same))
one_edition Third Third same = refl

pub older_bank_is_file : (e : Edition) (s : State) (w : WorldLists) → e ≢ newest → HoldsBankIn e s w → IsOlderFile e s
older_bank_is_file e s w older bank = record {
  older = older;
  file = bank_is_file_in e s w bank;
  row = λ other policy is. one_edition e other (same_number e other (ap (number_in 2) (sym is ∙ bank.now.world.rows in_bank)));
}

pub other_bank_is_file : (e edition : Edition) (s : State) (w : WorldLists) → e ≢ edition → HoldsBankIn e s w → IsOfAnother edition s
other_bank_is_file e edition s w differs bank = record {
  is = e;
  file = bank_is_file_in e s w bank;
  version = w.version;
  row = bank.now.world.rows in_bank;
  differs = λ same. differs (sym (one_edition e edition same));
}

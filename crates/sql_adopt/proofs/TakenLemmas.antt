-- That tables which hold a sound bank are read whole, and give its rows, or the database fails.
use Rattle.std.proofs.Common.{◌≡◌, ◌≢◌, ◌∙◌, ℕ, ℤ, pos, List, [], ◌∷◌, map, Ok, Err, IfErr, IfOk, IsErrAnd, IsOk, Option, Some, None, Result, refl, sym, ap, subst}
use Rattle.sqlite.specs.Order.{Row}
use Rattle.sqlite.specs.Tree.{Trees}
use Rattle.sqlite_value.specs.Order.{column}
use Rattle.bank_policy.specs.PolicyKeys.{certifier_key, relation_key, triple_key}
use Rattle.bank_books.specs.Keys.{line_key, proof_key, release_key, slip_key}
use Rattle.sql_schema.specs.Cells.{AnyRow, EntryFits, LineFits, MemberFits, ProofFits, RelationFits, ReleaseFits, SlipFits, TripleFitsIn, account_cells, bank_cells_in, edition_number, branch_cells, certifier_cells, entry_cells, line_cells, member_cells, proof_cells, relation_cells, release_cells, set_cells, slip_cells, slip_count_cells, teller_cells, triple_cells_in, user_cells}
use Rattle.sql_schema.specs.Held.{HoldsSheetsIn, HoldsSlipCountsIn, HoldsSlipsIn, Sheet, set_no, tree_of, without_slips}
use Rattle.sql_schema.specs.Held.Sheet.{accounts as in_accounts, bank as in_bank, branches as in_branches, certifiers as in_certifiers, entries as in_entries, lines as in_lines, members as in_members, proofs as in_proofs, relations as in_relations, releases as in_releases, sets as in_sets, slip_counts as in_slip_counts, slips as in_slips, tellers as in_tellers, triples as in_triples, users as in_users}
use Rattle.sql_schema.specs.declared.edition.Edition.{Edition}
use Rattle.sql_schema.specs.declared.edition.Edition.TheVariants.{First, Second, Third}
use Rattle.bank_books.specs.SlipRow.{SlipRow}
use Rattle.book_kept.specs.declared.records.KeptUser.{KeptUser}
use Rattle.book_kept.specs.declared.records.SlipCount.{SlipCount}
use Rattle.sql_schema.specs.HeldRows.{HoldsRows, all_but_rowid, all_of_it}
use Rattle.book_kept.specs.Sheets.{Sheets, account_no, branch_no, entry_no, member_no, slip_no, teller_no, user_no}
use Rattle.store_sql.proofs.CellLemmas as cells
use Rattle.store_sql.proofs.OrderLemmas.{same_rows}
use Rattle.sql_whole.specs.BankRow.{IsBankTable, bank_row_cells}
use Rattle.sql_whole.specs.BookRows.{AreBookRows}
use Rattle.sql_whole.specs.PolicyTables.{ArePolicyTables}
use Rattle.sql_whole.specs.Tables.{AreSlipCounts, AreSlips}
use Rattle.sql_whole.specs.Whole.{AreAll}
use Rattle.sql_whole.specs.declared.bank.BankRow.{BankRow}
use Rattle.sql_whole.specs.declared.book_rows.BookRows.{BookRows}
use Rattle.sql_whole.specs.declared.policy_tables.PolicyTables.{PolicyTables}
use Rattle.sql_adopt.specs.Adopted.{IsBankNumber, IsBankRow}
use Rattle.sql_adopt.specs.Refused.{IsOfOther, IsOfStore, IsRefusedIn}
use Rattle.sql_adopt.specs.declared.adopt_fault.AdoptFault.TheVariants.{Books, Fault, NotABank, Policy, Version}
use Rattle.std.proofs.lemmas.Option.{same_Some}
use Rattle.sql_adopt.specs.ReadBack.{sheets_read}
use Rattle.sql_adopt.specs.declared.adopt_fault.AdoptFault.{AdoptFault}

-- ---- results

pub never_refused : {X E : Type 0} (r : Result X E) (P : E → Type 0) → IsOk r → IfErr r P
never_refused (Ok x) P is = tt
never_refused (Err e) P is = absurd cc

pub handed_fault : {X : Type 0} (r : Result X AdoptFault) (fault : AdoptFault) → IsErrAnd r (λ e. e ≡ fault) → IsOfStore fault → IfErr r IsOfStore
handed_fault (Ok x) fault same store = tt
handed_fault (Err e) fault same store = subst IsOfStore (sym same) store

pub handed_both : {X : Type 0} (r : Result X AdoptFault) (fault : AdoptFault) (P : X → Type 0) → IsErrAnd r (λ e. e ≡ fault) → IsOfStore fault → IfOk r P × IfErr r IsOfStore
handed_both (Ok x) fault P same store = absurd same
handed_both (Err e) fault P same store = (tt, subst IsOfStore (sym same) store)

-- ---- the row of the bank

abbrev first_row : List Row → Row
first_row [] = []
first_row (r ∷ rows) = r

abbrev pub number_in : ℕ → List Row → ℤ
number_in place rows = cells.int_of (column (first_row rows) place)

-- a table that has the row of a bank is found to have it
pub first_found : (e : Edition) (db : Trees) (found : Option BankRow) (version : ℕ) → IsBankTable db found → IsBankRow e db version → found ≡ Some (record { id = pos 1; version = pos (edition_number e); policy = pos version })
first_found e db None version table row = absurd (table (record { id = pos 1; version = pos (edition_number e); policy = pos version }) row)
first_found e db (Some b) version table row =
    let same : bank_row_cells b ∷ [] ≡ bank_cells_in e version ∷ [] = sym table ∙ row in
    λ i. Some (record { id = number_in 0 (same i); version = number_in 2 (same i); policy = number_in 3 (same i) })

-- the version of the policy in the row of a bank is a count
pub counted : (e : Edition) (db : Trees) (policy : ℤ) (version : ℕ) (r : Result ℕ AdoptFault) → IfErr r (λ _. (n : ℕ) → policy ≢ pos n) → IsBankNumber e db policy → IsBankRow e db version → IfErr r IsOfStore
counted e db policy version (Ok n) none number row = tt
counted e db policy version (Err x) none number row = absurd (none version (ap (number_in 3) (sym number ∙ row)))

-- ---- the rows that were read are those that the tables hold

module _ {X : Type 0} (shows : Row → Row) (row_cells : X → Row) (key : X → ℕ) (Fits : X → Type 0) (back : Row → X) (tells : (x : X) → Fits x → back (row_cells x) ≡ x) (t : Sheet) (db : Trees) where
  held_is_read : (xs rows : List X) → HoldsRows shows row_cells key Fits xs (db (tree_of t)) → AreAll shows row_cells key Fits t db rows → xs ≡ rows
  held_is_read xs rows held all = same_rows shows row_cells key Fits back tells xs rows held.fit all.fit (sym (all.in_order xs held))

slips_are_read : (e : Edition) (db : Trees) (held rows : List SlipRow) → HoldsSlipsIn e held (db 25) → AreSlips e db rows → held ≡ rows
slips_are_read First db held rows h are = h ∙ sym are
slips_are_read Second db held rows h are = h ∙ sym are
slips_are_read Third db held rows h are = held_is_read all_but_rowid slip_cells slip_key SlipFits cells.slip_back cells.slip_tells in_slips db held rows h are

counts_are_read : (e : Edition) (db : Trees) (s : Sheets) (users : List KeptUser) (rows : List SlipCount) → s.users ≡ users → HoldsSlipCountsIn e s (db 27) → AreSlipCounts e users db rows → s.slip_counts ≡ rows
counts_are_read First db s users rows same h are = h ∙ ap (map without_slips) same ∙ sym are
counts_are_read Second db s users rows same h are = h ∙ ap (map without_slips) same ∙ sym are
counts_are_read Third db s users rows same h are = held_is_read all_of_it slip_count_cells slip_no AnyRow cells.slip_count_back (λ x fits. cells.slip_count_tells x) in_slip_counts db s.slip_counts rows h are

pub sheets_are_read : (e : Edition) (db : Trees) (s : Sheets) (books : BookRows) (tables : PolicyTables) (version : ℕ) → HoldsSheetsIn e db s → IsBankRow e db version → AreBookRows e db books → ArePolicyTables e db tables → s ≡ sheets_read books tables version
sheets_are_read e db s books tables version h row b p =
    let users = held_is_read all_of_it user_cells user_no AnyRow cells.user_back (λ x fits. cells.user_tells x) in_users db s.users books.users.users.items (h in_users) b.users.users in
    let sets = held_is_read all_of_it set_cells set_no AnyRow cells.set_back (λ x fits. cells.set_tells x) in_sets db s.sets tables.sets.sets.items (h in_sets) p.sets.sets in
    let members = held_is_read all_but_rowid member_cells member_no MemberFits cells.member_back (λ x fits. cells.member_tells x) in_members db s.members tables.sets.members.items (h in_members) p.sets.members in
    let relations = held_is_read all_but_rowid relation_cells relation_key RelationFits cells.relation_back (λ x fits. cells.relation_tells x) in_relations db s.relations tables.grants.relations.items (h in_relations) p.grants.relations in
    let triples = held_is_read all_but_rowid (triple_cells_in e) triple_key (TripleFitsIn e) (cells.triple_back_in e) (cells.triple_tells_in e) in_triples db s.triples tables.grants.triples.items (h in_triples) p.grants.triples in
    let certifiers = held_is_read all_but_rowid certifier_cells certifier_key AnyRow cells.certifier_back (λ x fits. cells.certifier_tells x) in_certifiers db s.certifiers tables.grants.certifiers.items (h in_certifiers) p.grants.certifiers in
    let branches = held_is_read all_of_it branch_cells branch_no AnyRow cells.branch_back (λ x fits. cells.branch_tells x) in_branches db s.branches books.ledger.branches.items (h in_branches) b.ledger.branches in
    let tellers = held_is_read all_of_it teller_cells teller_no AnyRow cells.teller_back (λ x fits. cells.teller_tells x) in_tellers db s.tellers books.ledger.tellers.items (h in_tellers) b.ledger.tellers in
    let accounts = held_is_read all_of_it account_cells account_no AnyRow cells.account_back (λ x fits. cells.account_tells x) in_accounts db s.accounts books.ledger.accounts.items (h in_accounts) b.ledger.accounts in
    let entries = held_is_read all_but_rowid entry_cells entry_no EntryFits cells.entry_back (λ x fits. cells.entry_tells x) in_entries db s.entries books.history.entries.items (h in_entries) b.history.entries in
    let lines = held_is_read all_but_rowid line_cells line_key LineFits cells.line_back (λ x fits. cells.line_tells x) in_lines db s.lines books.history.lines.items (h in_lines) b.history.lines in
    let proofs = held_is_read all_but_rowid proof_cells proof_key ProofFits cells.proof_back (λ x fits. cells.proof_tells x) in_proofs db s.proofs books.history.proofs.items (h in_proofs) b.history.proofs in
    let releases = held_is_read all_but_rowid release_cells release_key ReleaseFits cells.release_back cells.release_tells in_releases db s.releases books.users.releases.items (h in_releases) b.users.releases in
    let slips = slips_are_read e db s.slips books.slips.slips.items (h in_slips) b.slips.slips in
    let slip_counts = counts_are_read e db s books.users.users.items books.slips.counts.items users (h in_slip_counts) b.slips.counts in
    let version_is : s.version ≡ version = ap (λ rows. cells.version_back (first_row rows)) (sym (h in_bank) ∙ row) in
    λ i. record { users = users i; sets = sets i; members = members i; relations = relations i; triples = triples i; certifiers = certifiers i; branches = branches i; tellers = tellers i; accounts = accounts i; entries = entries i; lines = lines i; proofs = proofs i; releases = releases i; slips = slips i; slip_counts = slip_counts i; version = version_is i }

-- ---- tables of another schema version

pub same_number : (e edition : Edition) → pos (edition_number edition) ≡ pos (edition_number e) → edition_number e ≡ edition_number edition
same_number e edition is = cc

stated_other : (e edition : Edition) (db : Trees) (version : ℕ) → IsBankRow e db version → edition_number e ≢ edition_number edition → (fault : AdoptFault) → IsRefusedIn edition db fault → IsOfOther fault
stated_other e edition db version row differs NotABank refused = absurd (refused (record { id = pos 1; version = pos (edition_number e); policy = pos version }) refl row)
stated_other e edition db version row differs Version refused = tt
stated_other e edition db version row differs (Books fault) refused = absurd (differs (same_number e edition (ap (number_in 2) (sym refused.row ∙ row))))
stated_other e edition db version row differs (Policy fault) refused = absurd (differs (same_number e edition (ap (number_in 2) (sym refused.row ∙ row))))
stated_other e edition db version row differs (Fault fault) refused = tt

-- the row of one schema version is not taken for that of another
pub other_reported : (e edition : Edition) (db : Trees) (version : ℕ) (found : Option BankRow) (r : Result BankRow AdoptFault) → IsBankTable db found → IsBankRow e db version → edition_number e ≢ edition_number edition
    → IfOk r (λ row. (found ≡ Some row) × (row.id ≡ pos 1) × (row.version ≡ pos (edition_number edition))) → IfErr r (IsRefusedIn edition db) → IsErrAnd r IsOfOther
other_reported e edition db version found (Ok got) table row differs is refused =
    let there = first_found e db found version table row in
    let same : Some (record { id = pos 1; version = pos (edition_number e); policy = pos version }) ≡ Some got = sym there ∙ is.0 in
    let number : pos (edition_number e) ≡ got.version = ap (λ (b : BankRow). b.version) (same_Some _ _ same) in
    absurd (differs (same_number e edition (sym (number ∙ is.2))))
other_reported e edition db version found (Err fault) table row differs is refused = stated_other e edition db version row differs fault refused

pub store_other : (fault : AdoptFault) → IsOfStore fault → IsOfOther fault
store_other NotABank store = absurd store
store_other Version store = absurd store
store_other (Books fault) store = absurd store
store_other (Policy fault) store = absurd store
store_other (Fault fault) store = tt

pub handed_other : {X : Type 0} (r : Result X AdoptFault) (fault : AdoptFault) → IsErrAnd r (λ x. x ≡ fault) → IsOfOther fault → IsErrAnd r IsOfOther
handed_other (Ok x) fault same of = absurd same
handed_other (Err x) fault same of = subst IsOfOther (sym same) of

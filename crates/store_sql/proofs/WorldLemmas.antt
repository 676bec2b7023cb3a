-- Trees are of one World.
use Rattle.std.proofs.Common.{◌≡◌, ◌∙◌, ℕ, List, [], ◌∷◌, ap, map, sym}
use Rattle.sqlite.specs.Tree.{Trees}
use Rattle.sqlite.specs.Order.{Row}
use Rattle.bank_policy.specs.PolicyKeys.{certifier_key, relation_key, triple_key}
use Rattle.bank_books.specs.Keys.{line_key, proof_key, release_key, slip_key}
use Rattle.bank_books.specs.SlipRow.{SlipRow}
use Rattle.bank_books.specs.WorldLists.{WorldLists}
use Rattle.book_kept.specs.Sheets.{Sheets, account_no, branch_no, entry_no, member_no, sheets_of, slip_no, teller_no, user_no}
use Rattle.book_kept.proofs.SheetsDetermine.{sheets_determine_world}
use Rattle.sql_schema.specs.Cells.{AnyRow, EntryFits, LineFits, MemberFits, ProofFits, RelationFits, ReleaseFits, SlipFits, TripleFitsIn, account_cells, branch_cells, certifier_cells, entry_cells, line_cells, member_cells, proof_cells, relation_cells, release_cells, set_cells, slip_cells, slip_count_cells, teller_cells, triple_cells_in, user_cells}
use Rattle.sql_schema.specs.Held.{AreOfWorld, AreOfWorldIn, HoldsSheetsIn, HoldsSlipCountsIn, HoldsSlipsIn, set_no, without_slips}
use Rattle.sql_schema.specs.declared.edition.Edition.{Edition}
use Rattle.sql_schema.specs.declared.edition.Edition.TheVariants.{First, Second, Third}
use Rattle.sql_schema.specs.Held.Sheet.{accounts as in_accounts, bank as in_bank, branches as in_branches, certifiers as in_certifiers, entries as in_entries, lines as in_lines, members as in_members, proofs as in_proofs, relations as in_relations, releases as in_releases, sets as in_sets, slip_counts as in_slip_counts, slips as in_slips, tellers as in_tellers, triples as in_triples, users as in_users}
use Rattle.sql_schema.specs.HeldRows.{all_but_rowid, all_of_it}
use Rattle.sql_schema.specs.Schema.{newest}
use Rattle.store_sql.proofs.CellLemmas as cells
use Rattle.store_sql.proofs.OrderLemmas.{one_list}

abbrev first_version : List Row → ℕ
first_version [] = 0
first_version (r ∷ rows) = cells.version_back r

-- a tree holds one list of slips
same_slips : (e : Edition) (s t : List SlipRow) (tree : List Row) → HoldsSlipsIn e s tree → HoldsSlipsIn e t tree → s ≡ t
same_slips First s t tree h k = h ∙ sym k
same_slips Second s t tree h k = h ∙ sym k
same_slips Third s t tree h k = one_list all_but_rowid slip_cells slip_key SlipFits cells.slip_back cells.slip_tells s t tree h k

-- and of the same users one list of counts
same_slip_counts : (e : Edition) (s t : Sheets) (tree : List Row) → s.users ≡ t.users → HoldsSlipCountsIn e s tree → HoldsSlipCountsIn e t tree → s.slip_counts ≡ t.slip_counts
same_slip_counts First s t tree users h k = h ∙ ap (map without_slips) users ∙ sym k
same_slip_counts Second s t tree users h k = h ∙ ap (map without_slips) users ∙ sym k
same_slip_counts Third s t tree users h k = one_list all_of_it slip_count_cells slip_no AnyRow cells.slip_count_back (λ x fits. cells.slip_count_tells x) s.slip_counts t.slip_counts tree h k

-- trees hold one list of rows for each table
pub same_sheets : (e : Edition) (s t : Sheets) (trees : Trees) → HoldsSheetsIn e trees s → HoldsSheetsIn e trees t → s ≡ t
same_sheets e s t trees h k =
    let users : s.users ≡ t.users = one_list all_of_it user_cells user_no AnyRow cells.user_back (λ x fits. cells.user_tells x) s.users t.users (trees 1) (h in_users) (k in_users) in
    let sets : s.sets ≡ t.sets = one_list all_of_it set_cells set_no AnyRow cells.set_back (λ x fits. cells.set_tells x) s.sets t.sets (trees 2) (h in_sets) (k in_sets) in
    let members : s.members ≡ t.members = one_list all_but_rowid member_cells member_no MemberFits cells.member_back (λ x fits. cells.member_tells x) s.members t.members (trees 3) (h in_members) (k in_members) in
    let relations : s.relations ≡ t.relations = one_list all_but_rowid relation_cells relation_key RelationFits cells.relation_back (λ x fits. cells.relation_tells x) s.relations t.relations (trees 5) (h in_relations) (k in_relations) in
    let triples : s.triples ≡ t.triples = one_list all_but_rowid (triple_cells_in e) triple_key (TripleFitsIn e) (cells.triple_back_in e) (cells.triple_tells_in e) s.triples t.triples (trees 7) (h in_triples) (k in_triples) in
    let certifiers : s.certifiers ≡ t.certifiers = one_list all_but_rowid certifier_cells certifier_key AnyRow cells.certifier_back (λ x fits. cells.certifier_tells x) s.certifiers t.certifiers (trees 9) (h in_certifiers) (k in_certifiers) in
    let branches : s.branches ≡ t.branches = one_list all_of_it branch_cells branch_no AnyRow cells.branch_back (λ x fits. cells.branch_tells x) s.branches t.branches (trees 11) (h in_branches) (k in_branches) in
    let tellers : s.tellers ≡ t.tellers = one_list all_of_it teller_cells teller_no AnyRow cells.teller_back (λ x fits. cells.teller_tells x) s.tellers t.tellers (trees 12) (h in_tellers) (k in_tellers) in
    let accounts : s.accounts ≡ t.accounts = one_list all_of_it account_cells account_no AnyRow cells.account_back (λ x fits. cells.account_tells x) s.accounts t.accounts (trees 13) (h in_accounts) (k in_accounts) in
    let entries : s.entries ≡ t.entries = one_list all_but_rowid entry_cells entry_no EntryFits cells.entry_back (λ x fits. cells.entry_tells x) s.entries t.entries (trees 14) (h in_entries) (k in_entries) in
    let lines : s.lines ≡ t.lines = one_list all_but_rowid line_cells line_key LineFits cells.line_back (λ x fits. cells.line_tells x) s.lines t.lines (trees 17) (h in_lines) (k in_lines) in
    let proofs : s.proofs ≡ t.proofs = one_list all_but_rowid proof_cells proof_key ProofFits cells.proof_back (λ x fits. cells.proof_tells x) s.proofs t.proofs (trees 19) (h in_proofs) (k in_proofs) in
    let releases : s.releases ≡ t.releases = one_list all_but_rowid release_cells release_key ReleaseFits cells.release_back cells.release_tells s.releases t.releases (trees 21) (h in_releases) (k in_releases) in
    let slips : s.slips ≡ t.slips = same_slips e s.slips t.slips (trees 25) (h in_slips) (k in_slips) in
    let slip_counts : s.slip_counts ≡ t.slip_counts = same_slip_counts e s t (trees 27) users (h in_slip_counts) (k in_slip_counts) in
    let version : s.version ≡ t.version = ap first_version (sym (h in_bank) ∙ k in_bank) in
    λ i. record { users = users i; sets = sets i; members = members i; relations = relations i; triples = triples i; certifiers = certifiers i; branches = branches i; tellers = tellers i; accounts = accounts i; entries = entries i; lines = lines i; proofs = proofs i; releases = releases i; slips = slips i; slip_counts = slip_counts i; version = version i }

-- a crash that may leave trees may leave one World
pub same_world_in : (e : Edition) (v w : WorldLists) (trees : Trees) → AreOfWorldIn e v trees → AreOfWorldIn e w trees → v ≡ w
same_world_in e v w trees h k = sheets_determine_world v w h.keepable k.keepable (same_sheets e (sheets_of v) (sheets_of w) trees h.rows k.rows)

pub same_world : (v w : WorldLists) (trees : Trees) → AreOfWorld v trees → AreOfWorld w trees → v ≡ w
same_world = same_world_in newest

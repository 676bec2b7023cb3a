-- Where all rows of a table were read, each of the types that it is read as, none of them can't be.
use Rattle.std.proofs.Common.{ℕ, List, map}
use Rattle.std.proofs.lemmas.List.Sorted.{Contains-permutation, IsPermutation-sym}
use Rattle.sqlite.specs.Order.{Row}
use Rattle.sqlite.specs.Tree.{Trees}
use Rattle.keyed_rows.proofs.Rows.{Contains-map, Contains-map_source}
use Rattle.bank_policy.specs.PolicyKeys.{certifier_key, relation_key, triple_key}
use Rattle.bank_books.specs.Keys.{line_key, proof_key, release_key, slip_key}
use Rattle.sql_schema.specs.Cells.{AnyRow, EntryFits, LineFits, MemberFits, ProofFits, RelationFits, ReleaseFits, SlipFits, TripleFitsIn, account_cells, branch_cells, certifier_cells, entry_cells, line_cells, member_cells, proof_cells, relation_cells, release_cells, set_cells, slip_cells, slip_count_cells, teller_cells, triple_cells_in, user_cells}
use Rattle.sql_schema.specs.declared.edition.Edition.{Edition}
use Rattle.sql_schema.specs.declared.edition.Edition.TheVariants.{First, Second, Third}
use Rattle.bank_books.specs.SlipRow.{SlipRow}
use Rattle.book_kept.specs.declared.records.KeptUser.{KeptUser}
use Rattle.book_kept.specs.declared.records.SlipCount.{SlipCount}
use Rattle.sql_schema.specs.Held.{Sheet, set_no, tree_of}
use Rattle.sql_schema.specs.Held.Sheet.{accounts as in_accounts, bank as in_bank, branches as in_branches, certifiers as in_certifiers, entries as in_entries, lines as in_lines, members as in_members, proofs as in_proofs, relations as in_relations, releases as in_releases, sets as in_sets, slip_counts as in_slip_counts, slips as in_slips, tellers as in_tellers, triples as in_triples, users as in_users}
use Rattle.sql_schema.specs.HeldRows.{all_but_rowid, all_of_it}
use Rattle.sql_schema.specs.Readable.{IsReadableAccount, IsReadableBranch, IsReadableCertifier, IsReadableEntry, IsReadableLine, IsReadableMember, IsReadableProof, IsReadableRelation, IsReadableRelease, IsReadableSlip, IsReadableSlipCount, IsReadableTeller, IsReadableTriple, IsReadableUser, IsShort}
use Rattle.book_kept.specs.Sheets.{account_no, branch_no, entry_no, member_no, slip_no, teller_no, user_no}
use Rattle.sql_whole.specs.BookRows.{AreBookRows}
use Rattle.sql_whole.specs.PolicyTables.{ArePolicyTables}
use Rattle.sql_whole.specs.Tables.{AreSlipCounts, AreSlips}
use Rattle.sql_whole.specs.Typed.{AreBooksTyped, AreTablesTyped, Each}
use Rattle.sql_whole.specs.Whole.{AreAll}
use Rattle.sql_whole.specs.declared.book_rows.BookRows.{BookRows}
use Rattle.sql_whole.specs.declared.policy_tables.PolicyTables.{PolicyTables}
use Rattle.sql_adopt.specs.Unread.{HasStranger, HasUnread, HasUnreadCount, HasUnreadSlip, IsBesideBooks}

module _ {X : Type 0} (shows : Row → Row) (cells : X → Row) (key : X → ℕ) (Fits Readable : X → Type 0) (t : Sheet) (db : Trees) (rows : List X) where
  no_stranger : AreAll shows cells key Fits t db rows → Each Readable rows → HasStranger shows cells Readable (db (tree_of t)) → ⊥
  no_stranger all typed found =
      let tree = db (tree_of t) in
      let at = Contains-permutation (map shows tree) (map cells rows) (shows found.0) (IsPermutation-sym (map cells rows) (map shows tree) all.same) (Contains-map shows tree found.0 found.1) in
      let source = Contains-map_source cells rows (shows found.0) at in
      found.2 source.0 (typed source.0 source.1.0) source.1.1

slips_read : (e : Edition) (db : Trees) (rows : List SlipRow) → AreSlips e db rows → Each IsReadableSlip rows → HasUnreadSlip e (db 25) → ⊥
slips_read First db rows are typed found = found
slips_read Second db rows are typed found = found
slips_read Third db rows are typed found = no_stranger all_but_rowid slip_cells slip_key SlipFits IsReadableSlip in_slips db rows are typed found

counts_read : (e : Edition) (users : List KeptUser) (db : Trees) (rows : List SlipCount) → AreSlipCounts e users db rows → Each IsReadableSlipCount rows → HasUnreadCount e (db 27) → ⊥
counts_read First users db rows are typed found = found
counts_read Second users db rows are typed found = found
counts_read Third users db rows are typed found = no_stranger all_of_it slip_count_cells slip_no AnyRow IsReadableSlipCount in_slip_counts db rows are typed found

pub books_read : (e : Edition) (db : Trees) (books : BookRows) → AreBookRows e db books → AreBooksTyped books → (t : Sheet) → IsBesideBooks t → HasUnread e db t → ⊥
books_read e db books b typed in_bank beside found = found
books_read e db books b typed in_users beside found = no_stranger all_of_it user_cells user_no AnyRow IsReadableUser in_users db books.users.users.items b.users.users typed.users.users found
books_read e db books b typed in_sets beside found = beside
books_read e db books b typed in_members beside found = beside
books_read e db books b typed in_relations beside found = beside
books_read e db books b typed in_triples beside found = beside
books_read e db books b typed in_certifiers beside found = beside
books_read e db books b typed in_branches beside found = no_stranger all_of_it branch_cells branch_no AnyRow IsReadableBranch in_branches db books.ledger.branches.items b.ledger.branches typed.ledger.branches found
books_read e db books b typed in_tellers beside found = no_stranger all_of_it teller_cells teller_no AnyRow IsReadableTeller in_tellers db books.ledger.tellers.items b.ledger.tellers typed.ledger.tellers found
books_read e db books b typed in_accounts beside found = no_stranger all_of_it account_cells account_no AnyRow IsReadableAccount in_accounts db books.ledger.accounts.items b.ledger.accounts typed.ledger.accounts found
books_read e db books b typed in_entries beside found = no_stranger all_but_rowid entry_cells entry_no EntryFits IsReadableEntry in_entries db books.history.entries.items b.history.entries typed.history.entries found
books_read e db books b typed in_lines beside found = no_stranger all_but_rowid line_cells line_key LineFits IsReadableLine in_lines db books.history.lines.items b.history.lines typed.history.lines found
books_read e db books b typed in_proofs beside found = no_stranger all_but_rowid proof_cells proof_key ProofFits IsReadableProof in_proofs db books.history.proofs.items b.history.proofs typed.history.proofs found
books_read e db books b typed in_releases beside found = no_stranger all_but_rowid release_cells release_key ReleaseFits IsReadableRelease in_releases db books.users.releases.items b.users.releases typed.users.releases found
books_read e db books b typed in_slips beside found = slips_read e db books.slips.slips.items b.slips.slips typed.slips.slips found
books_read e db books b typed in_slip_counts beside found = counts_read e books.users.users.items db books.slips.counts.items b.slips.counts typed.slips.counts found

pub all_read : (e : Edition) (db : Trees) (books : BookRows) (tables : PolicyTables) → AreBookRows e db books → AreBooksTyped books → ArePolicyTables e db tables → AreTablesTyped tables → (t : Sheet) → HasUnread e db t → ⊥
all_read e db books tables b books_typed p typed in_bank found = found
all_read e db books tables b books_typed p typed in_users found = books_read e db books b books_typed in_users tt found
all_read e db books tables b books_typed p typed in_sets found = no_stranger all_of_it set_cells set_no AnyRow IsShort in_sets db tables.sets.sets.items p.sets.sets typed.sets.sets found
all_read e db books tables b books_typed p typed in_members found = no_stranger all_but_rowid member_cells member_no MemberFits IsReadableMember in_members db tables.sets.members.items p.sets.members typed.sets.members found
all_read e db books tables b books_typed p typed in_relations found = no_stranger all_but_rowid relation_cells relation_key RelationFits IsReadableRelation in_relations db tables.grants.relations.items p.grants.relations typed.grants.relations found
all_read e db books tables b books_typed p typed in_triples found = no_stranger all_but_rowid (triple_cells_in e) triple_key (TripleFitsIn e) IsReadableTriple in_triples db tables.grants.triples.items p.grants.triples typed.grants.triples found
all_read e db books tables b books_typed p typed in_certifiers found = no_stranger all_but_rowid certifier_cells certifier_key AnyRow IsReadableCertifier in_certifiers db tables.grants.certifiers.items p.grants.certifiers typed.grants.certifiers found
all_read e db books tables b books_typed p typed in_branches found = books_read e db books b books_typed in_branches tt found
all_read e db books tables b books_typed p typed in_tellers found = books_read e db books b books_typed in_tellers tt found
all_read e db books tables b books_typed p typed in_accounts found = books_read e db books b books_typed in_accounts tt found
all_read e db books tables b books_typed p typed in_entries found = books_read e db books b books_typed in_entries tt found
all_read e db books tables b books_typed p typed in_lines found = books_read e db books b books_typed in_lines tt found
all_read e db books tables b books_typed p typed in_proofs found = books_read e db books b books_typed in_proofs tt found
all_read e db books tables b books_typed p typed in_releases found = books_read e db books b books_typed in_releases tt found
all_read e db books tables b books_typed p typed in_slips found = books_read e db books b books_typed in_slips tt found
all_read e db books tables b books_typed p typed in_slip_counts found = books_read e db books b books_typed in_slip_counts tt found

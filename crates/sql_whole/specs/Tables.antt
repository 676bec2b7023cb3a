-- That these are all rows of a table, in order of key.
use Rattle.std.specs.Prelude.{ℕ, ◌≡◌, List, [], map}
use Rattle.sqlite.specs.Tree.{Trees}
use Rattle.bank_policy.specs.PolicyKeys.{certifier_key, relation_key, triple_key}
use Rattle.bank_policy.specs.declared.rows.Certifier.{Certifier}
use Rattle.bank_policy.specs.declared.rows.Relation.{Relation}
use Rattle.bank_policy.specs.declared.rows.Triple.{Triple}
use Rattle.bank_books.specs.Keys.{line_key, proof_key, release_key, slip_key}
use Rattle.bank_books.specs.SlipRow.{SlipRow}
use Rattle.bank_books.specs.declared.records.AccountRecord.{AccountRecord}
use Rattle.bank_books.specs.declared.records.BranchRecord.{BranchRecord}
use Rattle.bank_books.specs.declared.records.EntryRecord.{EntryRecord}
use Rattle.bank_books.specs.declared.rows.CashLine.{CashLine}
use Rattle.bank_books.specs.declared.rows.Proof.{Proof}
use Rattle.bank_books.specs.declared.rows.Release.{Release}
use Rattle.book_kept.specs.Sheets.{account_no, branch_no, entry_no, member_no, slip_no, teller_no, user_no}
use Rattle.book_kept.specs.declared.records.KeptTeller.{KeptTeller}
use Rattle.book_kept.specs.declared.records.KeptUser.{KeptUser}
use Rattle.book_kept.specs.declared.records.MemberRow.{MemberRow}
use Rattle.book_kept.specs.declared.records.SlipCount.{SlipCount}
use Rattle.sql_schema.specs.Cells.{AnyRow, EntryFits, LineFits, MemberFits, ProofFits, RelationFits, ReleaseFits, SlipFits, TripleFitsIn, account_cells, branch_cells, certifier_cells, entry_cells, line_cells, member_cells, proof_cells, relation_cells, release_cells, set_cells, slip_cells, slip_count_cells, teller_cells, triple_cells_in, user_cells}
use Rattle.sql_schema.specs.declared.edition.Edition.{Edition}
use Rattle.sql_schema.specs.declared.edition.Edition.TheVariants.{First, Second, Third}
use Rattle.sql_schema.specs.Held.{set_no, without_slips}
use Rattle.sql_schema.specs.Held.Sheet.{accounts as in_accounts, branches as in_branches, certifiers as in_certifiers, entries as in_entries, lines as in_lines, members as in_members, proofs as in_proofs, relations as in_relations, releases as in_releases, sets as in_sets, slip_counts as in_slip_counts, slips as in_slips, tellers as in_tellers, triples as in_triples, users as in_users}
use Rattle.sql_schema.specs.HeldRows.{all_but_rowid, all_of_it}
use Rattle.sql_whole.specs.Whole.{AreAll}

-- ---- the policy

abbrev pub AreUsers : Trees → List KeptUser → Type 0
AreUsers db rows = AreAll all_of_it user_cells user_no AnyRow in_users db rows

abbrev pub AreSets : Trees → List ℕ → Type 0
AreSets db rows = AreAll all_of_it set_cells set_no AnyRow in_sets db rows

abbrev pub AreMembers : Trees → List MemberRow → Type 0
AreMembers db rows = AreAll all_but_rowid member_cells member_no MemberFits in_members db rows

abbrev pub AreRelations : Trees → List Relation → Type 0
AreRelations db rows = AreAll all_but_rowid relation_cells relation_key RelationFits in_relations db rows

abbrev pub AreTriples : Edition → Trees → List Triple → Type 0
AreTriples e db rows = AreAll all_but_rowid (triple_cells_in e) triple_key (TripleFitsIn e) in_triples db rows

abbrev pub AreCertifiers : Trees → List Certifier → Type 0
AreCertifiers db rows = AreAll all_but_rowid certifier_cells certifier_key AnyRow in_certifiers db rows

-- ---- the books

abbrev pub AreBranches : Trees → List BranchRecord → Type 0
AreBranches db rows = AreAll all_of_it branch_cells branch_no AnyRow in_branches db rows

abbrev pub AreTellers : Trees → List KeptTeller → Type 0
AreTellers db rows = AreAll all_of_it teller_cells teller_no AnyRow in_tellers db rows

abbrev pub AreAccounts : Trees → List AccountRecord → Type 0
AreAccounts db rows = AreAll all_of_it account_cells account_no AnyRow in_accounts db rows

abbrev pub AreEntries : Trees → List EntryRecord → Type 0
AreEntries db rows = AreAll all_but_rowid entry_cells entry_no EntryFits in_entries db rows

abbrev pub AreLines : Trees → List CashLine → Type 0
AreLines db rows = AreAll all_but_rowid line_cells line_key LineFits in_lines db rows

abbrev pub AreProofs : Trees → List Proof → Type 0
AreProofs db rows = AreAll all_but_rowid proof_cells proof_key ProofFits in_proofs db rows

abbrev pub AreReleases : Trees → List Release → Type 0
AreReleases db rows = AreAll all_but_rowid release_cells release_key ReleaseFits in_releases db rows

-- schema versions before the third have no slips
abbrev pub AreSlips : Edition → Trees → List SlipRow → Type 0
AreSlips First db rows = rows ≡ []
AreSlips Second db rows = rows ≡ []
AreSlips Third db rows = AreAll all_but_rowid slip_cells slip_key SlipFits in_slips db rows

-- and no user has any in them
abbrev pub AreSlipCounts : Edition → List KeptUser → Trees → List SlipCount → Type 0
AreSlipCounts First users db rows = rows ≡ map without_slips users
AreSlipCounts Second users db rows = rows ≡ map without_slips users
AreSlipCounts Third users db rows = AreAll all_of_it slip_count_cells slip_no AnyRow in_slip_counts db rows

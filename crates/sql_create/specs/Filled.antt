-- The rows of a World, with the numbers that are kept beside them, as they are written one after another.
use Rattle.std.specs.Prelude.{List, [], ◌∷◌, map}
use Rattle.keyed_rows.specs.Ordered.{add_row}
use Rattle.bank_policy.specs.Policy.{PolicyLists}
use Rattle.bank_policy.specs.PolicyKeys.{certifier_key, relation_key, triple_key}
use Rattle.bank_policy.specs.SetRow.{SetRow}
use Rattle.bank_policy.specs.declared.rows.Certifier.{Certifier}
use Rattle.bank_policy.specs.declared.rows.Relation.{Relation}
use Rattle.bank_policy.specs.declared.rows.Triple.{Triple}
use Rattle.bank_books.specs.Keys.{line_key, proof_key, release_key, slip_key}
use Rattle.bank_books.specs.Records.{KeptLists, kept_of}
use Rattle.bank_books.specs.SlipRow.{SlipRow}
use Rattle.bank_books.specs.WorldLists.{WorldLists}
use Rattle.bank_books.specs.declared.records.AccountRecord.{AccountRecord}
use Rattle.bank_books.specs.declared.records.BranchRecord.{BranchRecord}
use Rattle.bank_books.specs.declared.records.EntryRecord.{EntryRecord}
use Rattle.bank_books.specs.declared.records.ReleaseCount.{ReleaseCount}
use Rattle.bank_books.specs.declared.records.TellerRecord.{TellerRecord}
use Rattle.bank_books.specs.declared.rows.CashLine.{CashLine}
use Rattle.bank_books.specs.declared.rows.Proof.{Proof}
use Rattle.bank_books.specs.declared.rows.Release.{Release}
use Rattle.book_kept.specs.Changes.{add_rows}
use Rattle.book_kept.specs.Records.{kept_teller, kept_user_of, member_rows}
use Rattle.book_kept.specs.Sheets.{Sheets, account_no, branch_no, entry_no, member_no, slip_no, teller_no, user_no}
use Rattle.book_kept.specs.declared.records.KeptUser.{KeptUser}
use Rattle.book_kept.specs.declared.records.SlipCount.{SlipCount}
use Rattle.sql_schema.specs.Held.{set_no}

-- ---- one row

abbrev pub with_user : KeptUser → Sheets → Sheets
with_user u s = record s { users = add_row user_no u s.users }

-- a set, and its members at their places
abbrev pub with_set : SetRow → Sheets → Sheets
with_set row s = record s { sets = add_row set_no row.set s.sets; members = add_rows member_no (member_rows row) s.members }

abbrev pub with_relation : Relation → Sheets → Sheets
with_relation r s = record s { relations = add_row relation_key r s.relations }

abbrev pub with_triple : Triple → Sheets → Sheets
with_triple t s = record s { triples = add_row triple_key t s.triples }

abbrev pub with_certifier : Certifier → Sheets → Sheets
with_certifier c s = record s { certifiers = add_row certifier_key c s.certifiers }

abbrev pub with_branch : BranchRecord → Sheets → Sheets
with_branch b s = record s { branches = add_row branch_no b s.branches }

abbrev pub with_teller : TellerRecord → Sheets → Sheets
with_teller t s = record s { tellers = add_row teller_no (kept_teller t) s.tellers }

abbrev pub with_account : AccountRecord → Sheets → Sheets
with_account a s = record s { accounts = add_row account_no a s.accounts }

abbrev pub with_entry : EntryRecord → Sheets → Sheets
with_entry e s = record s { entries = add_row entry_no e s.entries }

abbrev pub with_line : CashLine → Sheets → Sheets
with_line l s = record s { lines = add_row line_key l s.lines }

abbrev pub with_proof : Proof → Sheets → Sheets
with_proof p s = record s { proofs = add_row proof_key p s.proofs }

abbrev pub with_release : Release → Sheets → Sheets
with_release r s = record s { releases = add_row release_key r s.releases }

abbrev pub with_slip : SlipRow → Sheets → Sheets
with_slip row s = record s { slips = add_row slip_key row s.slips }

-- how many slips a user has, of what is counted of the user
abbrev pub slips_in : ReleaseCount → SlipCount
slips_in c = record { user = c.user; slips = c.slips }

abbrev pub with_slip_count : ReleaseCount → Sheets → Sheets
with_slip_count c s = record s { slip_counts = add_row slip_no (slips_in c) s.slip_counts }

-- ---- several of one table, one after another

abbrev pub with_all : {X : Type 0} → (X → Sheets → Sheets) → List X → Sheets → Sheets
with_all one [] s = s
with_all one (x ∷ xs) s = with_all one xs (one x s)

-- ---- all of a bank

-- what is certified, and what is given on it
abbrev pub with_rights : PolicyLists → Sheets → Sheets
with_rights p s = with_all with_certifier p.certifiers (with_all with_triple p.triples (with_all with_relation p.relations s))

abbrev pub with_policy : WorldLists → Sheets → Sheets
with_policy w s = with_rights w.policy (with_all with_set w.policy.sets (with_all with_user (map (kept_user_of w) w.policy.users) s))

abbrev pub with_accounts : KeptLists → Sheets → Sheets
with_accounts k s = with_all with_entry k.entries (with_all with_account k.accounts s)

abbrev pub with_books : KeptLists → Sheets → Sheets
with_books k s = with_accounts k (with_all with_teller k.tellers (with_all with_branch k.branches s))

abbrev pub with_history : WorldLists → Sheets → Sheets
with_history w s = with_all with_release w.releases (with_all with_proof w.proofs (with_all with_line w.lines s))

-- and how many each user has
abbrev pub with_slips : WorldLists → KeptLists → Sheets → Sheets
with_slips w k s = with_all with_slip_count k.users (with_all with_slip w.slips s)

abbrev pub filled : WorldLists → Sheets → Sheets
filled w s = with_slips w (kept_of w) (with_history w (with_books (kept_of w) (with_policy w s)))

-- What one change makes of the rows and of the numbers beside them. Where numbers are moved, the rows that bear the new ones are given.
use Rattle.std.specs.Prelude.{ℕ, ◌+◌, ◌<◌, ◌^◌, Bool, true, false, ⊤, List, [], ◌∷◌, length, not}
use Rattle.std.specs.List.{filter}
use Rattle.keyed_rows.specs.Changed.{change_rows, delete_rows}
use Rattle.keyed_rows.specs.Ordered.{add_row}
use Rattle.bank_policy.specs.PolicyKeys.{certifier_key, relation_key, relation_number, triple_key, triple_number}
use Rattle.bank_policy.specs.PolicyWrites.{in_session, in_suspension, is_triple_on}
use Rattle.bank_policy.specs.declared.policy_write.PolicyWrite.{PolicyWrite}
use Rattle.bank_policy.specs.declared.policy_write.PolicyWrite.TheVariants as write
use Rattle.bank_policy.specs.declared.policy_write.Session.{Session}
use Rattle.bank_books.specs.Effects.{on_day, used_up}
use Rattle.bank_books.specs.Keys.{line_key, proof_key, release_key, release_number, slip_key}
use Rattle.bank_books.specs.SlipRow.{SlipRow}
use Rattle.bank_books.specs.declared.records.BranchRecord.{BranchRecord}
use Rattle.bank_books.specs.declared.row_write.BranchDay.{BranchDay}
use Rattle.bank_books.specs.declared.row_write.ReleaseKey.{ReleaseKey}
use Rattle.bank_books.specs.declared.rows.CashLine.{CashLine}
use Rattle.bank_books.specs.declared.rows.Proof.{Proof}
use Rattle.bank_books.specs.declared.rows.Release.{Release}
use Rattle.book_kept.specs.Named.{IsFree}
use Rattle.book_kept.specs.Records.{member_rows}
use Rattle.book_kept.specs.Sheets.{Sheets, account_no, branch_no, entry_no, member_no, set_row, slip_no, teller_no, user_no}
use Rattle.book_kept.specs.declared.account.AccountRows.{AccountRows}
use Rattle.book_kept.specs.declared.entry.EntryRows.{EntryRows}
use Rattle.book_kept.specs.declared.legs.LegRows.{LegRows}
use Rattle.book_kept.specs.declared.lines.LineRows.{LineRows}

-- ---- the books

-- after an entry: it stands among the entries, and its account, its teller and its branch bear what it made of their numbers
abbrev pub entry_sheets : EntryRows → Sheets → Sheets
entry_sheets rows s = record s {
  branches = set_row branch_no rows.branch s.branches;
  tellers = set_row teller_no rows.teller s.tellers;
  accounts = set_row account_no rows.account s.accounts;
  entries = add_row entry_no rows.entry s.entries;
}

-- after a line at a drawer: its teller and its branch bear new numbers
abbrev pub drawer_sheets : CashLine → LineRows → Sheets → Sheets
drawer_sheets l rows s = record s {
  branches = set_row branch_no rows.branch s.branches;
  tellers = set_row teller_no rows.teller s.tellers;
  lines = add_row line_key l s.lines;
}

-- after an entry and its cash line: both have moved the teller and the branch, each of which stands there once
abbrev pub posting_sheets : CashLine → EntryRows → Sheets → Sheets
posting_sheets l rows s = record (entry_sheets rows s) { lines = add_row line_key l s.lines }

-- after two entries of one teller and one branch, each of which stands there once, as both have moved it; the accounts are two
abbrev pub legs_sheets : LegRows → Sheets → Sheets
legs_sheets rows s = record s {
  branches = set_row branch_no rows.branch s.branches;
  tellers = set_row teller_no rows.teller s.tellers;
  accounts = set_row account_no rows.target (set_row account_no rows.source s.accounts);
  entries = add_row entry_no rows.second (add_row entry_no rows.first s.entries);
}

-- after a line at the vault: its branch alone does
abbrev pub vault_sheets : CashLine → BranchRecord → Sheets → Sheets
vault_sheets l branch s = record s { branches = set_row branch_no branch s.branches; lines = add_row line_key l s.lines }

-- after an account: it stands among the accounts, and its home bears a new number
abbrev pub account_sheets : AccountRows → Sheets → Sheets
account_sheets rows s = record s { branches = set_row branch_no rows.home s.branches; accounts = add_row account_no rows.account s.accounts }

-- after a release: its user bears this number of releases
abbrev pub release_sheets : Release → ℕ → Sheets → Sheets
release_sheets r releases s = record s {
  releases = add_row release_key r s.releases;
  users = change_rows user_no r.user (λ u. record u { releases = releases }) s.users;
}

abbrev pub proof_sheets : Proof → Sheets → Sheets
proof_sheets p s = record s { proofs = add_row proof_key p s.proofs }

-- after a slip: its user bears this number of slips
abbrev pub slip_sheets : SlipRow → ℕ → Sheets → Sheets
slip_sheets row slips s = record s {
  slips = add_row slip_key row s.slips;
  slip_counts = change_rows slip_no row.user (λ c. record c { slips = slips }) s.slip_counts;
}

abbrev pub day_sheets : BranchDay → Sheets → Sheets
day_sheets d s = record s { branches = change_rows branch_no d.branch (λ b. record b { row = on_day d.day b.row }) s.branches }

abbrev pub used_sheets : ReleaseKey → Sheets → Sheets
used_sheets k s = record s { releases = change_rows release_key (release_number k.user k.number) used_up s.releases }

-- ---- the policy

abbrev pub session_sheets : Session → Sheets → Sheets
session_sheets c s = record s { users = change_rows user_no c.user (λ u. record u { row = in_session c u.row }) s.users }

-- the rows with these, one after another, each at its place
abbrev pub add_rows : {X : Type 0} → (X → ℕ) → List X → List X → List X
add_rows key [] rows = rows
add_rows key (x ∷ xs) rows = add_rows key xs (add_row key x rows)

-- after a change of the policy: no number beside a row is moved, and a new user has no releases
abbrev pub policy_sheets : PolicyWrite → Sheets → Sheets
policy_sheets (write.User row) s = record s {
  users = add_row user_no (record { row = row; releases = 0 }) s.users;
  slip_counts = add_row slip_no (record { user = row.user; slips = 0 }) s.slip_counts;
}
policy_sheets (write.Set row) s = record s {
  sets = add_row (λ n. n) row.set s.sets;
  members = add_rows member_no (member_rows row) s.members;
}
policy_sheets (write.Relation row) s = record s { relations = add_row relation_key row s.relations }
policy_sheets (write.NoRelation k) s = record s {
  relations = delete_rows relation_key (relation_number k.procedure k.set) s.relations;
  triples = filter (λ row. not (is_triple_on k row)) s.triples;
}
policy_sheets (write.Triple row) s = record s { triples = add_row triple_key row s.triples }
policy_sheets (write.NoTriple k) s = record s { triples = delete_rows triple_key (triple_number k.user k.procedure k.set) s.triples }
policy_sheets (write.Certifier row) s = record s { certifiers = add_row certifier_key row s.certifiers }
policy_sheets (write.NoCertifier row) s = record s { certifiers = delete_rows certifier_key (certifier_key row) s.certifiers }
policy_sheets (write.Suspended c) s = record s { users = change_rows user_no c.user (λ u. record u { row = in_suspension c u.row }) s.users }

-- after plans that changed the policy, if it did
abbrev pub version_sheets : Bool → Sheets → Sheets
version_sheets true s = record s { version = s.version + 1 }
version_sheets false s = s

-- what the change adds has a key that no row has, and a set so few members that their places are small enough for the key
abbrev pub IsNew : PolicyWrite → Sheets → Type 0
IsNew (write.User row) s = IsFree user_no s.users row.user
IsNew (write.Set row) s = IsFree (λ n. n) s.sets row.set × (length row.members < 2 ^ 32)
IsNew (write.Relation row) s = IsFree relation_key s.relations (relation_key row)
IsNew (write.NoRelation k) s = ⊤
IsNew (write.Triple row) s = IsFree triple_key s.triples (triple_key row)
IsNew (write.NoTriple k) s = ⊤
IsNew (write.Certifier row) s = IsFree certifier_key s.certifiers (certifier_key row)
IsNew (write.NoCertifier row) s = ⊤
IsNew (write.Suspended c) s = ⊤

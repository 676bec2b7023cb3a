-- The rows of a bank with the numbers that are kept beside them, as tables hold them: one list for each table.
use Rattle.std.specs.Prelude.{ℕ, ◌+◌, ◌*◌, ◌^◌, ◌==◌, List, map, if◌then◌else◌}
use Rattle.std.specs.List.{flat_map}
use Rattle.bank_policy.specs.declared.rows.Certifier.{Certifier}
use Rattle.bank_policy.specs.declared.rows.Relation.{Relation}
use Rattle.bank_policy.specs.declared.rows.Triple.{Triple}
use Rattle.bank_policy.specs.PolicyKeys.{user_key}
use Rattle.bank_books.specs.Keys.{account_key, branch_key, entry_key, teller_key}
use Rattle.bank_books.specs.Records.{account_record_of, branch_record_of, entry_record_of}
use Rattle.bank_books.specs.SlipRow.{SlipRow}
use Rattle.bank_books.specs.WorldLists.{WorldLists}
use Rattle.bank_books.specs.declared.records.AccountRecord.{AccountRecord}
use Rattle.bank_books.specs.declared.records.BranchRecord.{BranchRecord}
use Rattle.bank_books.specs.declared.records.EntryRecord.{EntryRecord}
use Rattle.bank_books.specs.declared.rows.CashLine.{CashLine}
use Rattle.bank_books.specs.declared.rows.Proof.{Proof}
use Rattle.bank_books.specs.declared.rows.Release.{Release}
use Rattle.book_kept.specs.Records.{kept_teller_of, kept_user_of, member_rows, slip_count_of}
use Rattle.book_kept.specs.declared.records.KeptTeller.{KeptTeller}
use Rattle.book_kept.specs.declared.records.KeptUser.{KeptUser}
use Rattle.book_kept.specs.declared.records.MemberRow.{MemberRow}
use Rattle.book_kept.specs.declared.records.SlipCount.{SlipCount}

-- Balances, cash, holders and counts stand beside the rows that they are of. Lines, proofs, releases and most of the policy have none.
pub record Sheets : Type 0 where
  pub branches : List BranchRecord
  pub tellers : List KeptTeller
  pub accounts : List AccountRecord
  pub entries : List EntryRecord
  pub lines : List CashLine
  pub proofs : List Proof
  pub releases : List Release
  pub slips : List SlipRow
  -- of each user
  pub slip_counts : List SlipCount
  pub users : List KeptUser
  pub sets : List ℕ
  pub members : List MemberRow
  pub relations : List Relation
  pub triples : List Triple
  pub certifiers : List Certifier
  -- of the policy
  pub version : ℕ

-- those of a World: each of its rows, with the numbers that the World gives it
abbrev pub sheets_of : WorldLists → Sheets
sheets_of w = record {
  branches = map (branch_record_of w) w.branches;
  tellers = map (kept_teller_of w) w.tellers;
  accounts = map (account_record_of w) w.accounts;
  entries = map (entry_record_of w) w.entries;
  lines = w.lines;
  proofs = w.proofs;
  releases = w.releases;
  slips = w.slips;
  slip_counts = map (slip_count_of w) w.policy.users;
  users = map (kept_user_of w) w.policy.users;
  sets = map (λ row. row.set) w.policy.sets;
  members = flat_map member_rows w.policy.sets;
  relations = w.policy.relations;
  triples = w.policy.triples;
  certifiers = w.policy.certifiers;
  version = w.version;
}

-- ---- the keys of rows that have numbers beside them; every other row has the key that it has in the books or in the policy

abbrev pub branch_no : BranchRecord → ℕ
branch_no b = branch_key b.row

abbrev pub teller_no : KeptTeller → ℕ
teller_no t = teller_key t.row

abbrev pub account_no : AccountRecord → ℕ
account_no a = account_key a.row

abbrev pub entry_no : EntryRecord → ℕ
entry_no e = entry_key e.row

abbrev pub user_no : KeptUser → ℕ
user_no u = user_key u.row

abbrev pub slip_no : SlipCount → ℕ
slip_no c = c.user

-- by set, then place
abbrev pub member_no : MemberRow → ℕ
member_no m = 2 ^ 32 * m.set + m.place

-- ---- changes

-- the rows with this one in place of the one of its key
abbrev pub set_row : {X : Type 0} → (X → ℕ) → X → List X → List X
set_row key new rows = map (λ row. if key row == key new then new else row) rows

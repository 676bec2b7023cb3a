-- What holds of every World whose numbers can be kept.
use Rattle.std.specs.Prelude.{ℕ, ◌≡◌, ◌≢◌, ◌==◌, Bool, Some, option_map, ◌<◌, ◌^◌, ◌+◌}
use Rattle.std.specs.List.{find}
use Rattle.bank_policy.specs.HeldRows.{user_row}
use Rattle.bank_policy.specs.declared.policy_write.PolicyWrite.{PolicyWrite}
use Rattle.bank_policy.specs.declared.policy_write.Session.{Session}
use Rattle.bank_policy.specs.PolicyKeys.{certifier_key, relation_key, triple_key}
use Rattle.bank_books.specs.Keys.{line_key, proof_key, release_key, slip_key}
use Rattle.bank_books.specs.Records.{account_record, branch_record, teller_record}
use Rattle.bank_books.specs.Version.{with_version}
use Rattle.bank_books.specs.SlipRow.{SlipRow}
use Rattle.bank_books.specs.WorldLists.{WorldLists}
use Rattle.bank_books.specs.declared.records.TellerRecord.{TellerRecord}
use Rattle.bank_books.specs.declared.row_write.BranchDay.{BranchDay}
use Rattle.bank_books.specs.declared.row_write.ReleaseKey.{ReleaseKey}
use Rattle.bank_books.specs.declared.row_write.RowWrite.TheVariants as write
use Rattle.bank_books.specs.declared.rows.Proof.{Proof}
use Rattle.book_kept.specs.Changes.{IsNew, day_sheets, policy_sheets, proof_sheets, session_sheets, slip_sheets, used_sheets, version_sheets}
use Rattle.book_kept.specs.Keepable.{IsKeepable, IsOrdered}
use Rattle.book_kept.specs.Kept.{IsKept}
use Rattle.book_kept.specs.Named.{HasSlips, IsFree}
use Rattle.book_kept.specs.Records.{kept_teller, kept_user_of}
use Rattle.book_kept.specs.Sheets.{Sheets, account_no, branch_no, entry_no, member_no, sheets_of, slip_no, teller_no, user_no}

-- ---- changes that move no number beside another row

-- the proof of a day that none proves yet
abbrev pub ProofIsKept : Type 0
ProofIsKept = (w : WorldLists) (p : Proof) → IsKeepable w → IsFree proof_key (sheets_of w).proofs (proof_key p) → IsKept w (write.Proof p) (proof_sheets p)

abbrev pub DayIsKept : Type 0
DayIsKept = (w : WorldLists) (d : BranchDay) → IsKeepable w → IsKept w (write.Day d) (day_sheets d)

abbrev pub UsedIsKept : Type 0
UsedIsKept = (w : WorldLists) (k : ReleaseKey) → IsKeepable w → IsKept w (write.Used k) (used_sheets k)

abbrev pub SessionIsKept : Type 0
SessionIsKept = (w : WorldLists) (c : Session) → IsKeepable w → IsKept w (write.Session c) (session_sheets c)

-- a slip of a number that its user has not
abbrev pub SlipIsKept : Type 0
SlipIsKept = (w : WorldLists) (s : SlipRow) (slips : ℕ) → IsKeepable w → HasSlips (sheets_of w) s.user slips → s.number < 2 ^ 32 → IsFree slip_key (sheets_of w).slips (slip_key s)
    → IsKept w (write.Slip s) (slip_sheets s (slips + 1))

-- a change of the policy that adds no key that is there
abbrev pub PolicyIsKept : Type 0
PolicyIsKept = (w : WorldLists) (change : PolicyWrite) → IsKeepable w → IsNew change (sheets_of w) → IsKept w (write.Policy change) (policy_sheets change)

-- and the next version of the policy
pub record IsVersionKept (w : WorldLists) (raised : Bool) : Type 0 where
  pub keepable : IsKeepable (with_version raised w)
  pub sheets : sheets_of (with_version raised w) ≡ version_sheets raised (sheets_of w)

abbrev pub VersionIsKept : Type 0
VersionIsKept = (w : WorldLists) (raised : Bool) → IsKeepable w → IsVersionKept w raised

-- ---- what kept rows determine

-- in each table the rows stand in order of their keys, and no key stands twice
pub record AreSheetsOrdered (s : Sheets) : Type 0 where
  pub branches : IsOrdered branch_no s.branches
  pub tellers : IsOrdered teller_no s.tellers
  pub accounts : IsOrdered account_no s.accounts
  pub entries : IsOrdered entry_no s.entries
  pub lines : IsOrdered line_key s.lines
  pub proofs : IsOrdered proof_key s.proofs
  pub releases : IsOrdered release_key s.releases
  pub slips : IsOrdered slip_key s.slips
  pub slip_counts : IsOrdered slip_no s.slip_counts
  pub users : IsOrdered user_no s.users
  pub sets : IsOrdered (λ n. n) s.sets
  pub members : IsOrdered member_no s.members
  pub relations : IsOrdered relation_key s.relations
  pub triples : IsOrdered triple_key s.triples
  pub certifiers : IsOrdered certifier_key s.certifiers

abbrev pub SheetsAreOrdered : Type 0
SheetsAreOrdered = (w : WorldLists) → IsKeepable w → AreSheetsOrdered (sheets_of w)

-- Two Worlds of the same rows and numbers are one.
abbrev pub SheetsDetermineWorld : Type 0
SheetsDetermineWorld = (v w : WorldLists) → IsKeepable v → IsKeepable w → sheets_of v ≡ sheets_of w → v ≡ w

-- the row of a key is what the World answers of that key, and user 0 holds no drawer
pub record AreRowsDetermined (w : WorldLists) (key : ℕ) : Type 0 where
  pub account : find (λ r. account_no r == key) (sheets_of w).accounts ≡ account_record w key
  pub teller : find (λ r. teller_no r == key) (sheets_of w).tellers ≡ option_map kept_teller (teller_record w key)
  pub holder : (t : TellerRecord) → teller_record w key ≡ Some t → t.holder ≢ Some 0
  pub branch : find (λ r. branch_no r == key) (sheets_of w).branches ≡ branch_record w key
  pub user : find (λ r. user_no r == key) (sheets_of w).users ≡ option_map (kept_user_of w) (user_row w.policy key)

abbrev pub RowsDetermineAnswers : Type 0
RowsDetermineAnswers = (w : WorldLists) (key : ℕ) → IsKeepable w → AreRowsDetermined w key

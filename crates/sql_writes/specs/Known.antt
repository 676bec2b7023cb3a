-- Rows of the books that are known of a World, and steps that such rows are taken for instead of reads.
use Rattle.std.specs.Prelude.{ℕ, ◌≡◌, ◌==◌, ◌≢◌, Bool, true, false, List, Result, Some, IfOk, IfSome, IsTrue, OnOk}
use Rattle.std.specs.List.{find, list_any}
use Rattle.sqlite.specs.State.{HasCleanDisk, KeepsCommit, State}
use Rattle.bank_books.specs.Records.{account_record, branch_record, teller_record}
use Rattle.bank_books.specs.WorldLists.{WorldLists}
use Rattle.bank_books.specs.declared.records.AccountRecord.{AccountRecord}
use Rattle.bank_books.specs.declared.records.BranchRecord.{BranchRecord}
use Rattle.bank_books.specs.declared.records.TellerRecord.{TellerRecord}
use Rattle.bank_books.specs.declared.row_write.RowWrite.{RowWrite}
use Rattle.bank_books.specs.declared.row_write.RowWrite.TheVariants as write
use Rattle.bank_books.specs.declared.rows.Entry.{Entry}
use Rattle.book_kept.specs.Records.{kept_teller}
use Rattle.book_kept.specs.Sheets.{sheets_of, slip_no}
use Rattle.book_kept.specs.declared.entry.EntryRows.{EntryRows}
use Rattle.book_kept.specs.declared.legs.LegRows.{LegRows}
use Rattle.book_kept.specs.declared.records.KeptTeller.{KeptTeller}
use Rattle.book_kept.specs.declared.records.SlipCount.{SlipCount}
use Rattle.sql_schema.specs.Held.{HoldsWorld}
use Rattle.sql_writes.specs.declared.known.KnownRows.{KnownRows}

-- the row, with its numbers, is what this World answers of its key
abbrev pub IsAccountOf : WorldLists → AccountRecord → Type 0
IsAccountOf w a = account_record w a.row.account ≡ Some a

abbrev pub IsTellerOf : WorldLists → TellerRecord → Type 0
IsTellerOf w t = teller_record w t.row.teller ≡ Some t

abbrev pub IsBranchOf : WorldLists → BranchRecord → Type 0
IsBranchOf w b = branch_record w b.row.branch ≡ Some b

-- the row is the one that is kept of its user
abbrev pub IsSlipCountOf : WorldLists → SlipCount → Type 0
IsSlipCountOf w c = find (λ it. slip_no it == c.user) (sheets_of w).slip_counts ≡ Some c

-- every row that is known is of this World
pub record AreKnownOf (w : WorldLists) (known : KnownRows) : Type 0 where
  pub account : IfSome known.account (IsAccountOf w)
  pub other : IfSome known.other (IsAccountOf w)
  pub teller : IfSome known.teller (IsTellerOf w)
  pub branch : IfSome known.branch (IsBranchOf w)
  pub slips : IfSome known.slips (IsSlipCountOf w)

-- the row that is kept of the teller of this number, whose drawer is not held by user 0
pub record IsKeptOf (w : WorldLists) (number : ℕ) (kept : KeptTeller) : Type 0 where
  pub teller : TellerRecord
  pub there : teller_record w number ≡ Some teller
  pub is : kept ≡ kept_teller teller
  pub holder : teller.holder ≢ Some 0

-- rows that an entry left, where they bear the numbers that it names
pub record AreLeftBy (w : WorldLists) (e : Entry) (rows : EntryRows) : Type 0 where
  pub account : rows.account.row.account ≡ e.account → account_record w e.account ≡ Some rows.account
  pub teller : rows.teller.row.teller ≡ e.teller → IsKeptOf w e.teller rows.teller
  pub branch : rows.branch.row.branch ≡ e.branch → branch_record w e.branch ≡ Some rows.branch

-- rows that two entries of one teller and one branch left, but the account of the first
pub record AreLegsLeft (w : WorldLists) (e f : Entry) (rows : LegRows) : Type 0 where
  pub target : rows.target.row.account ≡ f.account → account_record w f.account ≡ Some rows.target
  pub teller : rows.teller.row.teller ≡ e.teller → IsKeptOf w e.teller rows.teller
  pub branch : rows.branch.row.branch ≡ e.branch → branch_record w e.branch ≡ Some rows.branch

-- a change that may move an account, a teller or a branch, or add one
abbrev pub is_of_books : RowWrite → Bool
is_of_books (write.Account row) = true
is_of_books (write.Entry row) = true
is_of_books (write.Line row) = true
is_of_books (write.Proof row) = false
is_of_books (write.Release row) = false
is_of_books (write.Day d) = true
is_of_books (write.Used k) = false
is_of_books (write.Slip row) = false
is_of_books (write.Session s) = false
is_of_books (write.Policy change) = false

abbrev pub moves_books : List RowWrite → Bool
moves_books plan = list_any is_of_books plan

-- what is found inside a transaction, by the World that the tables hold and of which these rows are known
abbrev pub FindsKnown : {X E : Type 0} → KnownRows → State → State → Result X E → (WorldLists → X → Type 0) → Type 0
FindsKnown known old new result is = HasCleanDisk new → IsTrue old.in_transaction → (w : WorldLists) → HoldsWorld old.now w → AreKnownOf w known → IfOk result (is w)

-- what a step that went through says of such a World
abbrev pub TellsKnown : {X E : Type 0} → KnownRows → State → State → Result X E → (WorldLists → Type 0) → Type 0
TellsKnown known old new result says = HasCleanDisk new → IsTrue old.in_transaction → (w : WorldLists) → HoldsWorld old.now w → AreKnownOf w known → OnOk result (says w)

-- a step of Worlds of which these rows are known
abbrev pub MovesKnown : {X E : Type 0} → KnownRows → State → State → (WorldLists → WorldLists) → Result X E → Type 0
MovesKnown known old new after result =
    HasCleanDisk new → IsTrue old.in_transaction → (w : WorldLists) → HoldsWorld old.now w → AreKnownOf w known →
    OnOk result (IsTrue new.in_transaction × HoldsWorld new.now (after w)) × KeepsCommit old new

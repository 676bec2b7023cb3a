-- The limits of what rows come to.
use Rattle.std.specs.Prelude.{ℕ, ℤ, ◌≡◌, ◌≤◌, ◌≤ℤ◌, ◌⊎◌, Contains}
use Rattle.bank_terms.specs.Limits.{max_accounts, max_key}
use Rattle.money.specs.Range.{IsCents}
use Rattle.row_members.specs.Ranges.{IsCash}
use Rattle.bank_books.specs.Records.{account_record_of, branch_record_of, entry_record_of, teller_record_of}
use Rattle.bank_books.specs.WorldLists.{WorldLists}
use Rattle.bank_books.specs.declared.records.AccountRecord.{AccountRecord}
use Rattle.bank_books.specs.declared.records.BranchRecord.{BranchRecord}
use Rattle.bank_books.specs.declared.records.TellerRecord.{TellerRecord}
use Rattle.bank_books.specs.declared.rows.Account.{Account}
use Rattle.bank_books.specs.declared.rows.Branch.{Branch}
use Rattle.bank_books.specs.declared.rows.Entry.{Entry}
use Rattle.bank_books.specs.declared.rows.Teller.{Teller}

-- what the entries of a branch come to
pub record IsHistoryWithin (balance history : ℤ) (entries : ℕ) : Type 0 where
  pub balance_within : IsCents balance
  pub history_within : IsCents history
  pub entries_within : entries ≤ max_key

-- what its lines come to
pub record IsCashWithin (vault drawers cash_entries differences : ℤ) (lines : ℕ) : Type 0 where
  pub vault_within : IsCash vault
  pub drawers_within : IsCents drawers
  pub cash_entries_within : IsCents cash_entries
  pub differences_within : IsCents differences
  pub lines_within : lines ≤ max_key

pub record IsBranchWithin (b : BranchRecord) : Type 0 where
  pub history : IsHistoryWithin b.balance b.history b.entries
  pub cash : IsCashWithin b.vault b.drawers b.cash_entries b.differences b.lines
  pub accounts : b.accounts ≤ max_accounts

pub record IsTellerWithin (t : TellerRecord) : Type 0 where
  pub balance : IsCents t.balance
  pub cash : IsCash t.cash

pub record IsAccountWithin (a : AccountRecord) : Type 0 where
  pub balance : IsCents a.balance
  pub above_floor : a.row.floor ≤ℤ a.balance
  pub turns : a.turns ≤ max_key

-- what the rows of a World come to, and the balance after each entry, are within their limits
pub record AreWithinLimits (w : WorldLists) : Type 0 where
  pub branches : (row : Branch) → Contains w.branches row → IsBranchWithin (branch_record_of w row)
  pub tellers : (row : Teller) → Contains w.tellers row → IsTellerWithin (teller_record_of w row)
  pub accounts : (row : Account) → Contains w.accounts row → IsAccountWithin (account_record_of w row)
  pub entries : (row : Entry) → Contains w.entries row → IsCents (entry_record_of w row).balance_after

-- From one World to the next each row either was there and comes to what it came to, or comes to what is within the limits.
pub record AreMovedWithin (before after : WorldLists) : Type 0 where
  pub branches : (row : Branch) → Contains after.branches row →
      (Contains before.branches row × (branch_record_of after row ≡ branch_record_of before row)) ⊎ IsBranchWithin (branch_record_of after row)
  pub tellers : (row : Teller) → Contains after.tellers row →
      (Contains before.tellers row × (teller_record_of after row ≡ teller_record_of before row)) ⊎ IsTellerWithin (teller_record_of after row)
  pub accounts : (row : Account) → Contains after.accounts row →
      (Contains before.accounts row × (account_record_of after row ≡ account_record_of before row)) ⊎ IsAccountWithin (account_record_of after row)
  pub entries : (row : Entry) → Contains after.entries row →
      (Contains before.entries row × (entry_record_of after row ≡ entry_record_of before row)) ⊎ IsCents (entry_record_of after row).balance_after

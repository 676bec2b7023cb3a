-- What is asked of single kept rows, from which what is asked of their branches follows.
use Rattle.std.specs.Prelude.{ℕ, ℤ, pos, ◌≡◌, ◌+ℤ◌, ◌==◌, if◌then◌else◌, List, map, Contains}
use Rattle.money.specs.Range.{is_cents}
use Rattle.keyed_rows.specs.Totals.{total}
use Rattle.bank_books.specs.declared.records.AccountRecord.{AccountRecord}
use Rattle.bank_books.specs.declared.records.BranchRecord.{BranchRecord}
use Rattle.bank_books.specs.declared.records.EntryRecord.{EntryRecord}
use Rattle.bank_books.specs.declared.records.TellerRecord.{TellerRecord}
use Rattle.book_sums.specs.Shares.{group_total}
use Rattle.book_sums.specs.declared.shares.Part.{Part}
use Rattle.bank_books.specs.Conditions.{IsAccountOfHistory, IsBranchOfHistory, IsBranchOfLines, IsTellerOfLines, home_of}
use Rattle.bank_books.specs.Numbering.{AreNumbered}
use Rattle.bank_books.specs.Records.{KeptLists, account_record_of, branch_record_of, entry_record_of, teller_record_of}
use Rattle.bank_books.specs.WorldLists.{WorldLists}

-- What is asked of the kept rows of a branch.

abbrev pub BranchesOfHistory : WorldLists → KeptLists → ℕ → Type 0
BranchesOfHistory w kept branch = (b : BranchRecord) → Contains kept.branches b → b.row.branch ≡ branch → IsBranchOfHistory b (branch_record_of w b.row)

abbrev pub TellersOfHistory : WorldLists → KeptLists → ℕ → Type 0
TellersOfHistory w kept branch = (t : TellerRecord) → Contains kept.tellers t → t.row.branch ≡ branch → t.balance ≡ (teller_record_of w t.row).balance

abbrev pub AccountsOfHistory : WorldLists → KeptLists → ℕ → Type 0
AccountsOfHistory w kept branch = (a : AccountRecord) → Contains kept.accounts a → a.row.home ≡ branch → IsAccountOfHistory a (account_record_of w a.row)

abbrev pub EntriesOfHistory : WorldLists → KeptLists → ℕ → Type 0
EntriesOfHistory w kept branch = (e : EntryRecord) → Contains kept.entries e → home_of w.accounts e.row.account ≡ branch → e.balance_after ≡ (entry_record_of w e.row).balance_after

abbrev pub TurnsOfHistory : WorldLists → KeptLists → ℕ → Type 0
TurnsOfHistory w kept branch = (a : AccountRecord) → Contains kept.accounts a → a.row.home ≡ branch → AreNumbered (λ e. e.account) (λ e. e.turn) w.entries a.row.account

-- An amount, and 0 for a number that is none. What is kept is judged by its range first, so that later none is cut.
abbrev pub amount_of : ℤ → ℤ
amount_of z = if is_cents z then z else pos 0

-- what is kept of a branch's cash is what its lines give, and the cash in its vault and its drawers adds up
pub record IsBranchOfCash (kept computed : BranchRecord) : Type 0 where
  pub lines : IsBranchOfLines kept computed
  pub equation : amount_of kept.vault +ℤ amount_of kept.drawers ≡ kept.row.cash +ℤ (amount_of kept.cash_entries +ℤ amount_of kept.differences)

abbrev pub BranchesOfCash : WorldLists → KeptLists → ℕ → Type 0
BranchesOfCash w kept branch = (b : BranchRecord) → Contains kept.branches b → b.row.branch ≡ branch → IsBranchOfCash b (branch_record_of w b.row)

abbrev pub TellersOfLines : WorldLists → KeptLists → ℕ → Type 0
TellersOfLines w kept branch = (t : TellerRecord) → Contains kept.tellers t → t.row.branch ≡ branch → IsTellerOfLines t (teller_record_of w t.row)

-- the sum of the balances that are kept of a branch's tellers, where a number that is no amount counts as 0
abbrev pub teller_sum : ℕ → List TellerRecord → ℤ
teller_sum branch tellers = total (map (λ t. if t.row.branch == branch then amount_of t.balance else pos 0) tellers)

-- a teller's part in the sum of its branch
abbrev pub balance_part : TellerRecord → Part
balance_part t = record { group = t.row.branch; number = 0; amount = amount_of t.balance }

-- the balance of a branch is what its tellers' parts come to
abbrev pub IsSumOfParts : List Part → BranchRecord → Type 0
IsSumOfParts tellers b = b.balance ≡ group_total b.row.branch tellers

-- the sums of account, teller and branch balances are equal, where a number that is no amount counts as 0
pub record AmountsAgree (kept : KeptLists) : Type 0 where
  pub tellers : total (map (λ t. amount_of t.balance) kept.tellers) ≡ total (map (λ a. amount_of a.balance) kept.accounts)
  pub branches : total (map (λ b. amount_of b.balance) kept.branches) ≡ total (map (λ a. amount_of a.balance) kept.accounts)

-- What a plan of entries and cash lines moves: what its changes add, one by one.
use Rattle.std.specs.Prelude.{ℕ, ℤ, pos, ◌≡◌, ◌+◌, ◌+ℤ◌, ◌==◌, ◌&&◌, ⊤, List, map, if◌then◌else◌}
use Rattle.std.specs.List.{sum_by}
use Rattle.keyed_rows.specs.Totals.{total}
use Rattle.bank_books.specs.Balances.{account_balance, branch_balance, entry_count, teller_balance}
use Rattle.bank_books.specs.Cash.{cash_entry_total, is_cash_entry}
use Rattle.bank_books.specs.Effects.{all_written}
use Rattle.bank_books.specs.WorldLists.{WorldLists}
use Rattle.bank_books.specs.declared.row_write.RowWrite.{RowWrite}
use Rattle.bank_books.specs.declared.row_write.RowWrite.TheVariants as write
use Rattle.book_laws.specs.Kept.{OnlyAdds}

-- an entry or a cash line
abbrev pub IsPosting : RowWrite → Type 0
IsPosting (write.Account row) = ⊥
IsPosting (write.Entry row) = ⊤
IsPosting (write.Line row) = ⊤
IsPosting (write.Proof row) = ⊥
IsPosting (write.Release row) = ⊥
IsPosting (write.Day d) = ⊥
IsPosting (write.Used k) = ⊥
IsPosting (write.Slip row) = ⊥
IsPosting (write.Session s) = ⊥
IsPosting (write.Policy change) = ⊥

-- what a change adds to the balance of a branch: the delta of an entry that names it
abbrev pub branch_share : ℕ → RowWrite → ℤ
branch_share key (write.Account row) = pos 0
branch_share key (write.Entry row) = if row.branch == key then row.delta else pos 0
branch_share key (write.Line row) = pos 0
branch_share key (write.Proof row) = pos 0
branch_share key (write.Release row) = pos 0
branch_share key (write.Day d) = pos 0
branch_share key (write.Used k) = pos 0
branch_share key (write.Slip row) = pos 0
branch_share key (write.Session s) = pos 0
branch_share key (write.Policy change) = pos 0

-- of a teller
abbrev pub teller_share : ℕ → RowWrite → ℤ
teller_share key (write.Account row) = pos 0
teller_share key (write.Entry row) = if row.teller == key then row.delta else pos 0
teller_share key (write.Line row) = pos 0
teller_share key (write.Proof row) = pos 0
teller_share key (write.Release row) = pos 0
teller_share key (write.Day d) = pos 0
teller_share key (write.Used k) = pos 0
teller_share key (write.Slip row) = pos 0
teller_share key (write.Session s) = pos 0
teller_share key (write.Policy change) = pos 0

-- of an account
abbrev pub account_share : ℕ → RowWrite → ℤ
account_share key (write.Account row) = pos 0
account_share key (write.Entry row) = if row.account == key then row.delta else pos 0
account_share key (write.Line row) = pos 0
account_share key (write.Proof row) = pos 0
account_share key (write.Release row) = pos 0
account_share key (write.Day d) = pos 0
account_share key (write.Used k) = pos 0
account_share key (write.Slip row) = pos 0
account_share key (write.Session s) = pos 0
account_share key (write.Policy change) = pos 0

-- how many entries it adds to the history of a branch
abbrev pub entry_share : ℕ → RowWrite → ℕ
entry_share branch (write.Account row) = 0
entry_share branch (write.Entry row) = if row.branch == branch then 1 else 0
entry_share branch (write.Line row) = 0
entry_share branch (write.Proof row) = 0
entry_share branch (write.Release row) = 0
entry_share branch (write.Day d) = 0
entry_share branch (write.Used k) = 0
entry_share branch (write.Slip row) = 0
entry_share branch (write.Session s) = 0
entry_share branch (write.Policy change) = 0

-- what it adds to the cash of the entries of a branch: the amount of a line of theirs
abbrev pub cash_entry_share : ℕ → RowWrite → ℤ
cash_entry_share branch (write.Account row) = pos 0
cash_entry_share branch (write.Entry row) = pos 0
cash_entry_share branch (write.Line row) = if row.branch == branch && is_cash_entry row.form then row.amount else pos 0
cash_entry_share branch (write.Proof row) = pos 0
cash_entry_share branch (write.Release row) = pos 0
cash_entry_share branch (write.Day d) = pos 0
cash_entry_share branch (write.Used k) = pos 0
cash_entry_share branch (write.Slip row) = pos 0
cash_entry_share branch (write.Session s) = pos 0
cash_entry_share branch (write.Policy change) = pos 0

-- Balances, entries and the cash of entries are moved by what the changes add, each by all of them; rows are only added, and those of
-- proofs, of branches and of the policy stay.
pub record IsMovedByPlan (w : WorldLists) (changes : List RowWrite) : Type 0 where
  pub branch_balances : (key : ℕ) → branch_balance (all_written changes w) key ≡ branch_balance w key +ℤ total (map (branch_share key) changes)
  pub teller_balances : (key : ℕ) → teller_balance (all_written changes w) key ≡ teller_balance w key +ℤ total (map (teller_share key) changes)
  pub account_balances : (key : ℕ) → account_balance (all_written changes w) key ≡ account_balance w key +ℤ total (map (account_share key) changes)
  pub entries : (branch : ℕ) → entry_count branch (all_written changes w).entries ≡ entry_count branch w.entries + sum_by (entry_share branch) changes
  pub cash_entries : (branch : ℕ) → cash_entry_total branch (all_written changes w).lines ≡ cash_entry_total branch w.lines +ℤ total (map (cash_entry_share branch) changes)
  pub added : OnlyAdds w (all_written changes w)
  pub proofs : (all_written changes w).proofs ≡ w.proofs
  pub branches : (all_written changes w).branches ≡ w.branches
  pub policy : (all_written changes w).policy ≡ w.policy

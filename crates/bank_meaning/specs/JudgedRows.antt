-- What the rules of the books ask of each form, over the rows of the World: who holds the drawer, who made the entry, what is left in accounts, drawers and vaults.
use Rattle.std.specs.Prelude.{ℕ, ℤ, pos, ◌≡◌, ◌≤ℤ◌, ◌+ℤ◌, Option, Some}
use Rattle.bank_books.specs.Balances.{account_balance, account_row, branch_row, teller_row}
use Rattle.bank_books.specs.Cash.{cash_of, holder_of, place_cash}
use Rattle.bank_books.specs.WorldLists.{WorldLists}
use Rattle.bank_books.specs.declared.rows.Account.{Account}
use Rattle.bank_books.specs.declared.rows.Branch.{Branch}
use Rattle.bank_books.specs.declared.rows.Teller.{Teller}

-- ---- rows that are there

abbrev pub HasBranch : WorldLists → ℕ → Type 0
HasBranch w key = (row : Branch) × (branch_row key w.branches ≡ Some row)

abbrev pub HasAccount : WorldLists → ℕ → Type 0
HasAccount w key = (row : Account) × (account_row key w.accounts ≡ Some row)

-- The teller is there and of this branch, and this is who holds its drawer.
pub record HasDrawer (w : WorldLists) (teller branch : ℕ) (held_by : Option ℕ) : Type 0 where
  pub row : Teller
  pub there : teller_row teller w.tellers ≡ Some row
  pub of_branch : row.branch ≡ branch
  pub holder : holder_of w.lines teller ≡ held_by

-- this user holds it
abbrev pub HoldsDrawer : WorldLists → ℕ → ℕ → ℕ → Type 0
HoldsDrawer w user teller branch = HasDrawer w teller branch (Some user)

-- The account is there, and with so much added its balance is not below its floor.
pub record KeepsFloor (w : WorldLists) (account : ℕ) (added : ℤ) : Type 0 where
  pub row : Account
  pub there : account_row account w.accounts ≡ Some row
  pub floor : row.floor ≤ℤ (account_balance w account +ℤ added)

-- with so much added, the cash of a drawer is not below zero
abbrev pub DrawerCovers : WorldLists → ℕ → ℕ → ℤ → Type 0
DrawerCovers w teller branch added = pos 0 ≤ℤ (place_cash branch teller w.lines +ℤ added)

-- nor that of a place, the vault too
abbrev pub PlaceCovers : WorldLists → ℕ → ℕ → ℤ → Type 0
PlaceCovers w place branch added = pos 0 ≤ℤ (cash_of w branch place +ℤ added)

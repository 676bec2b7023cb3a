-- What the rules of the books ask of one row, as far as it is there: a rule that speaks of a row that is missing does not deny. What is added is in
-- cents.
use Rattle.std.specs.Prelude.{ℕ, ℤ, pos, ◌+◌, ◌+ℤ◌, ◌==◌, ◌&&◌, Bool, true, false, not, nat_lt, int_lt, Option, is_some, is_none}
use Rattle.std.specs.Option.{option_map_or}
use Rattle.bank_terms.specs.Limits.{max_key}
use Rattle.money.specs.Range.{is_cents}
use Rattle.bank_books.specs.declared.records.AccountRecord.{AccountRecord}
use Rattle.bank_books.specs.declared.records.TellerRecord.{TellerRecord}
use Rattle.rule_tests.specs.declared.cash_book.CashBook.{CashBook}
use Rattle.rule_tests.specs.declared.ledger.Ledger.{Ledger}

-- the last of n more has no number
abbrev pub is_full : ℕ → ℕ → Bool
is_full count more = nat_lt max_key (count + more)

-- ---- an account

-- with this added it stays at its floor or above
abbrev pub account_keeps_floor : Option AccountRecord → ℤ → Bool
account_keeps_floor row added = option_map_or (λ a. not (int_lt (a.balance +ℤ added) a.row.floor)) row true

-- with this added its balance is an amount of money
abbrev pub account_in_range : Option AccountRecord → ℤ → Bool
account_in_range row added = option_map_or (λ a. is_cents (a.balance +ℤ added)) row true

abbrev pub account_is_full : Option AccountRecord → Bool
account_is_full row = option_map_or (λ a. is_full a.turns 1) row false

-- ---- a teller, and the history of its branch

abbrev pub teller_is_of : Option TellerRecord → ℕ → Bool
teller_is_of row branch = option_map_or (λ t. t.row.branch == branch) row true

abbrev pub teller_in_range : Option TellerRecord → ℤ → Bool
teller_in_range row added = option_map_or (λ t. is_cents (t.balance +ℤ added)) row true

-- the balance of the branch and its sum of deltas
abbrev pub ledger_in_range : Option Ledger → ℤ → Bool
ledger_in_range row added = option_map_or (λ b. is_cents (b.balance +ℤ added) && is_cents (b.history +ℤ added)) row true

abbrev pub ledger_is_full : Option Ledger → ℕ → Bool
ledger_is_full row more = option_map_or (λ b. is_full b.entries more) row false

-- ---- a drawer

-- this user holds it
abbrev pub drawer_is_held_by : Option TellerRecord → ℕ → Bool
drawer_is_held_by row user = option_map_or (λ t. option_map_or (λ holder. holder == user) t.holder false) row true

-- some user holds it
abbrev pub drawer_is_held : Option TellerRecord → Bool
drawer_is_held row = option_map_or (λ t. is_some t.holder) row false

-- nobody holds it
abbrev pub drawer_is_free : Option TellerRecord → Bool
drawer_is_free row = option_map_or (λ t. is_none t.holder) row false

-- with this added its cash is not below zero
abbrev pub drawer_covers : Option TellerRecord → ℤ → Bool
drawer_covers row added = option_map_or (λ t. not (int_lt (t.cash +ℤ added) (pos 0))) row true

abbrev pub drawer_in_range : Option TellerRecord → ℤ → Bool
drawer_in_range row added = option_map_or (λ t. is_cents (t.cash +ℤ added)) row true

-- ---- a vault, by its cash

abbrev pub vault_covers : Option ℤ → ℤ → Bool
vault_covers cash added = option_map_or (λ c. not (int_lt (c +ℤ added) (pos 0))) cash true

abbrev pub vault_in_range : Option ℤ → ℤ → Bool
vault_in_range cash added = option_map_or (λ c. is_cents (c +ℤ added)) cash true

-- ---- the cash book of a branch

-- the sum of the cash of its drawers
abbrev pub drawers_in_range : Option CashBook → ℤ → Bool
drawers_in_range row added = option_map_or (λ b. is_cents (b.drawers +ℤ added)) row true

-- the sum of its lines that came with entries
abbrev pub cash_entries_in_range : Option CashBook → ℤ → Bool
cash_entries_in_range row added = option_map_or (λ b. is_cents (b.cash_entries +ℤ added)) row true

-- the sum of its lines that record what counts differed by
abbrev pub differences_in_range : Option CashBook → ℤ → Bool
differences_in_range row added = option_map_or (λ b. is_cents (b.differences +ℤ added)) row true

abbrev pub cash_book_is_full : Option CashBook → ℕ → Bool
cash_book_is_full row more = option_map_or (λ b. is_full b.lines more) row false

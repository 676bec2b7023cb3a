-- By how much the cash of a branch differs from what its lines explain, and what one line adds to that.
use Rattle.std.specs.Prelude.{ℕ, ℤ, pos, ◌+ℤ◌, neg_ℤ, ◌||◌, List, if◌then◌else◌}
use Rattle.bank_books.specs.Cash.{cash_entry_total, difference_total, drawer_total, is_cash_entry, is_difference, place_cash}
use Rattle.bank_books.specs.declared.rows.CashLine.{CashLine}

-- what the lines of a branch brought into its vault and its drawers, less what its entries brought and its counts differed by: 0
-- where its cash balances
abbrev pub cash_gap : ℕ → List CashLine → ℤ
cash_gap branch lines = (place_cash branch 0 lines +ℤ drawer_total branch lines) +ℤ neg_ℤ (cash_entry_total branch lines +ℤ difference_total branch lines)

-- What one line adds to it: its amount, for cash that is put on, put off or moved, and nothing for the cash of an entry or for a
-- difference, which explain themselves. The two lines of cash that is moved add nothing together.
abbrev pub gap_share : CashLine → ℤ
gap_share l = if is_cash_entry l.form || is_difference l.form then pos 0 else l.amount

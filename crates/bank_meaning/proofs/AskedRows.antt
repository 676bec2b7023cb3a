-- What the rows that an operation adds say, by the rows that it finds.
use Rattle.std.proofs.Common.{◌≡◌, ℕ, ◌+◌, Some, ap, ap₂}
use Rattle.bank_books.specs.Balances.{account_row, branch_row, entry_count, turn_count}
use Rattle.bank_books.specs.Cash.{line_count}
use Rattle.bank_books.specs.Keys.{account_key, branch_key}
use Rattle.bank_books.specs.WorldLists.{WorldLists}
use Rattle.bank_books.specs.declared.rows.Account.{Account}
use Rattle.bank_books.specs.declared.rows.Branch.{Branch}
use Rattle.keyed_rows.proofs.Rows.{found_row}
use Rattle.std.specs.Prelude.{option_map}
use Rattle.bank_meaning.specs.AskedRows.{EntrySays, LineSays, today}

-- the row of a branch that is found: its number and its day
pub record IsHome (w : WorldLists) (branch : ℕ) (row : Branch) : Type 0 where
  pub key : row.branch ≡ branch
  pub day : today w branch ≡ Some row.day

pub is_home : (w : WorldLists) (key : ℕ) (row : Branch) → branch_row key w.branches ≡ Some row → IsHome w key row
is_home w key row there = record { key = (found_row branch_key key w.branches row there).1; day = ap (option_map (λ (b : Branch). b.day)) there }

-- an entry with a number that follows those of its branch, and the next turn of its account; and a partner with another
pub numbered : (w : WorldLists) (says : EntrySays) (n : ℕ) (found key of account : ℕ) → found ≡ key → of ≡ account
    → record says { number = entry_count found w.entries + n; turn = turn_count of w.entries + 1 } ≡ record says { number = entry_count key w.entries + n; turn = turn_count account w.entries + 1 }
numbered w says n found key of account is same = ap₂ (λ k a. record says { number = entry_count k w.entries + n; turn = turn_count a w.entries + 1 }) is same

pub partnered : (w : WorldLists) (says : EntrySays) (n m : ℕ) (found key of account : ℕ) → found ≡ key → of ≡ account
    → record says { number = entry_count found w.entries + n; turn = turn_count of w.entries + 1; partner = entry_count found w.entries + m }
    ≡ record says { number = entry_count key w.entries + n; turn = turn_count account w.entries + 1; partner = entry_count key w.entries + m }
partnered w says n m found key of account is same =
    ap₂ (λ k a. record says { number = entry_count k w.entries + n; turn = turn_count a w.entries + 1; partner = entry_count k w.entries + m }) is same

-- a line with a number that follows those of its branch
pub placed_next : (w : WorldLists) (says : LineSays) (n : ℕ) (found key : ℕ) → found ≡ key
    → record says { number = line_count found w.lines + n } ≡ record says { number = line_count key w.lines + n }
placed_next w says n found key is = ap (λ k. record says { number = line_count k w.lines + n }) is

-- the number of an account that is found
pub account_found : (w : WorldLists) (key : ℕ) (row : Account) → account_row key w.accounts ≡ Some row → row.account ≡ key
account_found w key row there = (found_row account_key key w.accounts row there).1

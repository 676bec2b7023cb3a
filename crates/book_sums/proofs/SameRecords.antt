-- When two rows with their numbers are equal.
use Rattle.std.proofs.Common.{◌≡◌, rules}
use Rattle.bank_books.specs.declared.records.AccountRecord.{AccountRecord}
use Rattle.bank_books.specs.declared.records.BranchRecord.{BranchRecord}
use Rattle.bank_books.specs.declared.records.EntryRecord.{EntryRecord}
use Rattle.bank_books.specs.declared.records.TellerRecord.{TellerRecord}
use Rattle.bank_books.specs.Conditions.{IsAccountOfHistory, IsBranchOfHistory, IsBranchOfLines, IsTellerOfLines}

pub branch_same : (b c : BranchRecord) → b.row ≡ c.row → IsBranchOfHistory b c → IsBranchOfLines b c → b ≡ c
branch_same b c row history lines =
    search (rules, row, history.balance, history.entries, history.history, history.accounts, lines.vault, lines.lines, lines.drawers, lines.cash_entries, lines.differences)

pub teller_same : (t u : TellerRecord) → t.row ≡ u.row → t.balance ≡ u.balance → IsTellerOfLines t u → t ≡ u
teller_same t u row balance lines = search (rules, row, balance, lines.cash, lines.holder)

pub account_same : (a b : AccountRecord) → a.row ≡ b.row → IsAccountOfHistory a b → a ≡ b
account_same a b row history = search (rules, row, history.balance, history.turns)

pub entry_same : (e f : EntryRecord) → e.row ≡ f.row → e.balance_after ≡ f.balance_after → e ≡ f
entry_same e f row balance = search (rules, row, balance)

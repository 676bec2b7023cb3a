-- The parts of a branch by which operations are judged, each for those that touch it alone: whoever moves a drawer looks at no number of the history.
use Rattle.bank_books.specs.declared.records.BranchRecord.{BranchRecord}
use Rattle.rule_tests.specs.declared.cash_book.CashBook.{CashBook}
use Rattle.rule_tests.specs.declared.ledger.Ledger.{Ledger}

-- the sums of its history, without its cash
abbrev pub ledger_of : BranchRecord → Ledger
ledger_of b = record { day = b.row.day; balance = b.balance; entries = b.entries; history = b.history }

-- what its cash lines come to, and none of its vault
abbrev pub cash_book_of : BranchRecord → CashBook
cash_book_of b = record { day = b.row.day; lines = b.lines; drawers = b.drawers; cash_entries = b.cash_entries; differences = b.differences }

-- The rows that entries and lines name, and those that their parts in sums do.
use Rattle.std.specs.Prelude.{◌≡◌, ◌⊎◌}
use Rattle.bank_books.specs.Range.{IsAccount, IsBranch, IsTellerOf}
use Rattle.bank_books.specs.WorldLists.{WorldLists}
use Rattle.bank_books.specs.declared.rows.CashLine.{CashLine}
use Rattle.bank_books.specs.declared.rows.Entry.{Entry}
use Rattle.book_range.specs.declared.named.Named.{Named}
use Rattle.book_range.specs.declared.named.Named.TheVariants as named
use Rattle.book_sums.specs.declared.shares.Part.{Part}

-- the rows that an entry names are there
pub record IsEntryNamed (w : WorldLists) (e : Entry) : Type 0 where
  pub branch : IsBranch w.branches e.branch
  pub account : IsAccount w.accounts e.account
  pub teller : IsTellerOf w.tellers e.branch e.teller

-- those that a line names: its branch, and its place unless that is the vault
pub record IsLineNamed (w : WorldLists) (l : CashLine) : Type 0 where
  pub branch : IsBranch w.branches l.branch
  pub place : (l.place ≡ 0) ⊎ IsTellerOf w.tellers l.branch l.place

-- the same of the parts of rows: the account of an entry, its teller and branch, or the branch and place of a line
abbrev pub IsNamed : WorldLists → Named → Part → Type 0
IsNamed w named.Account part = IsAccount w.accounts part.group
IsNamed w named.Teller part = IsBranch w.branches part.number × IsTellerOf w.tellers part.number part.group
IsNamed w named.Place part = IsBranch w.branches part.group × ((part.number ≡ 0) ⊎ IsTellerOf w.tellers part.group part.number)

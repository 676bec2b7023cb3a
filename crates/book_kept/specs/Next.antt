-- Changes that come next and whose sums are in range, so that none is refused.
use Rattle.std.specs.Prelude.{◌≡◌, ◌≢◌, ◌+◌, Some}
use Rattle.money.specs.Range.{IsCents}
use Rattle.bank_books.specs.Cash.{holder_after}
use Rattle.bank_books.specs.declared.records.AccountRecord.{AccountRecord}
use Rattle.bank_books.specs.declared.records.BranchRecord.{BranchRecord}
use Rattle.bank_books.specs.declared.rows.CashLine.{CashLine}
use Rattle.bank_books.specs.declared.rows.Entry.{Entry}
use Rattle.book_laws.specs.Moves.{branch_entered}
use Rattle.book_kept.specs.Records.{kept_teller_entered}
use Rattle.book_kept.specs.declared.records.KeptTeller.{KeptTeller}

-- what the entries of a branch come to is within the limits
pub record IsHistoryDetermined (b : BranchRecord) : Type 0 where
  pub balance : IsCents b.balance
  pub history : IsCents b.history

-- what the lines of a branch come to is
pub record IsCashDetermined (b : BranchRecord) : Type 0 where
  pub vault : IsCents b.vault
  pub drawers : IsCents b.drawers
  pub cash_entries : IsCents b.cash_entries
  pub differences : IsCents b.differences

-- an entry of the next turn of its account and the next number of its branch
pub record IsNextOf (e : Entry) (a : AccountRecord) (t : KeptTeller) (b : BranchRecord) : Type 0 where
  pub turn : e.turn ≡ a.turns + 1
  pub number : e.number ≡ b.entries + 1
  pub account : IsCents a.balance
  pub teller : IsCents t.balance
  pub branch : IsHistoryDetermined b

-- a line at the vault, of the next number of its branch
pub record IsNextAtVault (l : CashLine) (b : BranchRecord) : Type 0 where
  pub place : l.place ≡ 0
  pub number : l.number ≡ b.lines + 1
  pub cash : IsCashDetermined b

-- a line at the drawer of a teller of its branch, of the next number of that; who puts the drawer on is not user 0
pub record IsNextAtDrawer (l : CashLine) (t : KeptTeller) (b : BranchRecord) : Type 0 where
  pub branch : t.row.branch ≡ l.branch
  pub holder : holder_after l l.form ≢ Some 0
  pub number : l.number ≡ b.lines + 1
  pub drawer : IsCents t.cash
  pub cash : IsCashDetermined b

-- two entries, the second of which comes next after the first
pub record AreNextLegs (e f : Entry) (source target : AccountRecord) (t : KeptTeller) (b : BranchRecord) : Type 0 where
  pub first : IsNextOf e source t b
  pub second : IsNextOf f target (kept_teller_entered e.delta t) (branch_entered e.delta b)

-- an entry with its cash line
pub record IsNextPosting (e : Entry) (l : CashLine) (a : AccountRecord) (t : KeptTeller) (b : BranchRecord) : Type 0 where
  pub place : l.place ≡ e.teller
  pub branch : l.branch ≡ e.branch
  pub entry : IsNextOf e a t b
  pub line : IsNextAtDrawer l t b

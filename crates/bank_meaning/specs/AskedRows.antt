-- What the rows that an operation adds say: who asked, when and on which day; and the members by which each form says what was asked.
use Rattle.std.specs.Prelude.{ℕ, ℤ, ◌≡◌, ◌≢◌, ⊤, Option, Some, option_map}
use Rattle.bank_books.specs.Balances.{branch_row}
use Rattle.bank_books.specs.WorldLists.{WorldLists}
use Rattle.bank_books.specs.declared.row_write.RowWrite.{RowWrite}
use Rattle.bank_books.specs.declared.row_write.RowWrite.TheVariants as write
use Rattle.bank_books.specs.declared.rows.CashLine.{CashLine}
use Rattle.bank_books.specs.declared.rows.Entry.{Entry}
use Rattle.bank_books.specs.declared.rows.EntryForm.{EntryForm}
use Rattle.bank_books.specs.declared.rows.LineForm.{LineForm}

-- the present day of a branch, none if it is not there
abbrev pub today : WorldLists → ℕ → Option ℕ
today w branch = option_map (λ row. row.day) (branch_row branch w.branches)

-- Whatever was asked: a row bears the user who asked, the moment, and the day that its branch has. A release is for somebody else.
abbrev pub Bears : WorldLists → ℕ → ℕ → RowWrite → Type 0
Bears w user moment (write.Entry e) = (e.user ≡ user) × (e.moment ≡ moment) × (today w e.branch ≡ Some e.day)
Bears w user moment (write.Line l) = (l.user ≡ user) × (l.moment ≡ moment) × (today w l.branch ≡ Some l.day)
Bears w user moment (write.Proof p) = today w p.branch ≡ Some p.day
Bears w user moment (write.Release r) = (r.giver ≡ user) × (r.user ≢ user) × (today w r.branch ≡ Some r.day)
Bears w user moment _ = ⊤

-- what an entry says of what was asked, and its numbers: in the history of its branch, and in that of its account
pub record EntrySays : Type 0 where
  pub branch : ℕ
  pub number : ℕ
  pub turn : ℕ
  pub teller : ℕ
  pub account : ℕ
  pub delta : ℤ
  pub form : EntryForm
  pub partner : ℕ
  pub undoes : ℕ

abbrev pub entry_says : Entry → EntrySays
entry_says e = record { branch = e.branch; number = e.number; turn = e.turn; teller = e.teller; account = e.account; delta = e.delta; form = e.form; partner = e.partner; undoes = e.undoes }

-- and a cash line, with its number in the cash book of its branch
pub record LineSays : Type 0 where
  pub branch : ℕ
  pub number : ℕ
  pub place : ℕ
  pub amount : ℤ
  pub form : LineForm

abbrev pub line_says : CashLine → LineSays
line_says l = record { branch = l.branch; number = l.number; place = l.place; amount = l.amount; form = l.form }

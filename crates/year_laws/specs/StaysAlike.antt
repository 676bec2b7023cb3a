-- Two banks of one turn of a year stay alike: what an operation that no rule of the books denies makes of them is alike
-- again.
use Rattle.std.specs.Prelude.{ℕ, ◌≡◌, ◌≢◌, ◌≤◌, ◌⊎◌, List, Contains, Some, None}
use Rattle.std.specs.List.Sorted.{IsNonDecreasingBy}
use Rattle.bank_terms.specs.Procedure.{number_of}
use Rattle.bank_terms.specs.declared.procedure.Procedure.TheVariants as procedure
use Rattle.bank_books.specs.Balances.{account_row, entry_count, teller_row}
use Rattle.bank_books.specs.Books.{Books}
use Rattle.bank_books.specs.Cash.{line_count}
use Rattle.bank_books.specs.Keys.{line_key}
use Rattle.bank_books.specs.Records.{release_count}
use Rattle.bank_books.specs.WorldLists.{WorldLists}
use Rattle.bank_books.specs.declared.rows.Account.{Account}
use Rattle.bank_books.specs.declared.rows.CashLine.{CashLine}
use Rattle.bank_books.specs.declared.rows.Entry.{Entry}
use Rattle.bank_books.specs.declared.rows.Release.{Release}
use Rattle.bank_books.specs.declared.rows.Teller.{Teller}
use Rattle.bank_books.specs.declared.signature.Signature.{Signature}
use Rattle.counter_ops.specs.Releasable.{op_of}
use Rattle.counter_ops.specs.Rows.{row_of}
use Rattle.counter_ops.specs.declared.op.Op.{Op}
use Rattle.counter_ops.specs.declared.releasable.Releasable.{Releasable}
use Rattle.world_reads.specs.BookReads.{release}
use Rattle.bank_meaning.specs.Meaning.{by_books}
use Rattle.bank_meaning.specs.Operations.{meaning_of}
use Rattle.bank_meaning.specs.Order.{AreBooksInOrder}
use Rattle.year_forward.specs.Closed.{IsClosed}
use Rattle.year_forward.specs.Forward.{forward}
use Rattle.year_laws.specs.GoesOn.{AreBoth, GoesOn, Turn, op_at_old, releasable_at_old, turn_of}
use Rattle.year_laws.specs.JudgedAlike.{NamesAnEntry}

-- an account of this number is there
abbrev pub IsOpened : List Account → ℕ → Type 0
IsOpened accounts key = (row : Account) × (account_row key accounts ≡ Some row)

-- a teller of this number is there, and is of this branch
abbrev pub IsDrawerOf : List Teller → ℕ → ℕ → Type 0
IsDrawerOf tellers branch place = (row : Teller) × ((teller_row place tellers ≡ Some row) × (row.branch ≡ branch))

-- An entry or a cash line that is added to the bank is the last of its branch, the line also at its drawer, and a
-- release the last of its user: numbers go up to how many there are, lines stand in order, and each is at the vault or
-- at a drawer of its branch. Books in order are so.
pub record AddsLast (w : WorldLists) : Type 0 where
  pub tellers : (t : Teller) → Contains w.tellers t → t.teller ≢ 0
  pub accounts : (e : Entry) → Contains w.entries e → IsOpened w.accounts e.account
  pub entries : (e : Entry) → Contains w.entries e → e.number ≤ entry_count e.branch w.entries
  pub lines : (l : CashLine) → Contains w.lines l → l.number ≤ line_count l.branch w.lines
  pub places : (l : CashLine) → Contains w.lines l → l.place ≢ 0 → IsDrawerOf w.tellers l.branch l.place
  pub order : IsNonDecreasingBy line_key w.lines
  pub releases : (r : Release) → Contains w.releases r → r.number ≤ release_count r.user w.releases

-- A release of the next year, which is for the same operation at both banks.
pub record IsSameRelease (t : Turn) (old new : Release) : Type 0 where
  pub giver : old.giver ≡ new.giver
  pub branch : old.branch ≡ new.branch
  pub day : old.day ≡ new.day
  pub used : old.used ≡ new.used
  pub operation : (o : Releasable) × ((old.operation ≡ row_of (op_of (releasable_at_old t o))) × (new.operation ≡ row_of (op_of o)))

-- the operation is a correction
abbrev pub IsForCorrection : Release → Type 0
IsForCorrection r = number_of r.operation.form ≡ number_of procedure.Correct

-- Or else it is one of the years before for a correction, whose entry is named there by the number of those years.
abbrev pub IsReleaseAlike : Turn → Release → Release → Type 0
IsReleaseAlike t old new = IsSameRelease t old new ⊎ ((old ≡ new) × IsForCorrection new)

-- The two banks are alike, each adds what is new last, an account that is not there has no turn of the years before,
-- and each user, there or not, was given as many releases, which are alike.
pub record StayAlike (t : Turn) (old new : WorldLists) : Type 0 where
  pub alike : GoesOn t old new
  pub old_adds : AddsLast old
  pub new_adds : AddsLast new
  pub turns : (key : ℕ) → account_row key old.accounts ≡ None → t.turns key ≡ 0
  pub given : (user : ℕ) → release_count user old.releases ≡ release_count user new.releases
  pub releases : (user number : ℕ) → AreBoth (IsReleaseAlike t) (release old user number) (release new user number)

-- It is so when the year turns.
abbrev pub TurnsAlike : Type 0
TurnsAlike = (w : WorldLists) → Books w → AreBooksInOrder w → IsClosed w → StayAlike (turn_of w) w (forward w)

-- And it stays so by each operation that no rule of the books denies at either bank, of all forms and whoever asks for
-- it.
abbrev pub BooksStayAlike : Type 0
BooksStayAlike =
    (t : Turn) (old new : WorldLists) → StayAlike t old new → (x : Op) → NamesAnEntry x → (by : Signature) → (by_books (meaning_of (op_at_old t x) by old)).first ≡ None
    → (by_books (meaning_of x by new)).first ≡ None → StayAlike t (meaning_of (op_at_old t x) by old).effect (meaning_of x by new).effect

-- What one change moves, and that it moves nothing else.
use Rattle.std.specs.Prelude.{ℕ, ℤ, pos, ◌≡◌, ◌≢◌, ◌+◌, ◌≤◌, ◌+ℤ◌, neg_ℤ, ◌==◌, ◌&&◌, not, List, length, map, Contains, Some, if◌then◌else◌}
use Rattle.std.specs.List.{AllByRecursion}
use Rattle.bank_terms.specs.Limits.{max_key}
use Rattle.keyed_rows.specs.Totals.{total}
use Rattle.bank_books.specs.Balances.{account_balance, account_row, branch_balance, branch_row, teller_balance, teller_row}
use Rattle.bank_books.specs.Cash.{cash_of, is_cash_entry, is_difference}
use Rattle.bank_books.specs.Effects.{written}
use Rattle.bank_books.specs.Range.{IsEntryOrNone}
use Rattle.row_members.specs.Ranges.{IsCash}
use Rattle.bank_books.specs.Records.{account_record_of, branch_record_of, entry_record_of, teller_record_of}
use Rattle.bank_books.specs.WorldLists.{WorldLists}
use Rattle.bank_books.specs.declared.records.AccountRecord.{AccountRecord}
use Rattle.bank_books.specs.declared.records.BranchRecord.{BranchRecord}
use Rattle.bank_books.specs.declared.records.TellerRecord.{TellerRecord}
use Rattle.bank_books.specs.declared.row_write.RowWrite.TheVariants as write
use Rattle.bank_books.specs.declared.rows.Account.{Account}
use Rattle.bank_books.specs.declared.rows.Branch.{Branch}
use Rattle.bank_books.specs.declared.rows.CashLine.{CashLine}
use Rattle.bank_books.specs.declared.rows.Entry.{Entry}
use Rattle.bank_books.specs.declared.rows.Proof.{Proof}
use Rattle.bank_books.specs.declared.rows.Teller.{Teller}
use Rattle.book_laws.specs.CashGap.{cash_gap, gap_share}
use Rattle.book_laws.specs.Next.{IsNextEntry}
use Rattle.book_laws.specs.Limits.{IsAccountWithin, IsCashWithin, IsHistoryWithin}
use Rattle.money.specs.Range.{IsCents}

-- a balance is moved by a delta at one key and kept at every other
pub record IsMovedAlone (before after : ℕ → ℤ) (key : ℕ) (delta : ℤ) : Type 0 where
  pub moved : after key ≡ before key +ℤ delta
  pub kept : (other : ℕ) → other ≢ key → after other ≡ before other

-- every balance and all cash stay
pub record MovesNothing (before after : WorldLists) : Type 0 where
  pub branch_balances : (key : ℕ) → branch_balance after key ≡ branch_balance before key
  pub teller_balances : (key : ℕ) → teller_balance after key ≡ teller_balance before key
  pub account_balances : (key : ℕ) → account_balance after key ≡ account_balance before key
  pub cash : (branch place : ℕ) → cash_of after branch place ≡ cash_of before branch place

-- ---- an entry

-- what an entry of this delta makes of what its branch, its teller and its account come to
abbrev pub branch_entered : ℤ → BranchRecord → BranchRecord
branch_entered delta b = record b { balance = b.balance +ℤ delta; history = b.history +ℤ delta; entries = b.entries + 1 }

abbrev pub teller_entered : ℤ → TellerRecord → TellerRecord
teller_entered delta t = record t { balance = t.balance +ℤ delta }

abbrev pub account_entered : ℤ → AccountRecord → AccountRecord
account_entered delta a = record a { balance = a.balance +ℤ delta; turns = a.turns + 1 }

-- It moves the branch, the teller and the account that it names, and no other, wherever the account's home is; and no cash.
pub record IsMovedByEntry (w : WorldLists) (e : Entry) : Type 0 where
  pub branches : (row : Branch) → branch_record_of (written (write.Entry e) w) row
      ≡ (if e.branch == row.branch then branch_entered e.delta (branch_record_of w row) else branch_record_of w row)
  pub tellers : (row : Teller) → teller_record_of (written (write.Entry e) w) row
      ≡ (if e.teller == row.teller then teller_entered e.delta (teller_record_of w row) else teller_record_of w row)
  pub accounts : (row : Account) → account_record_of (written (write.Entry e) w) row
      ≡ (if e.account == row.account then account_entered e.delta (account_record_of w row) else account_record_of w row)
  pub branch_balances : IsMovedAlone (branch_balance w) (branch_balance (written (write.Entry e) w)) e.branch e.delta
  pub teller_balances : IsMovedAlone (teller_balance w) (teller_balance (written (write.Entry e) w)) e.teller e.delta
  pub account_balances : IsMovedAlone (account_balance w) (account_balance (written (write.Entry e) w)) e.account e.delta
  pub cash : (branch place : ℕ) → cash_of (written (write.Entry e) w) branch place ≡ cash_of w branch place

-- the balance after it is that of its account, and those after earlier entries stay
pub record StandsLast (w : WorldLists) (e : Entry) : Type 0 where
  pub new : (entry_record_of (written (write.Entry e) w) e).balance_after ≡ account_balance w e.account +ℤ e.delta
  pub earlier : (row : Entry) → Contains w.entries row → entry_record_of (written (write.Entry e) w) row ≡ entry_record_of w row

-- with it, what its branch, its teller and its account come to is within the limits
pub record HasRoomFor (w : WorldLists) (e : Entry) : Type 0 where
  pub branch : (b : Branch) → branch_row e.branch w.branches ≡ Some b →
      let after = branch_entered e.delta (branch_record_of w b) in IsHistoryWithin after.balance after.history after.entries
  pub teller : (t : Teller) → teller_row e.teller w.tellers ≡ Some t → IsCents (teller_entered e.delta (teller_record_of w t)).balance
  pub account : (a : Account) → account_row e.account w.accounts ≡ Some a → IsAccountWithin (account_entered e.delta (account_record_of w a))

-- ---- two entries, as the legs of a transfer

-- Two successive entries at one teller and two accounts, that name each other. Each may undo one that is there.
pub record AreLegs (w : WorldLists) (first second : Entry) : Type 0 where
  pub first_next : IsNextEntry w first
  pub second_next : IsNextEntry (written (write.Entry first) w) second
  pub branch : second.branch ≡ first.branch
  pub teller : second.teller ≡ first.teller
  pub accounts : second.account ≢ first.account
  pub first_partner : first.partner ≡ second.number
  pub second_partner : second.partner ≡ first.number
  pub first_undoes : IsEntryOrNone w.entries first.branch first.undoes
  pub second_undoes : IsEntryOrNone w.entries second.branch second.undoes

-- with both of them, what their branch, their teller and their accounts come to is within the limits; between the two it need not be
pub record HasRoomForLegs (w : WorldLists) (first second : Entry) : Type 0 where
  pub branch : (b : Branch) → branch_row first.branch w.branches ≡ Some b →
      let after = branch_entered second.delta (branch_entered first.delta (branch_record_of w b)) in IsHistoryWithin after.balance after.history after.entries
  pub teller : (t : Teller) → teller_row first.teller w.tellers ≡ Some t → IsCents (teller_entered second.delta (teller_entered first.delta (teller_record_of w t))).balance
  pub source : (a : Account) → account_row first.account w.accounts ≡ Some a → IsAccountWithin (account_entered first.delta (account_record_of w a))
  pub target : (a : Account) → account_row second.account w.accounts ≡ Some a → IsAccountWithin (account_entered second.delta (account_record_of w a))

-- Of two that take from one account what they give the other, the branch has room where its history has, and the teller always.
pub record HasRoomForOppositeLegs (w : WorldLists) (first second : Entry) : Type 0 where
  pub opposite : second.delta ≡ neg_ℤ first.delta
  pub entries : (b : Branch) → branch_row first.branch w.branches ≡ Some b → (branch_record_of w b).entries + 2 ≤ max_key
  pub source : (a : Account) → account_row first.account w.accounts ≡ Some a → IsAccountWithin (account_entered first.delta (account_record_of w a))
  pub target : (a : Account) → account_row second.account w.accounts ≡ Some a → IsAccountWithin (account_entered second.delta (account_record_of w a))

-- ---- an account

-- one account more has the branch as its home
abbrev pub branch_homed : BranchRecord → BranchRecord
branch_homed b = record b { accounts = b.accounts + 1 }

-- an account that is opened moves the count of its home, and no balance and no cash; there is nothing in it
pub record IsMovedByAccount (w : WorldLists) (a : Account) : Type 0 where
  pub branches : (row : Branch) → branch_record_of (written (write.Account a) w) row
      ≡ (if a.home == row.branch then branch_homed (branch_record_of w row) else branch_record_of w row)
  pub accounts : (row : Account) → account_record_of (written (write.Account a) w) row ≡ account_record_of w row
  pub entries : (row : Entry) → entry_record_of (written (write.Account a) w) row ≡ entry_record_of w row
  pub new : account_record_of (written (write.Account a) w) a ≡ record { row = a; balance = pos 0; turns = 0 }
  pub nothing : MovesNothing w (written (write.Account a) w)

-- ---- a cash line

-- what a line adds to one place of its branch, to its vault, to its drawers together, to the cash of its entries and to its differences
abbrev pub to_place : ℕ → CashLine → ℤ
to_place place l = if l.place == place then l.amount else pos 0

abbrev pub to_vault : CashLine → ℤ
to_vault l = to_place 0 l

abbrev pub to_drawers : CashLine → ℤ
to_drawers l = if not (l.place == 0) then l.amount else pos 0

abbrev pub to_cash_entries : CashLine → ℤ
to_cash_entries l = if is_cash_entry l.form then l.amount else pos 0

abbrev pub to_differences : CashLine → ℤ
to_differences l = if is_difference l.form then l.amount else pos 0

-- what a line makes of what the lines of its branch come to
abbrev pub branch_lined : CashLine → BranchRecord → BranchRecord
branch_lined l b = record b {
  vault = b.vault +ℤ to_vault l;
  drawers = b.drawers +ℤ to_drawers l;
  cash_entries = b.cash_entries +ℤ to_cash_entries l;
  differences = b.differences +ℤ to_differences l;
  lines = b.lines + 1;
}

-- It moves the cash of its place by its amount, and no other; no balance; and the gap of its branch by its share.
pub record IsMovedByLine (w : WorldLists) (l : CashLine) : Type 0 where
  pub cash : (branch place : ℕ) → cash_of (written (write.Line l) w) branch place
      ≡ cash_of w branch place +ℤ (if l.branch == branch && l.place == place then l.amount else pos 0)
  pub gap : (branch : ℕ) → cash_gap branch (written (write.Line l) w).lines
      ≡ cash_gap branch w.lines +ℤ (if l.branch == branch then gap_share l else pos 0)
  pub branches : (row : Branch) → branch_record_of (written (write.Line l) w) row
      ≡ (if l.branch == row.branch then branch_lined l (branch_record_of w row) else branch_record_of w row)
  pub branch_balances : (key : ℕ) → branch_balance (written (write.Line l) w) key ≡ branch_balance w key
  pub teller_balances : (key : ℕ) → teller_balance (written (write.Line l) w) key ≡ teller_balance w key
  pub account_balances : (key : ℕ) → account_balance (written (write.Line l) w) key ≡ account_balance w key

-- with it, the cash of its branch and of its place is within the limits
pub record HasRoomForLine (w : WorldLists) (l : CashLine) : Type 0 where
  pub branch : (b : Branch) → branch_row l.branch w.branches ≡ Some b →
      let after = branch_lined l (branch_record_of w b) in IsCashWithin after.vault after.drawers after.cash_entries after.differences after.lines
  pub teller : (t : Teller) → teller_row l.place w.tellers ≡ Some t → t.branch ≡ l.branch → IsCash ((teller_record_of w t).cash +ℤ l.amount)

-- ---- several cash lines of one branch

-- with all of them the cash of the branch is within the limits
abbrev pub HasCashRoom : BranchRecord → List CashLine → Type 0
HasCashRoom b lines =
    IsCashWithin (b.vault +ℤ total (map to_vault lines)) (b.drawers +ℤ total (map to_drawers lines)) (b.cash_entries +ℤ total (map to_cash_entries lines))
    (b.differences +ℤ total (map to_differences lines)) (b.lines + length lines)

-- and so is that of a drawer of it
abbrev pub HasDrawerRoom : WorldLists → ℕ → List CashLine → ℕ → Type 0
HasDrawerRoom w branch lines place = place ≢ 0 → (t : Teller) → teller_row place w.tellers ≡ Some t → t.branch ≡ branch →
    IsCash ((teller_record_of w t).cash +ℤ total (map (to_place place) lines))

-- there is room at the branch and at each drawer that they name; between two of them the cash need not be within the limits
pub record HasRoomForLines (w : WorldLists) (branch : ℕ) (lines : List CashLine) : Type 0 where
  pub cash : (b : Branch) → branch_row branch w.branches ≡ Some b → HasCashRoom (branch_record_of w b) lines
  pub drawers : AllByRecursion (λ l. HasDrawerRoom w branch lines l.place) lines

-- ---- the proof of a day

-- the World where the present day of a branch is proved, and the branch is on its next day
abbrev pub with_proof : Proof → WorldLists → WorldLists
with_proof p w = written (write.Day (record { branch = p.branch; day = p.day + 1 })) (written (write.Proof p) w)

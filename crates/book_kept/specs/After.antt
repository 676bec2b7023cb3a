-- That rows bear the numbers that a change gives them, whatever the World is of which the old ones were kept.
use Rattle.std.specs.Prelude.{ℕ, ◌≡◌, [], ◌∷◌}
use Rattle.bank_books.specs.WorldLists.{WorldLists}
use Rattle.bank_books.specs.declared.records.AccountRecord.{AccountRecord}
use Rattle.bank_books.specs.declared.records.BranchRecord.{BranchRecord}
use Rattle.bank_books.specs.declared.row_write.RowWrite.TheVariants as write
use Rattle.bank_books.specs.declared.rows.Account.{Account}
use Rattle.bank_books.specs.declared.rows.CashLine.{CashLine}
use Rattle.bank_books.specs.declared.rows.Entry.{Entry}
use Rattle.bank_books.specs.declared.rows.Release.{Release}
use Rattle.book_laws.specs.Moves.{account_entered, branch_entered, branch_lined}
use Rattle.book_kept.specs.Changes.{account_sheets, drawer_sheets, entry_sheets, legs_sheets, posting_sheets, release_sheets, vault_sheets}
use Rattle.book_kept.specs.Keepable.{IsKeepable}
use Rattle.book_kept.specs.Kept.{AreKept, IsKept}
use Rattle.book_kept.specs.Named.{AreLegs, AreOfEntry, AreOfLegs, AreOfLine, HasReleases, IsBranchRow, IsFree}
use Rattle.book_kept.specs.Records.{entry_left, kept_teller_entered, kept_teller_lined}
use Rattle.book_kept.specs.Sheets.{account_no, sheets_of}
use Rattle.book_kept.specs.declared.account.AccountRows.{AccountRows}
use Rattle.book_kept.specs.declared.entry.EntryRows.{EntryRows}
use Rattle.book_kept.specs.declared.legs.LegRows.{LegRows}
use Rattle.book_kept.specs.declared.lines.LineRows.{LineRows}
use Rattle.book_kept.specs.declared.records.KeptTeller.{KeptTeller}

-- ---- the numbers that an entry and a line add to

-- those of the account, the teller and the branch, and the balance that the entry leaves its account with
pub record AreEntered (e : Entry) (a : AccountRecord) (t : KeptTeller) (b : BranchRecord) (rows : EntryRows) : Type 0 where
  pub account : rows.account ≡ account_entered e.delta a
  pub teller : rows.teller ≡ kept_teller_entered e.delta t
  pub branch : rows.branch ≡ branch_entered e.delta b
  pub entry : rows.entry ≡ entry_left e rows.account

-- those of the teller and the branch
pub record AreLined (l : CashLine) (t : KeptTeller) (b : BranchRecord) (rows : LineRows) : Type 0 where
  pub teller : rows.teller ≡ kept_teller_lined l t
  pub branch : rows.branch ≡ branch_lined l b

-- ---- with them the World stays kept

-- the account, the teller and the branch that the entry names, and the entry
abbrev pub AreAfterEntry : Entry → AccountRecord → KeptTeller → BranchRecord → EntryRows → Type 0
AreAfterEntry e a t b rows = (w : WorldLists) → IsKeepable w → AreOfEntry (sheets_of w) e a t b → IsKept w (write.Entry e) (entry_sheets rows)

-- the teller and the branch of a line at a drawer
abbrev pub AreAfterLine : CashLine → KeptTeller → BranchRecord → LineRows → Type 0
AreAfterLine l t b rows = (w : WorldLists) → IsKeepable w → AreOfLine (sheets_of w) l t b → IsKept w (write.Line l) (drawer_sheets l rows)

-- the account, the teller and the branch that an entry and its cash line name, and the entry
abbrev pub AreAfterPosting : Entry → CashLine → AccountRecord → KeptTeller → BranchRecord → EntryRows → Type 0
AreAfterPosting e l a t b rows = (w : WorldLists) → IsKeepable w → AreOfEntry (sheets_of w) e a t b → AreKept w (write.Entry e ∷ write.Line l ∷ []) (posting_sheets l rows)

-- the accounts of two entries of one teller and one branch, the teller, the branch and the entries
abbrev pub AreAfterLegs : Entry → Entry → AccountRecord → AccountRecord → KeptTeller → BranchRecord → LegRows → Type 0
AreAfterLegs e f source target t b rows =
    (w : WorldLists) → IsKeepable w → AreLegs e f → AreOfLegs (sheets_of w) e f source target t b → AreKept w (write.Entry e ∷ write.Entry f ∷ []) (legs_sheets rows)

-- the branch of a line at the vault
abbrev pub IsAfterVaultLine : CashLine → BranchRecord → BranchRecord → Type 0
IsAfterVaultLine l b after = (w : WorldLists) → IsKeepable w → IsBranchRow (sheets_of w) l.branch b → IsKept w (write.Line l) (vault_sheets l after)

-- the home of an account that is not there yet, and the account
abbrev pub AreAfterAccount : Account → BranchRecord → AccountRows → Type 0
AreAfterAccount a home rows =
    (w : WorldLists) → IsKeepable w → IsBranchRow (sheets_of w) a.home home → IsFree account_no (sheets_of w).accounts a.account → IsKept w (write.Account a) (account_sheets rows)

-- the number of releases of the user who is given one
abbrev pub IsAfterRelease : Release → ℕ → ℕ → Type 0
IsAfterRelease r releases after = (w : WorldLists) → IsKeepable w → HasReleases (sheets_of w) r.user releases → IsKept w (write.Release r) (release_sheets r after)

-- The rows that a change names, as tables answer them by key.
use Rattle.std.specs.Prelude.{ℕ, ◌≡◌, ◌≢◌, ◌==◌, List, Contains, Some}
use Rattle.std.specs.List.{find}
use Rattle.bank_books.specs.declared.records.AccountRecord.{AccountRecord}
use Rattle.bank_books.specs.declared.records.BranchRecord.{BranchRecord}
use Rattle.bank_books.specs.declared.rows.CashLine.{CashLine}
use Rattle.bank_books.specs.declared.rows.Entry.{Entry}
use Rattle.book_kept.specs.Sheets.{Sheets, account_no, branch_no, teller_no, user_no, slip_no}
use Rattle.book_kept.specs.declared.records.KeptTeller.{KeptTeller}
use Rattle.book_kept.specs.declared.records.KeptUser.{KeptUser}
use Rattle.book_kept.specs.declared.records.SlipCount.{SlipCount}

-- this is the row of that key
abbrev pub IsBranchRow : Sheets → ℕ → BranchRecord → Type 0
IsBranchRow s key b = find (λ r. branch_no r == key) s.branches ≡ Some b

abbrev pub IsTellerRow : Sheets → ℕ → KeptTeller → Type 0
IsTellerRow s key t = find (λ r. teller_no r == key) s.tellers ≡ Some t

abbrev pub IsAccountRow : Sheets → ℕ → AccountRecord → Type 0
IsAccountRow s key a = find (λ r. account_no r == key) s.accounts ≡ Some a

abbrev pub IsUserRow : Sheets → ℕ → KeptUser → Type 0
IsUserRow s key u = find (λ r. user_no r == key) s.users ≡ Some u

-- no row has that key
abbrev pub IsFree : {X : Type 0} → (X → ℕ) → List X → ℕ → Type 0
IsFree {X} key rows k = (row : X) → Contains rows row → key row ≢ k

-- the account, the teller and the branch of an entry
pub record AreOfEntry (s : Sheets) (e : Entry) (a : AccountRecord) (t : KeptTeller) (b : BranchRecord) : Type 0 where
  pub account : IsAccountRow s e.account a
  pub teller : IsTellerRow s e.teller t
  pub branch : IsBranchRow s e.branch b

-- two entries of one teller and one branch that move two accounts
pub record AreLegs (e f : Entry) : Type 0 where
  pub teller : f.teller ≡ e.teller
  pub branch : f.branch ≡ e.branch
  pub account : f.account ≢ e.account

-- the accounts of two such entries, and the teller and the branch of both
pub record AreOfLegs (s : Sheets) (e f : Entry) (source target : AccountRecord) (t : KeptTeller) (b : BranchRecord) : Type 0 where
  pub first : AreOfEntry s e source t b
  pub second : IsAccountRow s f.account target

-- the teller and the branch of a line at a drawer
pub record AreOfLine (s : Sheets) (l : CashLine) (t : KeptTeller) (b : BranchRecord) : Type 0 where
  pub teller : IsTellerRow s l.place t
  pub branch : IsBranchRow s l.branch b

-- n releases are kept of that user
pub record HasReleases (s : Sheets) (user releases : ℕ) : Type 0 where
  pub row : KeptUser
  pub found : IsUserRow s user row
  pub count : row.releases ≡ releases

-- n slips are kept of that user
pub record HasSlips (s : Sheets) (user slips : ℕ) : Type 0 where
  pub row : SlipCount
  pub found : find (λ c. slip_no c == user) s.slip_counts ≡ Some row
  pub count : row.slips ≡ slips

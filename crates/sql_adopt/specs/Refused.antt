-- What the refusal of a file says of the file.
use Rattle.std.specs.Prelude.{ℕ, ℤ, pos, ◌≡◌, ◌≢◌, [], ◌∷◌, IfErr, IsErrAnd, Ok, Err, Result, ⊤}
use Rattle.sqlite.specs.Effect.{Database}
use Rattle.sqlite.specs.State.{HasCleanDisk, State}
use Rattle.sqlite.specs.Tree.{Trees}
use Rattle.bank_policy.specs.Policy.{PolicyLists}
use Rattle.bank_books.specs.Books.{Books as BooksHold}
use Rattle.bank_books.specs.Records.{KeptLists}
use Rattle.bank_books.specs.WorldLists.{WorldLists}
use Rattle.book_check.specs.Verdict.{IsVerdict}
use Rattle.book_check.specs.declared.check.BooksFault.{BooksFault}
use Rattle.book_check.specs.declared.check.BooksFault.TheVariants.{Range}
use Rattle.sql_schema.specs.Cells.{edition_number}
use Rattle.sql_schema.specs.Held.{HoldsWorldIn, Sheet}
use Rattle.sql_schema.specs.Readable.{AreReadable}
use Rattle.sql_schema.specs.Schema.{newest}
use Rattle.sql_schema.specs.declared.edition.Edition.{Edition}
use Rattle.book_kept.specs.Keepable.{IsPolicyKeepable}
use Rattle.book_kept.specs.Sheets.{Sheets, sheets_of}
use Rattle.policy_check.specs.PolicyVerdict.{IsPolicyVerdict}
use Rattle.policy_check.specs.declared.policy_fault.PolicyFault.{PolicyFault}
use Rattle.policy_check.specs.declared.policy_fault.PolicyFault.TheVariants.{Dangling}
use Rattle.sql_whole.specs.BankRow.{bank_row_cells}
use Rattle.sql_whole.specs.Whole.{HasBankTables}
use Rattle.sql_whole.specs.declared.bank.BankRow.{BankRow}
use Rattle.sql_whole.specs.declared.fault.ReadFault.{ReadFault}
use Rattle.sql_whole.specs.declared.fault.ReadFault.TheVariants.{Missing}
use Rattle.sql_adopt.specs.Adopted.{IsBankNumber, IsBankRow}
use Rattle.sql_adopt.specs.declared.adopt_fault.AdoptFault.{AdoptFault}
use Rattle.sql_adopt.specs.ReadBack.{AreBooksJudged, IsPolicyIn}
use Rattle.sql_adopt.specs.Unread.{HasUnread, IsBesideBooks}
use Rattle.sql_adopt.specs.declared.adopt_fault.AdoptFault.TheVariants.{Books, Fault, NotABank, Policy, Version}

-- A fault of the books is reported where the row of the bank is of this schema version. It is `Range` where the version
-- of the policy in that row is no count, or a row of the books or of the users can't be read.
pub record TellsOfBooks (e : Edition) (db : Trees) (fault : BooksFault) : Type 0 where
  pub policy : ℤ
  pub row : IsBankNumber e db policy
  pub range : ((version : ℕ) → policy ≢ pos version) → fault ≡ Range
  pub unread : (t : Sheet) → IsBesideBooks t → HasUnread e db t → fault ≡ Range

-- and one of the policy where that version is a count. It is `Dangling` where any row can't be read.
pub record TellsOfPolicy (e : Edition) (db : Trees) (fault : PolicyFault) : Type 0 where
  pub version : ℕ
  pub row : IsBankRow e db version
  pub unread : (t : Sheet) → HasUnread e db t → fault ≡ Dangling

-- It is no bank where its table does not have the one row of a bank, it is of another version where that row says so,
-- and no other fault but one of the database is reported before these.
abbrev pub IsRefusedIn : Edition → Trees → AdoptFault → Type 0
IsRefusedIn e db NotABank = (b : BankRow) → b.id ≡ pos 1 → db 0 ≢ bank_row_cells b ∷ []
IsRefusedIn e db Version = (b : BankRow) × (b.id ≡ pos 1) × (b.version ≢ pos (edition_number e)) × (db 0 ≡ bank_row_cells b ∷ [])
IsRefusedIn e db (Books fault) = TellsOfBooks e db fault
IsRefusedIn e db (Policy fault) = TellsOfPolicy e db fault
IsRefusedIn e db (Fault _) = ⊤

abbrev pub IsRefused : Trees → AdoptFault → Type 0
IsRefused = IsRefusedIn newest

-- the books are out of range
abbrev pub IsOutOfRange : AdoptFault → Type 0
IsOutOfRange fault = fault ≡ Books Range

-- the fault says nothing of the row of the bank
abbrev pub IsBeyondBankRow : AdoptFault → Type 0
IsBeyondBankRow NotABank = ⊥
IsBeyondBankRow Version = ⊥
IsBeyondBankRow _ = ⊤

-- it says nothing of the row of the bank, and of other rows that they are out of range, or dangle
abbrev pub IsOfUnread : AdoptFault → Type 0
IsOfUnread NotABank = ⊥
IsOfUnread Version = ⊥
IsOfUnread (Books fault) = fault ≡ Range
IsOfUnread (Policy fault) = fault ≡ Dangling
IsOfUnread (Fault _) = ⊤

-- the same, where the rows of the books were read
abbrev pub IsOfBooksRead : AdoptFault → Type 0
IsOfBooksRead (Books _) = ⊤
IsOfBooksRead fault = IsOfUnread fault

-- the database failed, or memory or a limit on size kept it from the whole
abbrev pub IsOfStore : AdoptFault → Type 0
IsOfStore (Fault _) = ⊤
IsOfStore _ = ⊥

-- the table is not there
abbrev pub IsMissing : ReadFault → Type 0
IsMissing (Missing table) = ⊤
IsMissing _ = ⊥

-- the tables are those of another version, or the database failed
abbrev pub IsOfOther : AdoptFault → Type 0
IsOfOther Version = ⊤
IsOfOther (Fault _) = ⊤
IsOfOther _ = ⊥

-- Of tables whose row says that they are of another schema version this is reported.
abbrev pub TellsOther : {X : Type 0} → Edition → State → State → Result X AdoptFault → Type 0
TellsOther edition old new result = HasCleanDisk new → (e : Edition) → HasBankTables e old → (version : ℕ) → IsBankRow e old.now.trees version → edition_number e ≢ edition_number edition → IsErrAnd result IsOfOther

-- what a read inside a transaction reports where it is refused
abbrev pub RefusesFor : {X : Type 0} → Edition → State → State → Result X AdoptFault → Type 0
RefusesFor e old new result = HasCleanDisk new → HasBankTables e old → IfErr result (IsRefusedIn e old.now.trees)

-- ---- a sound bank

-- The tables hold a bank whose books hold and whose policy is sound and separated, each row of which is of the types that it is read as.
pub record HoldsSoundBankIn (e : Edition) (db : Database) : Type 0 where
  pub world : WorldLists
  pub held : HoldsWorldIn e db world
  pub readable : AreReadable (sheets_of world)
  pub books : BooksHold world
  pub policy : IsPolicyVerdict world.policy (Ok tt)

abbrev pub HoldsSoundBank : Database → Type 0
HoldsSoundBank = HoldsSoundBankIn newest

-- ---- which fault is named

-- of the books of this World, with these numbers beside its rows
abbrev pub IsOfBooks : WorldLists → KeptLists → AdoptFault → Type 0
IsOfBooks w kept (Books fault) = IsVerdict w kept (Err fault)
IsOfBooks w kept (Fault _) = ⊤
IsOfBooks w kept _ = ⊥

-- of this policy
abbrev pub IsOfPolicy : PolicyLists → AdoptFault → Type 0
IsOfPolicy policy (Policy fault) = IsPolicyVerdict policy (Err fault)
IsOfPolicy policy _ = ⊥

-- Of rows among which there is no policy: a fault of the books is reported before that.
abbrev pub IsOfNoPolicy : Sheets → AdoptFault → Type 0
IsOfNoPolicy s (Books fault) = AreBooksJudged s (Err fault)
IsOfNoPolicy s (Policy fault) = AreBooksJudged s (Ok tt) × (fault ≡ Dangling)
IsOfNoPolicy s (Fault _) = ⊤
IsOfNoPolicy s _ = ⊥

-- The books of these rows hold, and it is the first fault of their policy, or that it dangles where they have none.
pub record IsOfPolicyIn (s : Sheets) (fault : PolicyFault) : Type 0 where
  pub books : AreBooksJudged s (Ok tt)
  pub stated : (policy : PolicyLists) → IsPolicyIn s policy → IsPolicyKeepable policy → IsPolicyVerdict policy (Err fault)
  pub untold : ((policy : PolicyLists) → IsPolicyIn s policy → ⊥) → fault ≡ Dangling

-- Of rows that were read: the first fault of the books, or where these hold the first of the policy. A fault of the database may come at any
-- point.
abbrev pub IsNamedBy : Sheets → AdoptFault → Type 0
IsNamedBy s (Books fault) = AreBooksJudged s (Err fault)
IsNamedBy s (Policy fault) = IsOfPolicyIn s fault
IsNamedBy s (Fault _) = ⊤
IsNamedBy s _ = ⊥

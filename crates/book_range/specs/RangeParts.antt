-- What is asked of a bank's books, in the parts in which it is judged.
use Rattle.std.specs.Prelude.{◌≤◌, List, Contains}
use Rattle.bank_terms.specs.Limits.{max_key, max_moment, max_releases, max_version}
use Rattle.bank_policy.specs.declared.rows.User.{User}
use Rattle.money.specs.Range.{IsCents}
use Rattle.row_members.specs.Ranges.{IsKey, IsKeyOrZero, IsWithin}
use Rattle.bank_books.specs.declared.records.AccountRecord.{AccountRecord}
use Rattle.bank_books.specs.declared.records.BranchRecord.{BranchRecord}
use Rattle.bank_books.specs.declared.records.EntryRecord.{EntryRecord}
use Rattle.bank_books.specs.declared.records.TellerRecord.{TellerRecord}
use Rattle.bank_books.specs.declared.rows.Branch.{Branch}
use Rattle.bank_books.specs.declared.rows.CashLine.{CashLine}
use Rattle.bank_books.specs.declared.rows.Entry.{Entry}
use Rattle.bank_books.specs.declared.rows.Proof.{Proof}
use Rattle.bank_books.specs.declared.rows.Release.{Release}
use Rattle.bank_books.specs.Numbering.{AreNumbered}
use Rattle.bank_books.specs.Range.{HoldsReleasable, IsAccountInRange, IsBranch, IsBranchInRange, IsDay, IsEntryInRange, IsEntryOrNone, IsLineInRange, IsProofInRange, AreSlipsInRange, IsReleaseInRange, IsTellerInRange, IsUser}
use Rattle.bank_books.specs.Records.{KeptLists}
use Rattle.bank_books.specs.WorldLists.{WorldLists}

-- the numbers of an entry are within their limits, and its user and the entries that it names are there
pub record IsEntryLimited (entries : List Entry) (users : List User) (e : EntryRecord) : Type 0 where
  pub number : IsKey e.row.number
  pub turn : IsKey e.row.turn
  pub moment : e.row.moment ≤ max_moment
  pub day : IsDay e.row.day
  pub user : IsUser users e.row.user
  pub partner : IsKeyOrZero e.row.partner
  pub partner_there : IsEntryOrNone entries e.row.branch e.row.partner
  pub undoes : IsKeyOrZero e.row.undoes
  pub undone_there : IsEntryOrNone entries e.row.branch e.row.undoes
  pub balance_after : IsCents e.balance_after

-- and those of a line, and its user
pub record IsLineLimited (users : List User) (l : CashLine) : Type 0 where
  pub number : IsKey l.number
  pub moment : l.moment ≤ max_moment
  pub day : IsDay l.day
  pub user : IsUser users l.user

-- what is asked of a release beside the others of its user
pub record IsReleaseAlone (branches : List Branch) (users : List User) (r : Release) : Type 0 where
  pub user : IsUser users r.user
  pub number : IsWithin 1 max_releases r.number
  pub giver : IsUser users r.giver
  pub branch : IsBranch branches r.branch
  pub day : IsDay r.day
  pub operation : HoldsReleasable r

-- of all of them
pub record AreReleasesAlone (w : WorldLists) : Type 0 where
  pub each : (r : Release) → Contains w.releases r → IsReleaseAlone w.branches w.policy.users r

-- the releases of each user bear the numbers 1, 2, 3 and so on
abbrev pub AreReleasesNumbered : WorldLists → Type 0
AreReleasesNumbered w = (r : Release) → Contains w.releases r → AreNumbered (λ o. o.user) (λ o. o.number) w.releases r.user

-- of the places where money is: branches and tellers
pub record ArePlacesInRange (w : WorldLists) (kept : KeptLists) : Type 0 where
  pub branches : (b : BranchRecord) → Contains kept.branches b → IsBranchInRange w.accounts w.proofs b
  pub tellers : (t : TellerRecord) → Contains kept.tellers t → IsTellerInRange w.branches t

-- of accounts, and the entries that name them
pub record AreLedgersInRange (w : WorldLists) (kept : KeptLists) : Type 0 where
  pub accounts : (a : AccountRecord) → Contains kept.accounts a → IsAccountInRange w.branches a
  pub entries : (e : EntryRecord) → Contains kept.entries e → IsEntryInRange w.branches w.tellers w.accounts w.entries w.policy.users e

-- of the lines and proofs of branches
pub record AreCashBooksInRange (w : WorldLists) : Type 0 where
  pub lines : (l : CashLine) → Contains w.lines l → IsLineInRange w.branches w.tellers w.policy.users l
  pub proofs : (p : Proof) → Contains w.proofs p → IsProofInRange w.branches p

-- of users, and the releases that they were given
pub record AreUsersInRange (w : WorldLists) : Type 0 where
  pub releases : (r : Release) → Contains w.releases r → IsReleaseInRange w.branches w.releases w.policy.users r
  pub users : (u : User) → Contains w.policy.users u → u.session ≤ max_key

-- of all rows, and of the version of the policy
pub record AreAllInRange (w : WorldLists) (kept : KeptLists) : Type 0 where
  pub places : ArePlacesInRange w kept
  pub ledgers : AreLedgersInRange w kept
  pub cash_books : AreCashBooksInRange w
  pub users : AreUsersInRange w
  pub slips : AreSlipsInRange w.slips w.policy.users
  pub version : w.version ≤ max_version

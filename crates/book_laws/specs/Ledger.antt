-- What holds of a bank's rows in the middle of an operation, too, and what is judged once, when all of it was carried out.
use Rattle.std.specs.Prelude.{ℕ, ℤ, pos, ◌≡◌, ◌+◌, ◌+ℤ◌, ◌≤◌, ◌≤ℤ◌, ◌⊎◌, ◌==◌, List, map, Contains, count_by, IfSome, if◌then◌else◌}
use Rattle.bank_terms.specs.Limits.{max_key, max_moment, max_version}
use Rattle.keyed_rows.specs.Ordered.{AreDistinct}
use Rattle.keyed_rows.specs.Totals.{total}
use Rattle.bank_policy.specs.declared.rows.User.{User}
use Rattle.row_members.specs.Ranges.{IsCash, IsFloor, IsKey, IsKeyOrZero}
use Rattle.bank_books.specs.Balances.{account_deltas, branch_deltas, teller_deltas}
use Rattle.bank_books.specs.Cash.{holder_of}
use Rattle.bank_books.specs.Conditions.{IsCashBalanced}
use Rattle.bank_books.specs.Keys.{account_key, branch_key, teller_key}
use Rattle.bank_books.specs.Numbering.{AreNumbered}
use Rattle.bank_books.specs.Range.{AreSlipsInRange, IsAccount, IsBranch, IsDay, IsEntryOrNone, IsProofInRange, IsReleaseInRange, IsTellerOf, IsUser, IsUserNumber}
use Rattle.bank_books.specs.WorldLists.{WorldLists}
use Rattle.bank_books.specs.declared.rows.Account.{Account}
use Rattle.bank_books.specs.declared.rows.Branch.{Branch}
use Rattle.bank_books.specs.declared.rows.CashLine.{CashLine}
use Rattle.bank_books.specs.declared.rows.Entry.{Entry}
use Rattle.bank_books.specs.declared.rows.Proof.{Proof}
use Rattle.bank_books.specs.declared.rows.Release.{Release}
use Rattle.bank_books.specs.declared.rows.Teller.{Teller}

-- ---- what a row holds and names, whatever was added to it

pub record IsBranchSound (proofs : List Proof) (b : Branch) : Type 0 where
  pub key : IsKey b.branch
  pub day : IsDay b.day
  pub opening_cash : IsCash b.cash
  pub days : AreNumbered (λ p. p.branch) (λ p. p.day) proofs b.branch
  pub last_day : count_by (λ p. p.branch == b.branch) proofs + 1 ≡ b.day

pub record IsTellerSound (branches : List Branch) (lines : List CashLine) (t : Teller) : Type 0 where
  pub key : IsKey t.teller
  pub branch : IsBranch branches t.branch
  pub holder : IfSome (holder_of lines t.teller) IsUserNumber

pub record IsAccountSound (branches : List Branch) (a : Account) : Type 0 where
  pub key : IsKey a.account
  pub home : IsBranch branches a.home
  pub floor : IsFloor a.floor
  pub opening : a.floor ≤ℤ a.opening

pub record IsEntrySound (branches : List Branch) (tellers : List Teller) (accounts : List Account) (users : List User) (e : Entry) : Type 0 where
  pub branch : IsBranch branches e.branch
  pub account : IsAccount accounts e.account
  pub teller : IsTellerOf tellers e.branch e.teller
  pub moment : e.moment ≤ max_moment
  pub day : IsDay e.day
  pub user : IsUser users e.user
  pub partner : IsKeyOrZero e.partner
  pub undoes : IsKeyOrZero e.undoes

pub record IsLineSound (branches : List Branch) (tellers : List Teller) (users : List User) (l : CashLine) : Type 0 where
  pub branch : IsBranch branches l.branch
  pub place : (l.place ≡ 0) ⊎ IsTellerOf tellers l.branch l.place
  pub moment : l.moment ≤ max_moment
  pub day : IsDay l.day
  pub user : IsUser users l.user

-- ---- the tables

pub record AreBranchesSound (branches : List Branch) (proofs : List Proof) : Type 0 where
  pub keys : AreDistinct (map branch_key branches)
  pub each : (b : Branch) → Contains branches b → IsBranchSound proofs b

pub record AreTellersSound (branches : List Branch) (tellers : List Teller) (lines : List CashLine) : Type 0 where
  pub keys : AreDistinct (map teller_key tellers)
  pub each : (t : Teller) → Contains tellers t → IsTellerSound branches lines t

pub record AreAccountsSound (branches : List Branch) (accounts : List Account) : Type 0 where
  pub keys : AreDistinct (map account_key accounts)
  pub each : (a : Account) → Contains accounts a → IsAccountSound branches a

-- numbered by branch and, as turns, by account
pub record AreEntriesSound (branches : List Branch) (tellers : List Teller) (accounts : List Account) (users : List User) (entries : List Entry) : Type 0 where
  pub each : (e : Entry) → Contains entries e → IsEntrySound branches tellers accounts users e
  pub numbers : (branch : ℕ) → AreNumbered (λ e. e.branch) (λ e. e.number) entries branch
  pub turns : (account : ℕ) → AreNumbered (λ e. e.account) (λ e. e.turn) entries account

pub record AreLinesSound (branches : List Branch) (tellers : List Teller) (users : List User) (lines : List CashLine) : Type 0 where
  pub each : (l : CashLine) → Contains lines l → IsLineSound branches tellers users l
  pub numbers : (branch : ℕ) → AreNumbered (λ l. l.branch) (λ l. l.number) lines branch

-- ---- the sums

-- the balance of a row, by these entries
abbrev pub account_sum : List Entry → Account → ℤ
account_sum entries a = a.opening +ℤ account_deltas a.account entries

abbrev pub teller_sum : List Entry → Teller → ℤ
teller_sum entries t = t.opening +ℤ teller_deltas t.teller entries

abbrev pub branch_sum : List Entry → Branch → ℤ
branch_sum entries b = b.opening +ℤ branch_deltas b.branch entries

-- TPC Benchmark A's first two conditions, over the rows alone
pub record AreSumsEqual (branches : List Branch) (tellers : List Teller) (accounts : List Account) (entries : List Entry) : Type 0 where
  pub of_tellers : total (map (teller_sum entries) tellers) ≡ total (map (account_sum entries) accounts)
  pub of_branches : total (map (branch_sum entries) branches) ≡ total (map (account_sum entries) accounts)
  pub of_each_branch : (b : Branch) → Contains branches b →
      branch_sum entries b ≡ total (map (λ t. if t.branch == b.branch then teller_sum entries t else pos 0) tellers)

-- ---- the ledger

-- What holds between any two changes of an operation: no key of a branch, a teller or an account stands twice, rows hold and name
-- what they may, entries, lines, proofs and releases are numbered, and the sums of accounts, tellers and branches are equal. Three
-- conditions of the books are not in it, since a single change of an operation may break them: the limits of what rows come to; that
-- an entry that is named is there, for the first leg of a transfer names a partner that is still to come; and that cash balances,
-- for cash that is moved leaves one place before it comes to the other.
pub record IsOpenLedger (w : WorldLists) : Type 0 where
  pub branches : AreBranchesSound w.branches w.proofs
  pub tellers : AreTellersSound w.branches w.tellers w.lines
  pub accounts : AreAccountsSound w.branches w.accounts
  pub entries : AreEntriesSound w.branches w.tellers w.accounts w.policy.users w.entries
  pub lines : AreLinesSound w.branches w.tellers w.policy.users w.lines
  pub proofs : (p : Proof) → Contains w.proofs p → IsProofInRange w.branches p
  pub releases : (r : Release) → Contains w.releases r → IsReleaseInRange w.branches w.releases w.policy.users r
  pub slips : AreSlipsInRange w.slips w.policy.users
  pub users : (u : User) → Contains w.policy.users u → u.session ≤ max_key
  pub version : w.version ≤ max_version
  pub sums : AreSumsEqual w.branches w.tellers w.accounts w.entries

-- the entries that one names are there
pub record NamesEntries (entries : List Entry) (e : Entry) : Type 0 where
  pub partner : IsEntryOrNone entries e.branch e.partner
  pub undoes : IsEntryOrNone entries e.branch e.undoes

-- The books without their limits: what is judged when a whole operation was carried out stands beside the rest.
pub record IsLedger (w : WorldLists) : Type 0 where
  pub rows : IsOpenLedger w
  pub named : (e : Entry) → Contains w.entries e → NamesEntries w.entries e
  pub balanced : (branch : ℕ) → IsCashBalanced w.branches w.lines branch

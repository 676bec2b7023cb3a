-- What a row has to be to come next.
use Rattle.std.specs.Prelude.{true, pos, ◌≡◌, ◌≢◌, ◌+◌, ◌<◌, ◌≤◌, ⊤, List, [], ◌∷◌, Contains, IfSome}
use Rattle.bank_terms.specs.Limits.{max_releases, max_slips}
use Rattle.bank_terms.specs.Procedure.{takes_slip}
use Rattle.bank_books.specs.Balances.{entry_count, turn_count}
use Rattle.bank_books.specs.Cash.{holder_after, line_count}
use Rattle.bank_books.specs.Effects.{written}
use Rattle.bank_books.specs.Range.{HoldsOperation, HoldsReleasable, IsBranch, IsDay, IsProofInRange, IsUser, IsUserNumber}
use Rattle.bank_books.specs.Records.{release_count, slip_count}
use Rattle.bank_books.specs.Keys.{slip_key}
use Rattle.bank_books.specs.SlipRow.{SlipRow}
use Rattle.bank_books.specs.WorldLists.{WorldLists}
use Rattle.row_members.specs.Ranges.{IsKey}
use Rattle.bank_books.specs.declared.row_write.RowWrite.TheVariants as write
use Rattle.bank_books.specs.declared.rows.Account.{Account}
use Rattle.bank_books.specs.declared.rows.Branch.{Branch}
use Rattle.bank_books.specs.declared.rows.CashLine.{CashLine}
use Rattle.bank_books.specs.declared.rows.Entry.{Entry}
use Rattle.bank_books.specs.declared.rows.Proof.{Proof}
use Rattle.bank_books.specs.declared.rows.Release.{Release}
use Rattle.book_laws.specs.Ledger.{IsAccountSound, IsEntrySound, IsLineSound}

-- An entry holds and names what each entry may, and bears the next number of its branch and the next turn of its account. Nothing is
-- said of the limits, nor of the entries that it names, so this can be asked before each of the two legs of a transfer.
pub record IsNextEntry (w : WorldLists) (e : Entry) : Type 0 where
  pub sound : IsEntrySound w.branches w.tellers w.accounts w.policy.users e
  pub number : e.number ≡ entry_count e.branch w.entries + 1
  pub turn : e.turn ≡ turn_count e.account w.entries + 1

-- an account holds and names what each account may, is not there yet, and opens with nothing
pub record IsNextAccount (w : WorldLists) (a : Account) : Type 0 where
  pub sound : IsAccountSound w.branches a
  pub free : (row : Account) → Contains w.accounts row → row.account ≢ a.account
  pub empty : a.opening ≡ pos 0

-- The proof of the present day of its branch, which is not the last that there can be.
pub record IsNextProof (w : WorldLists) (p : Proof) : Type 0 where
  pub sound : IsProofInRange w.branches p
  pub present : (b : Branch) → Contains w.branches b → b.branch ≡ p.branch → p.day ≡ b.day
  pub next_day : IsDay (p.day + 1)

-- A release bears the next number of its user, and it and the users and the branch that it names are what they may be.
pub record IsNextRelease (w : WorldLists) (r : Release) : Type 0 where
  pub user : IsUser w.policy.users r.user
  pub number : r.number ≡ release_count r.user w.releases + 1
  pub room : r.number ≤ max_releases
  pub giver : IsUser w.policy.users r.giver
  pub branch : IsBranch w.branches r.branch
  pub day : IsDay r.day
  pub operation : HoldsReleasable r

-- A slip's user is there, has room for one more and has none of its number, and it holds an operation that takes slips.
pub record IsNextSlip (w : WorldLists) (s : SlipRow) : Type 0 where
  pub user : IsUser w.policy.users s.user
  pub number : IsKey s.number
  pub form : takes_slip s.operation.form ≡ true
  pub operation : HoldsOperation s
  pub free : (o : SlipRow) → Contains w.slips o → slip_key o ≢ slip_key s
  pub room : slip_count s.user w.slips < max_slips

-- A cash line holds and names what each may, and bears the next number of its branch; who puts a drawer on bears a user's number.
pub record IsNextLine (w : WorldLists) (l : CashLine) : Type 0 where
  pub sound : IsLineSound w.branches w.tellers w.policy.users l
  pub number : l.number ≡ line_count l.branch w.lines + 1
  pub holder : IfSome (holder_after l l.form) IsUserNumber

-- the World with these lines, one after another
abbrev pub lined : List CashLine → WorldLists → WorldLists
lined [] w = w
lined (l ∷ lines) w = lined lines (written (write.Line l) w)

-- each of them may come next, after those before it
abbrev pub AreNextLines : WorldLists → List CashLine → Type 0
AreNextLines w [] = ⊤
AreNextLines w (l ∷ lines) = IsNextLine w l × AreNextLines (written (write.Line l) w) lines

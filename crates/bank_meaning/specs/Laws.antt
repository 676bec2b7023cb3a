-- What holds of every decision: the rule that is named is the first that denies, the tests of the policy ask what Clark
-- and Wilson's rules E1 and E2 ask, a release is valid once, an account that is opened and a release that is given keep
-- the books, and a session changes nothing else.
use Rattle.std.specs.Prelude.{ℕ, ◌≡◌, ◌≢◌, ◌↔◌, ◌⊎◌, ◌==◌, ◌≤◌, ◌<◌, ◌++◌, Bool, true, false, Option, Some, None, List, [], ◌∷◌, map, All, count_by}
use Rattle.std.specs.List.{AllZip}
use Rattle.bank_policy.specs.Execution.{Certified, Held}
use Rattle.bank_policy.specs.HeldRows.{standing}
use Rattle.bank_terms.specs.Limits.{max_slips}
use Rattle.bank_terms.specs.Rule.{number_of}
use Rattle.bank_policy.specs.declared.rows.Standing.{Standing}
use Rattle.bank_policy.specs.declared.rows.User.{User}
use Rattle.bank_terms.specs.declared.procedure.Procedure.TheVariants as procedure
use Rattle.bank_terms.specs.declared.rule.Rule.{Rule}
use Rattle.bank_terms.specs.declared.rule.Rule.TheVariants as rule
use Rattle.bank_books.specs.Balances.{branch_row}
use Rattle.bank_books.specs.Books.{Books}
use Rattle.bank_books.specs.Records.{slip_count}
use Rattle.bank_books.specs.SlipRow.{SlipRow}
use Rattle.bank_books.specs.WorldLists.{WorldLists}
use Rattle.bank_books.specs.declared.rows.Branch.{Branch}
use Rattle.bank_books.specs.declared.rows.Release.{Release}
use Rattle.bank_books.specs.declared.signature.Signature.{Signature}
use Rattle.counter_ops.specs.Op.{procedure_of}
use Rattle.counter_ops.specs.NewAccount.{IsNewAccount}
use Rattle.counter_ops.specs.Release.{IsRelease}
use Rattle.counter_ops.specs.Rows.{row_of}
use Rattle.counter_ops.specs.declared.new_account.NewAccount.{NewAccount}
use Rattle.counter_ops.specs.declared.op.Op.{Op}
use Rattle.counter_ops.specs.declared.release.Release.{Release as Given}
use Rattle.policy_commands.specs.declared.policy_op.PolicyOp.{PolicyOp}
use Rattle.world_reads.specs.BookReads.{release, slip}
use Rattle.rule_tests.specs.Signed.{IsSigned}
use Rattle.counter_ops.specs.Touched.{amount, touched}
use Rattle.bank_meaning.specs.NamedRelease.{release_grounds}
use Rattle.bank_meaning.specs.NewAccount.{first_against_new_account, new_account_effect, opening_rows}
use Rattle.bank_meaning.specs.Release.{first_against_release, release_effect, release_rows}
use Rattle.bank_meaning.specs.PolicyRules.{asker}
use Rattle.bank_meaning.specs.Meaning.{by_books}
use Rattle.bank_meaning.specs.Requests.{commands, denies, effect, ends_session, executes, first, opens_session, rules}
use Rattle.bank_meaning.specs.Executions.{books_meaning, is_of_policy}
use Rattle.bank_meaning.specs.Slips.{is_of_another, slip_grounds, slip_named, taken_by}
use Rattle.bank_meaning.specs.declared.execution.Execution.{Execution}
use Rattle.bank_meaning.specs.declared.request.Request.{Request}
use Rattle.bank_meaning.specs.declared.who.Who.{Who}

-- The rule that is named denies, it stands in the list of rules, and none that stands before it denies; where none is named, none
-- denies.
pub record IsFirstRule (w : WorldLists) (q : Request) : Type 0 where
  pub named : (r : Rule) → first w q ≡ Some r → denies r w q ≡ true
  pub place : (r : Rule) → first w q ≡ Some r → (before : List Rule) × (after : List Rule) × (rules ≡ before ++ r ∷ after) × All (λ earlier. denies earlier w q ≡ false) before
  pub none : first w q ≡ None → (r : Rule) → denies r w q ≡ false

-- each rule has one place
abbrev pub HasOnePlace : Rule → Type 0
HasOnePlace r = count_by (λ other. number_of other == number_of r) rules ≡ 1

-- the places go by the numbers, but that the rule on slips follows the one on identity
abbrev pub numbers : List ℕ
numbers = 1 ∷ 22 ∷ 2 ∷ 3 ∷ 4 ∷ 5 ∷ 6 ∷ 7 ∷ 8 ∷ 9 ∷ 10 ∷ 11 ∷ 12 ∷ 13 ∷ 14 ∷ 15 ∷ 16 ∷ 17 ∷ 18 ∷ 19 ∷ 20 ∷ 21 ∷ []

abbrev pub FirstByPlace : Type 0
FirstByPlace = ((r : Rule) → HasOnePlace r) × (map number_of rules ≡ numbers) × ((w : WorldLists) (q : Request) → IsFirstRule w q)

-- some one triple of the user, valid at the moment, holds all that is touched, up to the amount at least
abbrev pub InLimit : WorldLists → ℕ → Op → ℕ → Type 0
InLimit w user op moment = (limit : ℕ) × (Held w.policy user (procedure_of op) (touched op) limit moment × amount op ≤ limit)

-- who asks is known: a user whom the authenticator names, who is there and not suspended, and whose present session is
-- open and the one that is named
pub record IsIdentified (w : WorldLists) (who : Who) : Type 0 where
  pub user : ℕ
  pub row : Standing
  pub named : who.user ≡ Some user
  pub there : standing w.policy user ≡ Some row
  pub active : row.suspended ≡ false
  pub on : row.on ≡ true
  pub present : row.session ≡ who.session
  pub given : who.session ≢ 0

-- the user who asks to open a session is there and not suspended; no session of theirs is looked at
pub record MayOpen (w : WorldLists) (asked : Option ℕ) : Type 0 where
  pub user : ℕ
  pub row : Standing
  pub named : asked ≡ Some user
  pub there : standing w.policy user ≡ Some row
  pub active : row.suspended ≡ false

-- The rule on identity asks of a command and of the ending of a session whether the user is known, and of an opening
-- whether the user may open one.
pub record IsIdentityJudged (w : WorldLists) : Type 0 where
  pub command : (command : PolicyOp) (who : Who) → (denies rule.Identity w (commands command who) ≡ false ↔ IsIdentified w who)
  pub ending : (who : Who) → (denies rule.Identity w (ends_session who) ≡ false ↔ IsIdentified w who)
  pub opening : (user : Option ℕ) → (denies rule.Identity w (opens_session user) ≡ false ↔ MayOpen w user)

abbrev pub IdentityIsJudged : Type 0
IdentityIsJudged = (w : WorldLists) → IsIdentityJudged w

-- The release of this number of a user is valid for an operation: it is there and unused, names exactly that operation,
-- and bears the present day of its branch; its giver is another user, there and not suspended, and some one triple of
-- the giver's for releases, valid at the moment, holds all that is touched, up to the amount at least.
pub record Released (w : WorldLists) (user number : ℕ) (op : Op) (moment : ℕ) : Type 0 where
  pub row : Release
  pub there : release w user number ≡ Some row
  pub unused : row.used ≡ false
  pub operation : row.operation ≡ row_of op
  pub branch : Branch
  pub branch_there : branch_row row.branch w.branches ≡ Some branch
  pub today : row.day ≡ branch.day
  pub other : row.giver ≢ user
  pub giver : Standing
  pub giver_there : standing w.policy row.giver ≡ Some giver
  pub active : giver.suspended ≡ false
  pub limit : ℕ
  pub held : Held w.policy row.giver procedure.Release (touched op) limit moment
  pub enough : amount op ≤ limit

-- a release is named, and is valid for what is asked for
pub record IsReleased (w : WorldLists) (x : Execution) : Type 0 where
  pub named : x.who.release ≢ 0
  pub counts : Released w (asker x.who) x.who.release x.op x.moment

-- What it is that a rule of the policy does not deny, in the terms of the model. Where no triple of the user's own
-- reaches the amount, the rule on limits denies if no release is named, and the rule on releases may if one is.
pub record IsPolicyJudged (w : WorldLists) (x : Execution) : Type 0 where
  pub identified : denies rule.Identity w (executes x) ≡ false ↔ IsIdentified w x.who
  pub certified : denies rule.NotCertified w (executes x) ≡ false ↔ Certified w.policy (procedure_of x.op) (touched x.op)
  pub held : denies rule.NoTriple w (executes x) ≡ false ↔ ((limit : ℕ) × Held w.policy (asker x.who) (procedure_of x.op) (touched x.op) limit x.moment)
  pub in_limit : denies rule.Limit w (executes x) ≡ false ↔ (InLimit w (asker x.who) x.op x.moment ⊎ (x.who.release ≢ 0))
  pub released : denies rule.Release w (executes x) ≡ false ↔ (InLimit w (asker x.who) x.op x.moment ⊎ ((x.who.release ≡ 0) ⊎ Released w (asker x.who) x.who.release x.op x.moment))

abbrev pub PolicyIsJudged : Type 0
PolicyIsJudged = (w : WorldLists) (x : Execution) → IsPolicyJudged w x

-- the rule stands in front of those of the books: it is one of the policy's, or the one on slips
abbrev pub is_before_books : Rule → Bool
is_before_books rule.Slip = true
is_before_books r = is_of_policy r

-- What such a rule judges an operation by is the same in both Worlds: the policy; where it is the rule on releases, the
-- release that is named, with the present day of its branch; and, for all but the rule on identity, which comes before
-- that on slips, whether the slip that is named was taken with another operation.
pub record IsJudgedAlike (r : Rule) (w v : WorldLists) (x : Execution) : Type 0 where
  pub policy : v.policy ≡ w.policy
  pub release : r ≡ rule.Release → release_grounds v (asker x.who) x.who.release x.moment ≡ release_grounds w (asker x.who) x.who.release x.moment
  pub slip : r ≢ rule.Identity → is_of_another (slip_grounds v x) ≡ is_of_another (slip_grounds w x)

-- Where such a rule is the first in one World, it is the first in each one in which it judges by the same, be the books what they are. So who may not touch an item does
-- not learn whether it is there.
abbrev pub DeniedBeforeTheBooks : Type 0
DeniedBeforeTheBooks = (w v : WorldLists) (x : Execution) (r : Rule) → is_before_books r ≡ true → IsJudgedAlike r w v x → first w (executes x) ≡ Some r → first v (executes x) ≡ Some r

-- some one triple of the user's holds all that is touched: up to the amount at least, or the release named is valid
abbrev pub InLimitOrReleased : WorldLists → Execution → Type 0
InLimitOrReleased w x =
    InLimit w (asker x.who) x.op x.moment ⊎ (((limit : ℕ) × Held w.policy (asker x.who) (procedure_of x.op) (touched x.op) limit x.moment) × IsReleased w x)

-- the user who asks has no slip of the number that is named, and fewer than 100,000
pub record HasRoomForSlip (w : WorldLists) (x : Execution) : Type 0 where
  pub free : slip w (asker x.who) (slip_named x) ≡ None
  pub room : slip_count (asker x.who) w.slips < max_slips

-- the user has the slip of that number, with this very operation
pub record HasItsSlip (w : WorldLists) (x : Execution) : Type 0 where
  pub row : SlipRow
  pub there : slip w (asker x.who) (slip_named x) ≡ Some row
  pub operation : row.operation ≡ row_of x.op

-- no slip is named, or there is room for a new one, or it is that of this operation
abbrev pub SlipAllows : WorldLists → Execution → Type 0
SlipAllows w x = (slip_named x ≡ 0) ⊎ (HasRoomForSlip w x ⊎ HasItsSlip w x)

-- Its user is known, its procedure is certified for what it touches, some one triple of the user's holds all of that,
-- within its limit or by a valid release, no rule of the books denies it, and its slip allows it.
abbrev pub IsHeld : WorldLists → Execution → Type 0
IsHeld w x =
    IsIdentified w x.who × Certified w.policy (procedure_of x.op) (touched x.op) × InLimitOrReleased w x × ((by_books (books_meaning w x)).first ≡ None) × SlipAllows w x

-- An operation is allowed exactly when all of this is so.
abbrev pub AllowedExactlyWhenHeld : Type 0
AllowedExactlyWhenHeld = (w : WorldLists) (x : Execution) → first w (executes x) ≡ None ↔ IsHeld w x

-- A release is used up exactly where it authorizes an operation: what a triple of the user's own reaches leaves the
-- release that it names as it was, and one that authorized an operation is valid for none afterwards.
pub record IsUsedOnce (w : WorldLists) (x : Execution) : Type 0 where
  pub kept : InLimit w (asker x.who) x.op x.moment → effect w (executes x) ≡ taken_by x (books_meaning w x).reply.bytes (books_meaning w x).effect
  pub used : ¬ InLimit w (asker x.who) x.op x.moment → (op : Op) (moment : ℕ) → ¬ Released (effect w (executes x)) (asker x.who) x.who.release op moment

abbrev pub ReleasesAreUsedOnce : Type 0
ReleasesAreUsedOnce = (w : WorldLists) (x : Execution) → IsUsedOnce w x

-- A release that is given is a well-formed transaction: of books that hold it makes books that hold.
abbrev pub ReleaseKeepsBooks : Type 0
ReleaseKeepsBooks = (w : WorldLists) (form : Given) (by : Signature) → Books w → IsSigned w by → IsRelease form → first_against_release (release_rows w form) form by ≡ None
    → Books (release_effect w form by)

-- An account that is opened is a well-formed transaction, too: of books that hold it makes books that hold.
abbrev pub NewAccountKeepsBooks : Type 0
NewAccountKeepsBooks = (w : WorldLists) (form : NewAccount) → Books w → IsNewAccount form → first_against_new_account (opening_rows w form) ≡ None → Books (new_account_effect w form)

-- The row of a user who stays: only that of the user who asked may have another session.
pub record IsSameUser (asked : ℕ) (before after : User) : Type 0 where
  pub user : after.user ≡ before.user
  pub name : after.name ≡ before.name
  pub officer : after.officer ≡ before.officer
  pub suspended : after.suspended ≡ before.suspended
  pub session : before.user ≢ asked → (after.session ≡ before.session) × (after.on ≡ before.on)

-- the books are as they were, and of the policy nothing is changed but the session of the one who asked
pub record ChangesSessionAlone (asked : ℕ) (before after : WorldLists) : Type 0 where
  pub books : record after { policy = before.policy } ≡ before
  pub policy : record after.policy { users = before.policy.users } ≡ before.policy
  pub users : AllZip (IsSameUser asked) before.policy.users after.policy.users

-- The opening of a session and its ending change nothing else.
abbrev pub SessionsChangeNoMore : Type 0
SessionsChangeNoMore = (w : WorldLists) →
    ((user : Option ℕ) → ChangesSessionAlone (asker (opens_session user).who) w (effect w (opens_session user)))
    × ((who : Who) → ChangesSessionAlone (asker who) w (effect w (ends_session who)))

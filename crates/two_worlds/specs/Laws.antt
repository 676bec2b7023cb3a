-- That nobody learns of items that they do not touch, and changes none: two Worlds that agree, as far as an operation
-- of a user goes, answer it alike, and so they do the user's requests one after another.
use Rattle.std.specs.Prelude.{ℕ, ◌+◌, ◌≡◌, ◌≢◌, Contains, ⊤, Bool, true, false, All, Some, Err}
use Rattle.bank_terms.specs.declared.item.Cdi.{Cdi}
use Rattle.bank_terms.specs.declared.rule.Rule.{Rule}
use Rattle.bank_terms.specs.declared.rule.Rule.TheVariants as rule
use Rattle.bank_books.specs.Records.{slip_count}
use Rattle.bank_books.specs.SlipRow.{SlipRow}
use Rattle.bank_books.specs.WorldLists.{WorldLists}
use Rattle.counter_ops.specs.Operations.{IsOp}
use Rattle.row_members.specs.Ranges.{IsKey}
use Rattle.counter_ops.specs.declared.op.Op.{Op}
use Rattle.counter_ops.specs.declared.op.Op.TheVariants as op
use Rattle.world_reads.specs.BookReads.{release, slip}
use Rattle.counter_ops.specs.Touched.{touched}
use Rattle.bank_meaning.specs.PolicyRules.{asker, grounds, leave_of}
use Rattle.bank_meaning.specs.Requests.{executes}
use Rattle.bank_meaning.specs.Run.{reply, step}
use Rattle.bank_meaning.specs.Slips.{slip_named}
use Rattle.bank_meaning.specs.Sums.{PassesChecks}
use Rattle.bank_meaning.specs.declared.execution.Execution.{Execution}
use Rattle.bank_meaning.specs.declared.leave.Authorization.TheVariants as leave
use Rattle.bank_meaning.specs.declared.request.Asked.{Asked}
use Rattle.bank_meaning.specs.declared.request.Asked.TheVariants as asked
use Rattle.bank_meaning.specs.declared.request.Request.{Request}
use Rattle.two_worlds.specs.Agree.{Agree, AgreeByForm, AgreeOnPolicy, AgreeOnSlip, releases_given}
use Rattle.two_worlds.specs.View.{view_of}

-- ---- two Worlds

-- They answer it alike, a repeat of it too, and agree again afterwards: on the views of what it touches, on the release and the slip that are named, on how many slips the
-- user has, and on how many releases the user was given for whom one is.
pub record AnswerAlike (w v : WorldLists) (x : Execution) : Type 0 where
  pub reply : reply w (executes x) ≡ reply v (executes x)
  pub agree : Agree (step w (executes x)) (step v (executes x)) x

abbrev pub AgreeingAnswerAlike : Type 0
AgreeingAnswerAlike = (w v : WorldLists) (x : Execution) → PassesChecks w → PassesChecks v → IsOp x.op → Agree w v x → AnswerAlike w v x

-- the rules that look at no item
abbrev pub is_blind : Rule → Bool
is_blind rule.Identity = true
is_blind rule.Slip = true
is_blind rule.NotCertified = true
is_blind rule.NoTriple = true
is_blind rule.Limit = true
is_blind _ = false

-- What one of them denies it denies in each World that agrees on the policy and, for those that follow the rule on
-- identity, on the slip that is named, even if no item is the same: so the user does not learn whether any is there.
abbrev pub BlindlyDenied : Type 0
BlindlyDenied = (w v : WorldLists) (x : Execution) (r : Rule) → AgreeOnPolicy w v x → (r ≢ rule.Identity → AgreeOnSlip w v x) → is_blind r ≡ true → reply w (executes x) ≡ Err r
    → reply v (executes x) ≡ Err r

-- ---- one World

-- a release is none that the operation gives
abbrev pub IsNotGiven : WorldLists → Op → ℕ → ℕ → Type 0
IsNotGiven w (op.Release form) user number = user ≡ form.beneficiary → (given : ℕ) → releases_given w user ≡ Some given → number ≢ given + 1
IsNotGiven w _ user number = ⊤

-- it is not what lets the operation be, nor one that it gives
pub record IsOtherRelease (w : WorldLists) (x : Execution) (user number : ℕ) : Type 0 where
  pub unused : leave_of (grounds w x) ≡ leave.Release number → user ≢ asker x.who
  pub not_given : IsNotGiven w x.op user number

-- What an operation leaves alone: every item that it does not touch, the policy with its users, and every release but the one that is used or given. Of slips only a new one
-- of its user's changes, under the number that is named: none that is there, and of no other user.
pub record LeavesAlone (w : WorldLists) (x : Execution) : Type 0 where
  pub views : (item : Cdi) → IsKey item.key → ¬ Contains (touched x.op) item → view_of (step w (executes x)) item ≡ view_of w item
  pub policy : (step w (executes x)).policy ≡ w.policy
  pub version : (step w (executes x)).version ≡ w.version
  pub releases : (user number : ℕ) → IsOtherRelease w x user number → release (step w (executes x)) user number ≡ release w user number
  pub slips : (user number : ℕ) → (number ≡ slip_named x → user ≢ asker x.who) → slip (step w (executes x)) user number ≡ slip w user number
  pub taken : (user number : ℕ) (s : SlipRow) → slip w user number ≡ Some s → slip (step w (executes x)) user number ≡ Some s
  pub slip_counts : (user : ℕ) → (slip_named x ≢ 0 → user ≢ asker x.who) → slip_count user (step w (executes x)).slips ≡ slip_count user w.slips

abbrev pub OthersAreLeftAlone : Type 0
OthersAreLeftAlone = (w : WorldLists) (x : Execution) → PassesChecks w → IsOp x.op → LeavesAlone w x

abbrev pub is_operation : Asked → Bool
is_operation (asked.Operation op) = true
is_operation _ = false

-- whatever else is asked for, sessions, commands of the policy and its listing, leaves every item
abbrev pub OnlyOperationsChangeItems : Type 0
OnlyOperationsChangeItems = (w : WorldLists) (q : Request) (item : Cdi) → is_operation q.asked ≡ false → view_of (step w q) item ≡ view_of w item

abbrev pub TwoWorlds : Type 0
TwoWorlds = AgreeingAnswerAlike × BlindlyDenied × OthersAreLeftAlone × OnlyOperationsChangeItems

-- An operation that touches none of the items of another, and neither uses nor gives the release that this names, leaves its reply, where not both bear slips of one user:
-- so which of the two comes first makes no difference to it.
abbrev pub Undisturbed : Type 0
Undisturbed = (w : WorldLists) (x y : Execution) → PassesChecks w → PassesChecks (step w (executes y)) → IsOp x.op → IsOp y.op
    → All (λ item. IsKey item.key × ¬ Contains (touched y.op) item) (touched x.op) → IsOtherRelease w y (asker x.who) x.who.release
    → (slip_named x ≢ 0 → slip_named y ≢ 0 → asker x.who ≢ asker y.who)
    → AgreeByForm w (step w (executes y)) (asker x.who) x.moment x.op → reply (step w (executes y)) (executes x) ≡ reply w (executes x)

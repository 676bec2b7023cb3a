-- That a slip is kept for good, with what was replied when it was taken; and so what bears one may be sent again after a crash.
use Rattle.std.specs.Prelude.{ℕ, ◌≡◌, ◌≢◌, ◌⊎◌, true, false, List, None, Some, Ok, Err}
use Rattle.bank_terms.specs.declared.rule.Rule.TheVariants as rule
use Rattle.bank_books.specs.SlipRow.{SlipRow}
use Rattle.bank_books.specs.WorldLists.{WorldLists}
use Rattle.counter_ops.specs.Rows.{row_of}
use Rattle.world_reads.specs.BookReads.{slip}
use Rattle.bank_meaning.specs.Meaning.{ReplyText, json}
use Rattle.bank_meaning.specs.PolicyRules.{asker}
use Rattle.bank_meaning.specs.Requests.{denies, executes, reply_text}
use Rattle.bank_meaning.specs.Run.{Marked, is_accepted, reply, step, world_after}
use Rattle.bank_meaning.specs.Slips.{slip_named}
use Rattle.bank_meaning.specs.declared.execution.Execution.{Execution}

-- it bears the same slip of the same user, and that user is known
pub record BearsSlipOf (v : WorldLists) (x y : Execution) : Type 0 where
  pub user : asker y.who ≡ asker x.who
  pub number : slip_named y ≡ slip_named x
  pub known : denies rule.Identity v (executes y) ≡ false

-- In this World, what bears the slip of this operation gets this reply and changes nothing, whatever the policy is; with another operation its own rule denies it.
pub record IsKeptReply (v : WorldLists) (x : Execution) (text : ReplyText) : Type 0 where
  pub left : (y : Execution) → BearsSlipOf v x y → row_of y.op ≡ row_of x.op → step v (executes y) ≡ v
  pub stated : (y : Execution) → BearsSlipOf v x y → row_of y.op ≡ row_of x.op → reply v (executes y) ≡ Ok (json text.bytes)
  pub denied : (y : Execution) → BearsSlipOf v x y → row_of y.op ≢ row_of x.op → reply v (executes y) ≡ Err rule.Slip

-- after an operation with a slip that was accepted, and any further requests with any marks
abbrev pub RepliesAreKept : Type 0
RepliesAreKept = (w : WorldLists) (x : Execution) (ms : List Marked) → slip_named x ≢ 0 → is_accepted w (record { request = executes x; mark = None }) ≡ true
    → IsKeptReply (world_after (step w (executes x)) ms) x (reply_text w (executes x))

-- after any requests with any marks, a user still has each slip, with its operation and its reply
abbrev pub SlipsStay : Type 0
SlipsStay = (w : WorldLists) (ms : List Marked) (user number : ℕ) (s : SlipRow) → slip w user number ≡ Some s → slip (world_after w ms) user number ≡ Some s

-- ---- after a crash

-- what a crash leaves, of an operation that was asked for: the World before it, or the World after it
abbrev pub MayBeLeft : WorldLists → Execution → WorldLists → Type 0
MayBeLeft w x left = (left ≡ w) ⊎ (left ≡ step w (executes x))

-- sent to that World, it leaves what it leaves once, and is replied what it was replied at first
pub record IsRetried (w : WorldLists) (x : Execution) (left : WorldLists) : Type 0 where
  pub world : step left (executes x) ≡ step w (executes x)
  pub stated : reply left (executes x) ≡ reply w (executes x)

-- The same operation is asked for again, with the same slip of the same user. The session, the moment and the release may be others.
pub record IsSentAgain (x y : Execution) : Type 0 where
  pub user : asker y.who ≡ asker x.who
  pub number : slip_named y ≡ slip_named x
  pub operation : row_of y.op ≡ row_of x.op

-- Sent again by a user who is known, it bears the slip of the first, and so gets its reply.
abbrev pub SentAgainBearsItsSlip : Type 0
SentAgainBearsItsSlip = (v : WorldLists) (x y : Execution) → IsSentAgain x y → denies rule.Identity v (executes y) ≡ false → BearsSlipOf v x y

-- in this World it was carried out, or repeated, alone: that is what is left, and what is replied
pub record IsAlone (w : WorldLists) (x : Execution) (left : WorldLists) (text : ReplyText) : Type 0 where
  pub world : left ≡ step w (executes x)
  pub stated : reply w (executes x) ≡ Ok text

-- sent again to that World, and answered with 200, it has acted once: the first has and this is its repeat, or the first has not and this has
abbrev pub HasActedOnce : WorldLists → Execution → Execution → WorldLists → ReplyText → Type 0
HasActedOnce w x y left text = IsAlone w x (step left (executes y)) text ⊎ IsAlone w y (step left (executes y)) text

-- of every World, and every operation that names a slip, allowed or not; sent again as it was, or as another request that bears its slip
abbrev pub RetriesActOnce : Type 0
RetriesActOnce = ((w : WorldLists) (x : Execution) (left : WorldLists) → slip_named x ≢ 0 → MayBeLeft w x left → IsRetried w x left)
    × ((w : WorldLists) (x y : Execution) (left : WorldLists) (text : ReplyText) → slip_named x ≢ 0 → IsSentAgain x y → MayBeLeft w x left → reply left (executes y) ≡ Ok text
    → HasActedOnce w x y left text)

-- What holds along every list of requests, in one record: what becomes of each, the sums, the policy in force, and what bears a slip.
use Rattle.std.specs.Prelude.{ℕ, ◌≡◌, ◌≢◌, ◌↔◌, ◌+◌, ◌<◌, true, false, Bool, List, Some, None, Result, Ok, Err, slice_get, take}
use Rattle.money.specs.declared.fault.Fault.{Fault}
use Rattle.bank_policy.specs.HeldRows.{standing}
use Rattle.bank_policy.specs.declared.rows.Standing.{Standing}
use Rattle.bank_terms.specs.declared.rule.Rule.{Rule}
use Rattle.bank_books.specs.WorldLists.{WorldLists}
use Rattle.counter_ops.specs.Op.{procedure_of}
use Rattle.policy_check.specs.Separation.{Certifies}
use Rattle.policy_commands.specs.declared.policy_op.PolicyOp.{PolicyOp}
use Rattle.bank_meaning.specs.Amounts.{IsWithinAmount}
use Rattle.bank_meaning.specs.BooksJudged.{IsBooksJudged}
use Rattle.bank_meaning.specs.CommandsJudged.{IsCommandJudged, IsListingJudged, IsOpeningJudged}
use Rattle.bank_meaning.specs.LastWord.{HasLastWord}
use Rattle.bank_meaning.specs.Laws.{IsFirstRule, IsHeld, IsIdentified}
use Rattle.bank_meaning.specs.Meaning.{ReplyText, json}
use Rattle.bank_meaning.specs.Once.{ActsOnce}
use Rattle.bank_meaning.specs.PolicyRules.{asker}
use Rattle.bank_meaning.specs.Recorded.{RowsAreAsked}
use Rattle.bank_meaning.specs.Repeats.{IsKeptReply}
use Rattle.bank_meaning.specs.Requests.{effect, executes, first, repeated, reply_text}
use Rattle.bank_meaning.specs.Run.{Marked, is_accepted, reply, world_after}
use Rattle.bank_meaning.specs.Sessions.{ending_text, opening_text}
use Rattle.bank_meaning.specs.Slips.{slip_named}
use Rattle.bank_meaning.specs.Sums.{AreProper, PassesChecks, SumsAgree}
use Rattle.bank_meaning.specs.declared.execution.Execution.{Execution}
use Rattle.bank_meaning.specs.declared.request.Asked.TheVariants as asked
use Rattle.bank_meaning.specs.declared.request.Request.{Request}
use Rattle.bank_meaning.specs.declared.who.Who.{Who}

-- The user who asks has a session that is open, or is not, and the reply has its number.
pub record IsSessionReplied (after : WorldLists) (who : Who) (is_open : Bool) (text : ℕ → List ℕ) (replied : Result ReplyText Rule) : Type 0 where
  pub row : Standing
  pub there : standing after.policy (asker who) ≡ Some row
  pub on : row.on ≡ is_open
  pub says : replied ≡ Ok (json (text row.session))

-- A request that is made, in the World that those before it left, and the World after it.
pub record IsMadeRightly (w : WorldLists) (q : Request) (after : WorldLists) : Type 0 where
  -- the rule that is reported is the first that denies
  pub named : IsFirstRule w q
  -- What repeats none is carried out where no rule denies it. Else it changes nothing, and that rule is reported.
  pub carried_out : repeated w q ≡ None → first w q ≡ None → (after ≡ effect w q) × (reply w q ≡ Ok (reply_text w q))
  pub denied : (r : Rule) → repeated w q ≡ None → first w q ≡ Some r → (after ≡ w) × (reply w q ≡ Err r)
  -- a repeat changes nothing, and gets the reply that was kept
  pub again : (kept : List ℕ) → repeated w q ≡ Some kept → (after ≡ w) × (reply w q ≡ Ok (json kept))
  -- no rule denies an operation exactly where all of it is held
  pub held : (x : Execution) → q ≡ executes x → (first w q ≡ None ↔ IsHeld w x)
  -- and then it is asked for by whom, and where, the books want it; it moves its amount at most
  pub judged : (x : Execution) → q ≡ executes x → first w q ≡ None → IsBooksJudged w x
  pub within : (x : Execution) → q ≡ executes x → IsWithinAmount w x
  -- what is carried out adds the rows that were asked for, and no others
  pub added : (x : Execution) → q ≡ executes x → repeated w q ≡ None → first w q ≡ None → RowsAreAsked w after x
  -- Clark and Wilson's rule E4: who executes a procedure does not certify it
  pub apart : (x : Execution) → q ≡ executes x → first w q ≡ None → ¬ Certifies w.policy (asker x.who) (procedure_of x.op)
  -- and no rule denies a command, the listing, or the opening or ending of a session exactly where who asks may
  pub commanded : (c : PolicyOp) → q.asked ≡ asked.Command c → (first w q ≡ None ↔ IsCommandJudged w q.who c)
  pub listed : q.asked ≡ asked.Listing → (first w q ≡ None ↔ IsListingJudged w q.who)
  pub opened : q.asked ≡ asked.Opening → (first w q ≡ None ↔ IsOpeningJudged w q.who.user)
  pub ended : q.asked ≡ asked.Ending → (first w q ≡ None ↔ IsIdentified w q.who)
  -- and what is replied is the number of the session that the World after it has
  pub opened_as : q.asked ≡ asked.Opening → first w q ≡ None → IsSessionReplied after q.who true opening_text (reply w q)
  pub ended_as : q.asked ≡ asked.Ending → first w q ≡ None → IsSessionReplied after q.who false ending_text (reply w q)

-- One with its mark: what a fault kept from being made changes nothing.
pub record IsTreatedRightly (w : WorldLists) (m : Marked) (after : WorldLists) : Type 0 where
  pub made : m.mark ≡ None → IsMadeRightly w m.request after
  pub unmade : (fault : Fault) → m.mark ≡ Some fault → after ≡ w

-- The n-th of these requests is an operation that bears a slip, and was accepted.
pub record IsAcceptedAt (w : WorldLists) (requests : List Marked) (n : ℕ) (x : Execution) : Type 0 where
  pub there : slice_get requests n ≡ Some (record { request = executes x; mark = None })
  pub slip : slip_named x ≢ 0
  pub accepted : is_accepted (world_after w (take n requests)) (record { request = executes x; mark = None }) ≡ true

-- the requests, from this World on
pub record IsHeadline (w : WorldLists) (requests : List Marked) : Type 0 where
  pub each : (n : ℕ) (m : Marked) → slice_get requests n ≡ Some m → IsTreatedRightly (world_after w (take n requests)) m (world_after w (take (n + 1) requests))
  pub sums : SumsAgree w requests
  pub policy : HasLastWord w requests
  pub acts_once : ActsOnce w requests
  -- what bears the slip of an accepted operation gets its reply, wherever it comes after that
  pub kept : (n k : ℕ) (x : Execution) → IsAcceptedAt w requests n x → n < k → IsKeptReply (world_after w (take k requests)) x (reply_text (world_after w (take n requests)) (executes x))

-- of every World that passes both checks, and of every list of proper requests with any marks
abbrev pub Headline : Type 0
Headline = (w : WorldLists) (requests : List Marked) → PassesChecks w → AreProper requests → IsHeadline w requests

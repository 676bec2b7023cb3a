-- What a crash leaves of a bank, by the requests that it was sent, and what bears a slip and is sent again to that.
use Rattle.std.specs.Prelude.{◌≡◌, ◌≢◌, ◌⊎◌, ◌≤◌, ℕ, List, Some, Ok, slice_get, take}
use Rattle.money.specs.declared.fault.Fault.{Fault}
use Rattle.bank_books.specs.WorldLists.{WorldLists}
use Rattle.bank_meaning.specs.Headline.{IsAcceptedAt}
use Rattle.bank_meaning.specs.Meaning.{ReplyText}
use Rattle.bank_meaning.specs.Repeats.{HasActedOnce, IsKeptReply, IsRetried, IsSentAgain, MayBeLeft}
use Rattle.bank_meaning.specs.Requests.{executes, reply_text}
use Rattle.bank_meaning.specs.Run.{Marked, reply, step, world_after}
use Rattle.bank_meaning.specs.Slips.{slip_named}
use Rattle.bank_meaning.specs.declared.execution.Execution.{Execution}
use Rattle.bank_meaning.specs.declared.request.Request.{Request}

-- One of these requests was answered by a fault, and no request has changed the World since.
pub record IsUnanswered (w : WorldLists) (requests : List Marked) (q : Request) : Type 0 where
  pub place : ℕ
  pub fault : Fault
  pub there : slice_get requests place ≡ Some (record { request = q; mark = Some fault })
  pub since : (n : ℕ) → place ≤ n → world_after w (take n requests) ≡ world_after w requests

-- The World after these requests; or after them and one more, which is one of them that a fault kept from being answered otherwise.
abbrev pub IsLeftByCrash : WorldLists → List Marked → WorldLists → Type 0
IsLeftByCrash w requests left =
    (left ≡ world_after w requests) ⊎ ((q : Request) × IsUnanswered w requests q × (left ≡ step (world_after w requests) q))

-- An operation that bears a slip acts once, also where it is sent again to what a crash leaves of the bank after these requests.
pub record ActsOnceOverCrash (w : WorldLists) (requests : List Marked) (left : WorldLists) : Type 0 where
  -- One that was accepted changes nothing when it is sent again, and gets its first reply.
  pub accepted : (n : ℕ) (x : Execution) → IsAcceptedAt w requests n x → IsKeptReply left x (reply_text (world_after w (take n requests)) (executes x))
  -- One that the crash may have carried out leaves, sent again, what it leaves once, and gets the reply that it gets once.
  pub as_it_was : (x : Execution) → slip_named x ≢ 0 → MayBeLeft (world_after w requests) x left → IsRetried (world_after w requests) x left
  -- The same where it is sent again in another session, at another moment, or by another release.
  pub sent_again : (x y : Execution) (text : ReplyText) → slip_named x ≢ 0 → IsSentAgain x y → MayBeLeft (world_after w requests) x left → reply left (executes y) ≡ Ok text
      → HasActedOnce (world_after w requests) x y left text

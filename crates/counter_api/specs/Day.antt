-- What the messages of one stream, or of several served one after another, come to: one run of the bank.
use Rattle.std.specs.Prelude.{◌≡◌, ◌⊎◌, ℕ, ⊤, List, [], ◌∷◌, ◌++◌, Option, None, Result, Ok, Err}
use Rattle.std.proofs.Common.{inl, inr}
use Rattle.bank_books.specs.WorldLists.{WorldLists}
use Rattle.http_messages.specs.declared.serving.ServeFault.{ServeFault}
use Rattle.http_messages.specs.declared.serving.ServeFault.TheVariants.{Cut, Memory, Read, Report, Write}
use Rattle.http_messages.specs.declared.serving.Served.{Served}
use Rattle.http_messages.specs.Whole.{message_parts}
use Rattle.reports.specs.Report.{BeginsWith}
use Rattle.store_rows.specs.Status.{StaysWhole, Status, Tells}
use Rattle.bank_meaning.specs.Headline.{IsHeadline}
use Rattle.bank_meaning.specs.Run.{world_after}
use Rattle.bank_meaning.specs.Sums.{PassesChecks}
use Rattle.counter_api.specs.Exit.{IsServed, Place}
use Rattle.counter_api.specs.Run.{AreInRange, IsPending, MarkedMessage, replies_to, reply_to, requests_of}

-- What messages, one after another, made of a store. Of each World that it represented: it represents the World after
-- their requests, and each request was treated rightly at its place.
pub record IsDay (users : List ℕ → Option ℕ) (old new : Status) (ms : List MarkedMessage) : Type 0 where
  pub honest : new.is_honest → old.is_honest
  pub moved : Tells old new (λ w. new.holds (world_after w (requests_of users ms)))
  -- A crash leaves that World, or one that is pending: no change that was carried out is undone.
  pub leaves : Tells old new (λ w. (left : WorldLists) → new.may_leave left → (left ≡ world_after w (requests_of users ms)) ⊎ IsPending users old.may_leave w ms left)
  pub whole : StaysWhole old new
  -- The requests are in range, those too that a fault kept from being made.
  pub in_range : AreInRange (requests_of users ms)
  pub headline : (w : WorldLists) → PassesChecks w → IsHeadline w (requests_of users ms)

module _ {S C : Type 0} (status : S → Status) (users : List ℕ → Option ℕ) (may_give : C → ℕ → C → Type 0) where
  -- The messages that were replied to in one call of `serve`, by its exit. Where a write stopped, a beginning alone of the last reply went
  -- out. A message whose report broke is none of them, since it changed nothing.
  abbrev pub answered : (most : ℕ) (old new : Place S C) (exit : Result Served ServeFault) → IsServed status users may_give most old new exit → List MarkedMessage
  answered most old new (Ok s) is = is.2
  answered most old new (Err Read) is = is.2
  answered most old new (Err Cut) is = is.2
  answered most old new (Err Write) (inl is) = is.3 ++ is.4 ∷ []
  answered most old new (Err Write) (inr is) = is.2
  answered most old new (Err Report) is = is.3
  answered most old new (Err Memory) is = []

  -- What went out is the replies to them, from this World on: all of them; a beginning, where the write of the last stopped; or, where a
  -- report broke, all before it and a beginning of its reply. After all of them a refusal of bytes that begin no message may follow.
  abbrev pub AreReplied : (most : ℕ) (old new : Place S C) (exit : Result Served ServeFault) → IsServed status users may_give most old new exit → WorldLists → Type 0
  AreReplied most old new (Ok s) is w = is.3 ≡ replies_to users w is.2
  AreReplied most old new (Err Read) is w = is.3 ≡ replies_to users w is.2
  AreReplied most old new (Err Cut) is w = is.3 ≡ replies_to users w is.2
  AreReplied most old new (Err Write) (inl is) w = BeginsWith (replies_to users w (is.3 ++ is.4 ∷ [])) (is.5 ++ is.6)
  AreReplied most old new (Err Write) (inr is) w = is.3 ≡ replies_to users w is.2
  AreReplied most old new (Err Report) is w =
      (is.4 ≡ replies_to users w is.3)
      × BeginsWith (reply_to users (world_after w (requests_of users is.3)) (record { message = message_parts is.1; moment = is.6.broken.moment; mark = None })) is.5
  AreReplied most old new (Err Memory) is w = ⊤

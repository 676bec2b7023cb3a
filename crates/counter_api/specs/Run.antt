-- Messages one after another: the requests that they state, and the replies to them.
use Rattle.std.specs.Prelude.{ℕ, ◌≡◌, ◌⊎◌, ◌+◌, ◌≤◌, Bool, true, IsTrue, All, List, [], ◌∷◌, ◌++◌, Option, Some, None, IsNone, IsSome, Result, Ok, Err, IfOk, ⊤}
use Rattle.money.specs.declared.fault.Fault.{Fault}
use Rattle.money.specs.declared.fault.Fault.TheVariants.{Memory, Stopped}
use Rattle.bank_terms.specs.Limits.{max_moment}
use Rattle.bank_terms.specs.declared.rule.Rule.{Rule}
use Rattle.bank_books.specs.WorldLists.{WorldLists}
use Rattle.http_heads.specs.Framing.{asks_head, closes}
use Rattle.http_heads.specs.declared.fault.MessageFault.{MessageFault}
use Rattle.http_messages.specs.Parts.{MessageParts}
use Rattle.http_messages.specs.Reply.{reply_bytes}
use Rattle.store_rows.specs.Status.{Answers, RoseBy, StaysWhole, Status, Tells, counts, counts_at_most, failures_after, stops}
use Rattle.bank_meaning.specs.Headline.{IsHeadline}
use Rattle.bank_meaning.specs.LastWord.{finds_room, effective}
use Rattle.bank_meaning.specs.Meaning.{ReplyText}
use Rattle.bank_meaning.specs.Run.{Marked, accepted, is_accepted, reply, step, world_after}
use Rattle.bank_meaning.specs.Sums.{IsProper, PassesChecks}
use Rattle.bank_meaning.specs.declared.request.Request.{Request}
use Rattle.requests.specs.Request.{request_of}
use Rattle.counter_api.specs.Response.{ResponseParts, denied_parts, done_parts, faulted_parts, refused_parts}

-- a message, the moment that it bears, and the fault that kept it from being answered otherwise, if one did
pub record MarkedMessage : Type 0 where
  pub message : MessageParts
  pub moment : ℕ
  pub mark : Option Fault

-- a request with its mark; none where a message states none
abbrev pub marked : Result Request MessageFault → Option Fault → List Marked → List Marked
marked (Ok r) mark rest = record { request = r; mark = mark } ∷ rest
marked (Err fault) mark rest = rest

-- These requests are in range, those too that a fault kept from being made.
abbrev pub AreInRange : List Marked → Type 0
AreInRange = All (λ m. IsProper m.request)

-- the text, or the rule, as a reply
abbrev pub reply_parts : Result ReplyText Rule → ResponseParts
reply_parts (Ok text) = done_parts text
reply_parts (Err rule) = denied_parts rule

abbrev pub IsResponse : Result ReplyText Rule → ResponseParts → Type 0
IsResponse reply parts = parts ≡ reply_parts reply

-- what a message is answered in a World
abbrev pub response_to : WorldLists → Result Request MessageFault → Option Fault → ResponseParts
response_to w stated (Some fault) = faulted_parts fault
response_to w (Ok r) None = reply_parts (reply w r)
response_to w (Err fault) None = refused_parts fault

-- the bytes that went out are the whole of what was to go out
abbrev pub IsWhole : List ℕ → List ℕ → Type 0
IsWhole whole out = out ≡ whole

-- its bytes, framed as the message asks for it
abbrev pub framed : MessageParts → ResponseParts → List ℕ
framed m parts = reply_bytes parts.status parts.content_type parts.body (closes m.head) (asks_head m.head)

-- A request of a user whom the `Gate` knows may be kept from being made by any fault. One of nobody, and a message that
-- states none, may be kept from its reply by want of memory alone.
abbrev pub MayBear : Result Request MessageFault → Option Fault → Type 0
MayBear stated mark = IfOk stated (λ r. IsNone r.who.user) → (mark ≡ None) ⊎ (mark ≡ Some Memory)

-- A request of a user whom the `Gate` knows that finds the store stopped is kept from being made: its reply says so, or
-- it wanted memory before the store was asked.
abbrev pub RefusesRequest : Bool → Option Fault → Type 0
RefusesRequest stopped mark = IsTrue stopped → (mark ≡ Some Stopped) ⊎ (mark ≡ Some Memory)

-- A request that is made, where it is a command that no rule denies, finds a version of the policy left: so none that
-- changed nothing is reported as made.
abbrev pub FindsRoom : Request → Option Fault → WorldLists → Type 0
FindsRoom r mark w = is_accepted w (record { request = r; mark = mark }) ≡ true → finds_room w r.asked ≡ true

-- The Worlds that a crash may leave beside the one that stands: those that it could leave before, as long as no request has
-- changed the World, and the one after a request that was answered by a fault.
abbrev pub pending_after : (WorldLists → Type 0) → WorldLists → Result Request MessageFault → Option Fault → WorldLists → Type 0
pending_after before w (Err fault) mark left = before left
pending_after before w (Ok r) (Some fault) left = before left ⊎ (left ≡ step w r)
pending_after before w (Ok r) None left = (step w r ≡ w) × before left

module _ (users : List ℕ → Option ℕ) where
  abbrev pub stated_by : MarkedMessage → Result Request MessageFault
  stated_by m = request_of users m.moment m.message

  -- the requests that messages state, in their order
  abbrev pub requests_of : List MarkedMessage → List Marked
  requests_of [] = []
  requests_of (m ∷ ms) = marked (stated_by m) m.mark (requests_of ms)

  abbrev pub reply_to : WorldLists → MarkedMessage → List ℕ
  reply_to w m = framed m.message (response_to w (stated_by m) m.mark)

  -- the World after one message: that after its request, if it states one
  abbrev pub after_message : WorldLists → MarkedMessage → WorldLists
  after_message w m = world_after w (marked (stated_by m) m.mark [])

  -- the replies to messages, one after another
  abbrev pub replies_to : WorldLists → List MarkedMessage → List ℕ
  replies_to w [] = []
  replies_to w (m ∷ ms) = reply_to w m ++ replies_to (after_message w m) ms

  -- What one message makes of a store, and what is said of its answer, of each World that the store stood for. Its moment is in range; so the request that
  -- it states is, too.
  pub record IsHandled (old new : Status) (m : MarkedMessage) (says : ResponseParts → Type 0) : Type 0 where
    pub bears : MayBear (stated_by m) m.mark
    pub timely : m.moment ≤ max_moment
    pub answers : Answers old new m.mark
    pub refused : IfOk (stated_by m) (λ r. IsSome r.who.user → RefusesRequest old.is_stopped m.mark)
    pub moved : Tells old new (λ w. new.holds (after_message w m))
    pub replied : Tells old new (λ w. says (response_to w (stated_by m) m.mark))
    pub room : Tells old new (λ w. IfOk (stated_by m) (λ r. FindsRoom r m.mark w))
    pub leaves : Tells old new (λ w. (left : WorldLists) → new.may_leave left → (left ≡ after_message w m) ⊎ pending_after old.may_leave w (stated_by m) m.mark left)
    pub whole : StaysWhole old new

  -- the same of messages, one after another
  abbrev pub IsPending : (WorldLists → Type 0) → WorldLists → List MarkedMessage → WorldLists → Type 0
  IsPending before w [] left = before left
  IsPending before w (m ∷ ms) left = IsPending (pending_after before w (stated_by m) m.mark) (after_message w m) ms left

  -- Along messages: a request of a known user that finds the store stopped is marked Stopped or Memory, and Stopped marks no other.
  abbrev pub AreOrderly : List MarkedMessage → Bool → Type 0
  AreOrderly [] stopped = ⊤
  AreOrderly (m ∷ ms) stopped =
      IfOk (stated_by m) (λ r. IsSome r.who.user → RefusesRequest stopped m.mark)
      × (m.mark ≡ Some Stopped → IsTrue stopped) × MayBear (stated_by m) m.mark × AreOrderly ms (stops m.mark stopped)

-- is the store stopped after them: a mark of Disk stops it
abbrev pub stopped_after : List MarkedMessage → Bool → Bool
stopped_after [] stopped = stopped
stopped_after (m ∷ ms) stopped = stopped_after ms (stops m.mark stopped)

-- how many marks of Size, Disk and Stopped there are
abbrev pub faults_of : List MarkedMessage → ℕ
faults_of [] = 0
faults_of (m ∷ ms) = counts m.mark + faults_of ms

-- and how many marks there are at all
abbrev pub marks_of : List MarkedMessage → ℕ
marks_of [] = 0
marks_of (m ∷ ms) = counts_at_most m.mark + marks_of ms

-- the count of a store's failures after them: marks of Size, Disk and Stopped alone count
abbrev pub failed_after : List MarkedMessage → ℕ → ℕ
failed_after [] count = count
failed_after (m ∷ ms) count = failed_after ms (failures_after m.mark count)

-- What messages and the bytes of their replies make of a store, of each World that it represented: it represents the
-- World after their requests, and the bytes stand so to the replies to them.
pub record IsRun (how : List ℕ → List ℕ → Type 0) (users : List ℕ → Option ℕ) (old new : Status) (ms : List MarkedMessage) (out : List ℕ) : Type 0 where
  pub honest : new.is_honest → old.is_honest
  pub state : new.is_stopped ≡ stopped_after ms old.is_stopped
  pub orderly : AreOrderly users ms old.is_stopped
  pub counted : RoseBy (faults_of ms) old.fault_count new.fault_count
  pub no_more : new.fault_count ≤ old.fault_count + marks_of ms
  pub failed : new.failure_count ≡ failed_after ms old.failure_count
  pub moved : Tells old new (λ w. new.holds (world_after w (requests_of users ms)))
  pub replied : Tells old new (λ w. how (replies_to users w ms) out)
  -- each command that is accepted takes effect: none that changed nothing is reported as made
  pub all_effective : Tells old new (λ w. effective w (requests_of users ms) ≡ accepted w (requests_of users ms))
  -- A crash leaves the World that stands, or one that is pending: no change that was carried out is undone.
  pub leaves : Tells old new (λ w. (left : WorldLists) → new.may_leave left → (left ≡ world_after w (requests_of users ms)) ⊎ IsPending users old.may_leave w ms left)
  -- and it leaves Worlds alone, where it did before
  pub whole : StaysWhole old new
  -- the members, the moment and the slip of each request are in their ranges
  pub in_range : AreInRange (requests_of users ms)
  -- and where the checks passed before, each request is carried out exactly where it is held, the first rule against any other is
  -- named, the sums agree, the policy is the one in force by last word, and what bears a slip acts once
  pub headline : (w : WorldLists) → PassesChecks w → IsHeadline w (requests_of users ms)

-- The message bore a moment that the clock gave, and a mark, and these bytes stand so to its reply.
pub record IsAnswered {C : Type 0} (how : List ℕ → List ℕ → Type 0) (users : List ℕ → Option ℕ) (may_give : C → ℕ → C → Type 0) (old new : Status) (from to : C) (message : MessageParts) (out : List ℕ) : Type 0 where
  pub moment : ℕ
  pub mark : Option Fault
  pub given : may_give from moment to
  pub handled : IsHandled users old new (record { message = message; moment = moment; mark = mark }) (λ response. how (framed message response) out)

-- What a request that was decided, and carried out where it was allowed, makes of a store, and what is replied to it.
use Rattle.std.specs.Prelude.{◌≡◌, ◌⊎◌, ℕ, List, IsNone, IsOkUnless, IsSome, Option, None, Some, Result, Ok, Err}
use Rattle.std.specs.Global.{Vec}
use Rattle.std.specs.Io.KnownBytes.{Appends}
use Rattle.money.specs.declared.fault.Fault.{Fault}
use Rattle.money.specs.declared.fault.Fault.TheVariants.{Memory}
use Rattle.money.specs.declared.tallied.Tallied.{Tallied}
use Rattle.bank_terms.specs.declared.rule.Rule.{Rule}
use Rattle.http_messages.specs.Parts.{MessageParts}
use Rattle.store_rows.specs.Status.{Answers, Keeps, RoseBy, StaysWhole, Status, Tells, mark_of}
use Rattle.bank_meaning.specs.Meaning.{ReplyText, json}
use Rattle.bank_meaning.specs.Requests.{first}
use Rattle.bank_meaning.specs.Run.{reply}
use Rattle.bank_meaning.specs.declared.request.Request.{Request}
use Rattle.decide.specs.OneRequest.{LeavesBoth, Moves, Replies, Settles}
use Rattle.reports.specs.Report.{BeginsWith}
use Rattle.requests.specs.Request.{IsReport}
use Rattle.counter_api.specs.Response.{ResponseParts, denied_parts, done_parts}
use Rattle.counter_api.specs.Run.{FindsRoom, IsResponse, IsWhole, RefusesRequest, framed, reply_parts}
use Rattle.counter_api.specs.Sent.{CountsBySent, HasHead}
use Rattle.counter_api.specs.declared.counter.Outcome.{Outcome}
use Rattle.counter_api.specs.declared.counter.Outcome.TheVariants as outcome
use Rattle.counter_api.specs.declared.sent.Sent.TheVariants as sent

-- Of each World that the store represented: it represents the World after the request, and this is said of the reply;
-- or a fault kept the request from being made. A request of nobody is kept from its reply by want of memory alone.
pub record IsCarriedOut {A : Type 0} (says : Result ReplyText Rule → A → Type 0) (old new : Status) (request : Request) (result : Result A Fault) : Type 0 where
  pub answers : Answers old new (mark_of result)
  pub moved : Moves old new request (mark_of result)
  pub replied : Replies old new request says result
  pub room : Tells old new (FindsRoom request (mark_of result))
  pub crash : LeavesBoth old new request
  pub whole : StaysWhole old new
  pub settled : Settles old new request (mark_of result)
  pub refused : IsSome request.who.user → RefusesRequest old.is_stopped (mark_of result)
  pub stranger : IsNone request.who.user → IsOkUnless result Memory

-- The response to what a request came to: its reply, or the rule against it, for whose text memory may be refused; or the fault.
abbrev pub IsResponded : Result (Result (Vec ℕ) Rule) Fault → Result ResponseParts Fault → Type 0
IsResponded (Ok (Ok text)) response = response ≡ Ok (done_parts (json text.items))
IsResponded (Ok (Err rule)) response = (response ≡ Ok (denied_parts rule)) ⊎ (response ≡ Err Memory)
IsResponded (Err fault) response = response ≡ Err fault

-- ---- a report

-- the bytes that went out stand so to the reply, framed as the message asks for it
abbrev pub IsSent : (List ℕ → List ℕ → Type 0) → MessageParts → Result ReplyText Rule → List ℕ → Type 0
IsSent how m reply bytes = how (framed m (reply_parts reply)) bytes

-- A fault broke the reply to a request off, which asks for a report and which no rule denies, once its head had gone
-- out: what went out is a beginning of it, of each World that the store represented. It represents the same World, and
-- counted the fault: want of memory counts, too.
pub record BreaksOff (old new : Status) (r : Request) (m : MessageParts) (fault : Fault) (bytes : List ℕ) : Type 0 where
  pub report : IsReport r.asked
  pub kept : Keeps old new (Some fault)
  pub cause : Tells old new (λ w. RoseBy 1 old.fault_count new.fault_count)
  pub headed : HasHead m bytes
  pub allowed : Tells old new (λ w. first w r ≡ None)
  pub begun : Tells old new (λ w. BeginsWith (framed m (reply_parts (reply w r))) bytes)

-- A request was carried out, and its response is still to be written; or it is answered by a report, and so much of that went out.
abbrev pub IsCarried : Status → Status → Option (List ℕ) → Option (List ℕ) → MessageParts → Request → Result Outcome Fault → Type 0
IsCarried old new before after m r (Err fault) = IsCarriedOut IsResponse old new r (Err fault)
IsCarried old new before after m r (Ok (outcome.Response response)) = IsCarriedOut IsResponse old new r (Ok response)
IsCarried old new before after m r (Ok (outcome.Report sent.Whole)) =
    (bytes : List ℕ) × Appends before after bytes × IsCarriedOut (IsSent IsWhole m) old new r (Ok bytes)
IsCarried old new before after m r (Ok (outcome.Report sent.Stopped)) =
    (bytes : List ℕ) × Appends before after bytes × IsCarriedOut (IsSent BeginsWith m) old new r (Ok bytes)
IsCarried old new before after m r (Ok (outcome.Report (sent.Broken fault))) =
    (bytes : List ℕ) × Appends before after bytes × BreaksOff old new r m fault bytes

-- nothing was written but a report, and the writer counted what that says
abbrev pub KeepsWriter : {W : Type 0} → Tallied W → Tallied W → Result Outcome Fault → Type 0
KeepsWriter old new (Err fault) = new ≡ old
KeepsWriter old new (Ok (outcome.Response response)) = new ≡ old
KeepsWriter old new (Ok (outcome.Report how)) = CountsBySent old new how

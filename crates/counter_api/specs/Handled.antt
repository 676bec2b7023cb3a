-- What the handling of one message came to, before its response is written.
use Rattle.std.specs.Prelude.{◌≡◌, ℕ, List, Option, Some, None, Result, Ok, Err, IsOkAnd}
use Rattle.std.specs.Io.KnownBytes.{Appends}
use Rattle.money.specs.declared.fault.Fault.{Fault}
use Rattle.http_messages.specs.Parts.{MessageParts}
use Rattle.store_rows.specs.Status.{Keeps, RoseBy, Status, Tells}
use Rattle.bank_meaning.specs.Requests.{first}
use Rattle.reports.specs.Report.{BeginsWith}
use Rattle.requests.specs.Request.{IsReport, request_of}
use Rattle.counter_api.specs.Response.{ResponseParts, faulted_parts}
use Rattle.counter_api.specs.Run.{IsHandled, IsWhole, framed, reply_to}
use Rattle.counter_api.specs.Sent.{HasHead}
use Rattle.counter_api.specs.declared.counter.Outcome.{Outcome}
use Rattle.counter_api.specs.declared.counter.Outcome.TheVariants as outcome
use Rattle.counter_api.specs.declared.sent.Sent.TheVariants as sent

-- a response as what a request came to
abbrev pub outcome_of : Result ResponseParts Fault → Result Outcome Fault
outcome_of (Ok response) = Ok (outcome.Response response)
outcome_of (Err fault) = Err fault

-- of a message whose reply a fault broke off, once its head had gone out
pub record IsBrokenOff (users : List ℕ → Option ℕ) (old new : Status) (message : MessageParts) (moment : ℕ) (fault : Fault) (bytes : List ℕ) : Type 0 where
  pub report : IsOkAnd (request_of users moment message) (λ r. IsReport r.asked)
  pub kept : Keeps old new (Some fault)
  pub cause : Tells old new (λ w. RoseBy 1 old.fault_count new.fault_count)
  pub headed : HasHead message bytes
  pub allowed : Tells old new (λ w. IsOkAnd (request_of users moment message) (λ r. first w r ≡ None))
  pub begun : Tells old new (λ w. BeginsWith (reply_to users w (record { message = message; moment = moment; mark = None })) bytes)

-- Its response, or the fault that takes its place, is still to be written; or it is answered by a report, and so much of that went out.
abbrev pub IsDone : (List ℕ → Option ℕ) → Status → Status → Option (List ℕ) → Option (List ℕ) → MessageParts → ℕ → Result Outcome Fault → Type 0
IsDone users old new before after m moment (Err fault) = IsHandled users old new (record { message = m; moment = moment; mark = Some fault }) (λ response. faulted_parts fault ≡ response)
IsDone users old new before after m moment (Ok (outcome.Response stated)) = IsHandled users old new (record { message = m; moment = moment; mark = None }) (λ response. stated ≡ response)
IsDone users old new before after m moment (Ok (outcome.Report sent.Whole)) =
    (bytes : List ℕ) × Appends before after bytes × IsHandled users old new (record { message = m; moment = moment; mark = None }) (λ response. IsWhole (framed m response) bytes)
IsDone users old new before after m moment (Ok (outcome.Report sent.Stopped)) =
    (bytes : List ℕ) × Appends before after bytes × IsHandled users old new (record { message = m; moment = moment; mark = None }) (λ response. BeginsWith (framed m response) bytes)
IsDone users old new before after m moment (Ok (outcome.Report (sent.Broken fault))) =
    (bytes : List ℕ) × Appends before after bytes × IsBrokenOff users old new m moment fault bytes

-- From what a request comes to to what its message does.
use Rattle.std.proofs.Common.{◌≡◌, ◌⊎◌, ◌≤◌, ℕ, inl, inr, List, [], Option, Some, None, Result, Ok, Err, IfOk, IsNone, IsOkAnd, IsOkUnless, IsSome, refl, sym, ap, subst}
use Rattle.bank_terms.specs.Limits.{max_moment}
use Rattle.bank_terms.specs.declared.rule.Rule.{Rule}
use Rattle.bank_books.specs.WorldLists.{WorldLists}
use Rattle.http_heads.specs.declared.fault.MessageFault.{MessageFault}
use Rattle.money.specs.declared.fault.Fault.{Fault}
use Rattle.money.specs.declared.fault.Fault.TheVariants.{Memory}
use Rattle.http_messages.specs.Parts.{MessageParts}
use Rattle.store_rows.specs.Status.{Answers, Status, Tells, after_mark, mark_of}
use Rattle.bank_meaning.specs.Meaning.{ReplyText}
use Rattle.bank_meaning.specs.Requests.{first}
use Rattle.bank_meaning.specs.Run.{step, world_after}
use Rattle.bank_meaning.specs.declared.request.Request.{Request}
use Rattle.decide.specs.OneRequest.{LeavesBoth, Settles}
use Rattle.requests.specs.Request.{IsReport, request_of}
use Rattle.reports.specs.Report.{BeginsWith}
use Rattle.reports.proofs.StatusLemmas.{keeps_memory, keeps_still}
use Rattle.money.specs.declared.tallied.Tallied.{Tallied}
use Rattle.counter_api.specs.CarriedOut.{IsCarried, IsCarriedOut, IsSent, KeepsWriter}
use Rattle.counter_api.specs.Handled.{IsDone, outcome_of}
use Rattle.counter_api.specs.Response.{ResponseParts, faulted_parts}
use Rattle.counter_api.specs.Run.{FindsRoom, IsHandled, IsResponse, IsWhole, MayBear, RefusesRequest, framed, marked, pending_after, response_to}
use Rattle.counter_api.specs.declared.counter.Outcome.{Outcome}
use Rattle.counter_api.specs.declared.counter.Outcome.TheVariants as outcome
use Rattle.counter_api.specs.declared.sent.Sent.TheVariants as sent

-- a response as an outcome, whatever the message is
pub outcome_reported : (old new : Status) (before after : Option (List ℕ)) (m : MessageParts) (r : Request) (response : Result ResponseParts Fault) → IsCarriedOut IsResponse old new r response
    → IsCarried old new before after m r (outcome_of response)
outcome_reported old new before after m r (Ok response) done = done
outcome_reported old new before after m r (Err fault) done = done

-- which marks it may bear
bears : {A : Type 0} (r : Request) (result : Result A Fault) → (IsNone r.who.user → IsOkUnless result Memory) → MayBear (Ok r) (mark_of result)
bears r (Ok a) stranger nobody = inl refl
bears r (Err fault) stranger nobody = inr (ap (λ f. Some f) (stranger nobody))

-- what a crash may leave
leaves : (old new : Status) (r : Request) (mark : Option Fault) → LeavesBoth old new r → Settles old new r mark
    → Tells old new (λ w. (left : WorldLists) → new.may_leave left → (left ≡ after_mark mark (step w r) w) ⊎ pending_after old.may_leave w (Ok r) mark left)
leaves old new r None both settles clean w held left may = elim (settles refl clean w held) [
  | inl alone ↦ inl (alone left may)
  | inr rests ↦ inr (rests.0, rests.1 left may)
]
leaves old new r (Some fault) both settles clean w held left may = inr (both clean w held left may)

module _ (users : List ℕ → Option ℕ) (old new : Status) (m : MessageParts) (moment : ℕ) (r : Request) (is : request_of users moment m ≡ Ok r) (in_time : moment ≤ max_moment) where
  handles : {A : Type 0} (says : Result ReplyText Rule → A → Type 0) (P : ResponseParts → Type 0) (result : Result A Fault) → IsCarriedOut says old new r result
      → Tells old new (λ w. P (response_to w (Ok r) (mark_of result)))
      → IsHandled users old new (record { message = m; moment = moment; mark = mark_of result }) P
  handles says P result d replied = record {
    bears = subst (λ (s : Result Request MessageFault). MayBear s (mark_of result)) (sym is) (bears r result d.stranger);
    timely = in_time;
    answers = d.answers;
    refused = subst (λ (s : Result Request MessageFault). IfOk s (λ q. IsSome q.who.user → RefusesRequest old.is_stopped (mark_of result))) (sym is) d.refused;
    moved = λ clean w held. subst (λ (s : Result Request MessageFault). new.holds (world_after w (marked s (mark_of result) []))) (sym is) (d.moved clean w held);
    replied = λ clean w held. subst (λ (s : Result Request MessageFault). P (response_to w s (mark_of result))) (sym is) (replied clean w held);
    room = λ clean w held. subst (λ (s : Result Request MessageFault). IfOk s (λ q. FindsRoom q (mark_of result) w)) (sym is) (d.room clean w held);
    leaves = λ clean w held left may.
        subst (λ (s : Result Request MessageFault). (left ≡ world_after w (marked s (mark_of result) [])) ⊎ pending_after old.may_leave w s (mark_of result) left) (sym is)
        (leaves old new r (mark_of result) d.crash d.settled clean w held left may);
    whole = d.whole;
  }

  pub done : (before after : Option (List ℕ)) (result : Result Outcome Fault) → IsCarried old new before after m r result → IsDone users old new before after m moment result
  done before after (Err fault) d = handles IsResponse (λ response. faulted_parts fault ≡ response) (Err fault) d (λ clean w held. refl)
  done before after (Ok (outcome.Response stated)) d = handles IsResponse (λ response. stated ≡ response) (Ok stated) d d.replied
  done before after (Ok (outcome.Report sent.Whole)) (bytes, out, d) =
      (bytes, out, handles (IsSent IsWhole m) (λ response. IsWhole (framed m response) bytes) (Ok bytes) d d.replied)
  done before after (Ok (outcome.Report sent.Stopped)) (bytes, out, d) =
      (bytes, out, handles (IsSent BeginsWith m) (λ response. BeginsWith (framed m response) bytes) (Ok bytes) d d.replied)
  done before after (Ok (outcome.Report (sent.Broken fault))) (bytes, out, d) = (
    bytes,
    out,
    record {
      report = subst (λ (s : Result Request MessageFault). IsOkAnd s (λ q. IsReport q.asked)) (sym is) d.report;
      kept = d.kept;
      cause = d.cause;
      headed = d.headed;
      allowed = λ clean w held. subst (λ (s : Result Request MessageFault). IsOkAnd s (λ q. first w q ≡ None)) (sym is) (d.allowed clean w held);
      begun = λ clean w held. subst (λ (s : Result Request MessageFault). BeginsWith (framed m (response_to w s None)) bytes) (sym is) (d.begun clean w held);
    },
  )

-- nothing was written
pub writer_kept : {W : Type 0} (w : Tallied W) (response : Result ResponseParts Fault) → KeepsWriter w w (outcome_of response)
writer_kept w (Ok response) = refl
writer_kept w (Err fault) = refl

-- ---- memory for stating a request was refused

if_ok : {A E : Type 0} (r : Result A E) (P : A → Type 0) → ((a : A) → P a) → IfOk r P
if_ok (Ok a) P each = each a
if_ok (Err e) P each = tt

none_moved : (w : WorldLists) (stated : Result Request MessageFault) (fault : Fault) → world_after w (marked stated (Some fault) []) ≡ w
none_moved w (Ok r) fault = refl
none_moved w (Err other) fault = refl

fault_reported : (w : WorldLists) (stated : Result Request MessageFault) (fault : Fault) → faulted_parts fault ≡ response_to w stated (Some fault)
fault_reported w (Ok r) fault = refl
fault_reported w (Err other) fault = refl

still_pending : (may : WorldLists → Type 0) (w : WorldLists) (stated : Result Request MessageFault) (fault : Fault) (left : WorldLists) → may left → pending_after may w stated (Some fault) left
still_pending may w (Ok r) fault left is = inl is
still_pending may w (Err other) fault left is = is

pub kept_out : (users : List ℕ → Option ℕ) (s : Status) (m : MessageParts) (moment : ℕ) (fault : Fault) → moment ≤ max_moment → fault ≡ Memory
    → IsHandled users s s (record { message = m; moment = moment; mark = Some fault }) (λ response. faulted_parts fault ≡ response)
kept_out users s m moment fault in_time is =
    let stated : Result Request MessageFault = request_of users moment m in
    let wanted : Some fault ≡ Some Memory = ap (λ f. Some f) is in
    record {
      bears = λ nobody. inr wanted;
      timely = in_time;
      answers = subst (λ (f : Fault). Answers s s (Some f)) (sym is) (keeps_memory s s (keeps_still s)).answers;
      refused = if_ok stated (λ q. IsSome q.who.user → RefusesRequest s.is_stopped (Some fault)) (λ q known stopped. inr wanted);
      moved = λ clean w held. subst s.holds (sym (none_moved w stated fault)) held;
      replied = λ clean w held. fault_reported w stated fault;
      room = λ clean w held. if_ok stated (λ q. FindsRoom q (Some fault) w) (λ q accepted. cc);
      leaves = λ clean w held left may. inr (still_pending s.may_leave w stated fault left may);
      whole = λ clean w held before. before;
    }

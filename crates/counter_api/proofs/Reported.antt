-- What a request comes to that is answered by a report, from its decision to what went out of it.
use Rattle.std.proofs.Common.{◌≡◌, ℕ, true, inl, inr, List, Option, Some, None, Result, Ok, IsSome, IsTrue, sym, ap, subst, ◌∙◌}
use Rattle.bank_terms.specs.declared.rule.Rule.{Rule}
use Rattle.bank_books.specs.WorldLists.{WorldLists}
use Rattle.money.specs.declared.fault.Fault.{Fault}
use Rattle.money.specs.declared.fault.Fault.TheVariants.{Stopped}
use Rattle.http_messages.specs.Parts.{MessageParts}
use Rattle.store_rows.specs.Status.{Keeps, Status, Tells}
use Rattle.bank_meaning.specs.LastWord.{finds_room}
use Rattle.bank_meaning.specs.Meaning.{ReplyText, plain}
use Rattle.bank_meaning.specs.Requests.{effect, first, repeated, reply_text, verdict}
use Rattle.bank_meaning.specs.Run.{if_allowed, reply, step, stated, repeated_reply, unless_repeated}
use Rattle.bank_meaning.specs.declared.request.Request.{Request}
use Rattle.op_prepare.specs.Judged.{IsReported}
use Rattle.reports.specs.Report.{BeginsWith, IsCounted, text_of}
use Rattle.reports.specs.declared.contents.Contents.{Contents}
use Rattle.reports.proofs.StatusLemmas.{keeps_then}
use Rattle.requests.specs.Request.{IsReport}
use Rattle.counter_api.proofs.RunLemmas.{rose_then}
use Rattle.counter_api.specs.CarriedOut.{IsCarried, IsCarriedOut, IsSent}
use Rattle.counter_api.specs.Run.{IsWhole, framed, reply_parts}
use Rattle.counter_api.specs.Sent.{CountsBreak, IsStreamed, fault_of, report_reply, went}
use Rattle.counter_api.specs.declared.counter.Outcome.TheVariants as outcome
use Rattle.counter_api.specs.declared.sent.Sent.{Sent}
use Rattle.counter_api.specs.declared.sent.Sent.TheVariants as sent

module _ (w : WorldLists) (q : Request) (c : Contents) (fresh : repeated w q ≡ None) (is : IsReported w (verdict q w) c) where
  pub reply_is : reply w q ≡ Ok (plain (text_of w c))
  reply_is =
      ap (λ kept. repeated_reply kept (stated (first w q) (reply_text w q))) fresh
      ∙ ap (λ f. stated f (reply_text w q)) is.allowed
      ∙ ap (λ t. Ok t) (sym is.reply)

  pub step_is_none : step w q ≡ w
  step_is_none =
      ap (λ kept. unless_repeated kept (if_allowed (first w q) (effect w q) w) w) fresh
      ∙ ap (λ f. if_allowed f (effect w q) w) is.allowed
      ∙ is.same

-- a and e are the store before the decision and after what went out
module _ (a b e : Status) (before after : Option (List ℕ)) (m : MessageParts) (q : Request) (c : Contents)
    (kept : Keeps a b None) (reported : Tells a b (λ w. IsReported w (verdict q w) c)) (fresh : Tells a b (λ w. repeated w q ≡ None)) (room : (w : WorldLists) → finds_room w q.asked ≡ true)
    (refused : IsSome q.who.user → IsTrue a.is_stopped → None ≡ Some Stopped) (asks : IsReport q.asked) where
  -- what went out, of each World
  sent_is : (how : Sent) (bytes : List ℕ) → Keeps b e (fault_of how) → Tells b e (λ w. IsCounted w c → went how (report_reply m (text_of w c)) bytes)
      → Tells a e (λ w. went how (framed m (reply_parts (reply w q))) bytes)
  sent_is how bytes on out clean w held =
      let is = reported (on.answers.honest clean) w held in
      subst (λ (r : Result ReplyText Rule). went how (framed m (reply_parts r)) bytes) (sym (reply_is w q c (fresh (on.answers.honest clean) w held) is)) (out clean w (kept.kept w held) is.counted)

  carried : (says : List ℕ → List ℕ → Type 0) (bytes : List ℕ) → Keeps a e None → Tells a e (λ w. says (framed m (reply_parts (reply w q))) bytes) → Tells a e (λ w. step w q ≡ w)
      → IsCarriedOut (IsSent says m) a e q (Ok bytes)
  carried says bytes on out same = record {
    answers = on.answers;
    moved = λ clean w held. subst e.holds (sym (same clean w held)) (on.kept w held);
    replied = out;
    room = λ clean w held accepted. room w;
    crash = λ clean w held left may. inl (on.crash clean left may);
    whole = λ clean w held was. on.whole clean was;
    settled = λ none clean w held. inr (same clean w held, λ left may. on.crash clean left may);
    refused = λ known stopped. absurd (let no = refused known stopped in cc);
    stranger = λ nobody. tt;
  }

  same_step : (mark : Option Fault) → Keeps b e mark → Tells a e (λ w. step w q ≡ w)
  same_step mark on clean w held = step_is_none w q c (fresh (on.answers.honest clean) w held) (reported (on.answers.honest clean) w held)

  pub report_carried : (how : Sent) → IsStreamed b e before after m c how → CountsBreak b e c how → IsCarried a e before after m q (Ok (outcome.Report how))
  report_carried sent.Whole (on, bytes, out, headed, went_out) counts =
      (bytes, out, carried IsWhole bytes (keeps_then a b e None kept on) (sent_is sent.Whole bytes on went_out) (same_step None on))
  report_carried sent.Stopped (on, bytes, out, headed, went_out) counts =
      (bytes, out, carried BeginsWith bytes (keeps_then a b e None kept on) (sent_is sent.Stopped bytes on went_out) (same_step None on))
  report_carried (sent.Broken fault) (on, bytes, out, headed, went_out) counts = (
    bytes,
    out,
    record {
      report = asks;
      kept = keeps_then a b e (Some fault) kept on;
      cause = λ clean w held.
          let is = reported (on.answers.honest clean) w held in
          rose_then 0 1 a.fault_count b.fault_count e.fault_count kept.answers.counted (counts clean w (kept.kept w held) is.counted);
      headed = headed;
      allowed = λ clean w held. (reported (on.answers.honest clean) w held).allowed;
      begun = sent_is (sent.Broken fault) bytes on went_out;
    },
  )

-- What a request comes to that was decided, and carried out where it was allowed.
use Rattle.std.proofs.Common.{◌≡◌, ◌&&◌, ℕ, Bool, true, false, is_none, inl, inr, List, Option, None, Some, Result, Ok, Err, IfOk, OnOk, IsNone, IsSome, refl, ap, subst, sym, ◌∙◌, arith}
use Rattle.std.specs.Global.{Vec}
use Rattle.bank_terms.specs.declared.rule.Rule.{Rule}
use Rattle.bank_terms.specs.declared.rule.Rule.TheVariants.{Identity}
use Rattle.money.specs.declared.fault.Fault.{Fault}
use Rattle.money.specs.declared.fault.Fault.TheVariants.{Memory}
use Rattle.bank_books.specs.WorldLists.{WorldLists}
use Rattle.store_rows.specs.Status.{Answers, Keeps, Refuses, StaysWhole, Status, Tells, mark_of}
use Rattle.decide.specs.Permit.{CarriesOut, ChangesNothing, IsDenialOf, IsLeave, IsPermitOf, IsReplyOf, IsSettled, Makes}
use Rattle.bank_meaning.specs.LastWord.{finds_room}
use Rattle.bank_meaning.specs.Requests.{effect, executes, first, repeated, reply_text, verdict}
use Rattle.bank_meaning.specs.Run.{if_allowed, is_accepted, reply, step, stated, repeated_reply, unless_repeated}
use Rattle.decide.specs.declared.permit.Denial.{Denial}
use Rattle.decide.specs.declared.permit.Permit.{Permit}
use Rattle.decide.specs.declared.permit.Reply.{Reply}
use Rattle.decide.specs.declared.permit.Reply.TheVariants as answer
use Rattle.op_prepare.specs.Judged.{IsReported}
use Rattle.op_prepare.specs.declared.prepared.Ready.{Ready}
use Rattle.op_prepare.specs.declared.prepared.Ready.TheVariants as ready
use Rattle.reports.specs.declared.contents.Contents.{Contents}
use Rattle.bank_meaning.specs.Meaning.{json}
use Rattle.bank_meaning.specs.declared.request.Request.{Request}
use Rattle.decide.specs.OneRequest.{IsAnsweredInJson, LeavesBoth, Moves, Replies, Settles}
use Rattle.counter_api.specs.CarriedOut.{IsCarriedOut, IsResponded}
use Rattle.counter_api.specs.Response.{ResponseParts, done_parts}
use Rattle.counter_api.specs.Run.{FindsRoom, IsResponse, reply_parts}

-- what is ready changes nothing, where it is a report
pub nothing_changed : (a : Ready) (c : Contents) → a ≡ ready.Report c → ChangesNothing a
nothing_changed a c is = subst ChangesNothing (sym is) tt

module _ {S : Type 0} where
  -- the reply is this text, or a report of these contents
  abbrev pub IsText : Reply S → List ℕ → Type 0
  IsText (answer.Done d) body = body ≡ d.body.items
  IsText (answer.Report r) body = ⊥

  abbrev pub HasContents : Reply S → Contents → Type 0
  HasContents (answer.Done d) c = ⊥
  HasContents (answer.Report r) c = r.contents ≡ c

  -- the effect of what was permitted is the step of what was asked
  step_is : (w : WorldLists) (q : Request) (p : Permit S) → IsPermitOf w q p → effect w (executes p.execution) ≡ step w q
  step_is w q p permit =
      let x = executes p.execution in
      sym (ap (λ kept. unless_repeated kept (if_allowed (first w x) (effect w x) w) w) permit.leave.fresh ∙ ap (λ o. if_allowed o (effect w x) w) permit.leave.allowed)
      ∙ ap (step w) permit.asked

  -- and that is no repeat
  pub permit_fresh : (w : WorldLists) (q : Request) (p : Permit S) → IsPermitOf w q p → repeated w q ≡ None
  permit_fresh w q p permit = subst (λ r. repeated w r ≡ None) permit.asked permit.leave.fresh

  pub settles : (old mid new : Status) (q : Request) (p : Permit S) → Keeps old mid None → Tells old mid (λ w. IsPermitOf w q p) → CarriesOut mid new p None
      → (new.is_honest → (w : WorldLists) → IsLeave w p → mid.holds w → IsSettled mid new w p) → Settles old new q None
  settles old mid new q p kept decided carried settled none honest w holds =
      let before = carried.answers.honest honest in
      let permit = decided before w holds in
      let is = step_is w q p permit in
      elim (settled honest w permit.leave (kept.kept w holds)) [
        | inl alone ↦ inl (λ left may. alone left may ∙ is)
        | inr same ↦ inr (sym is ∙ same.0, λ left may. kept.crash before left (same.1 left may))
      ]

  -- ---- carried out, or not

  -- the World after it
  pub permit_moves : (old mid new : Status) (q : Request) (p : Permit S) → Keeps old mid None → Tells old mid (λ w. IsPermitOf w q p) → CarriesOut mid new p None → Moves old new q None
  permit_moves old mid new q p kept decided carried honest w holds =
      let permit = decided (carried.answers.honest honest) w holds in
      subst new.holds (step_is w q p permit) (carried.moved w permit.leave (kept.kept w holds))

  -- and what a crash may leave, whatever carrying it out came to
  pub permit_leaves : (old mid new : Status) (q : Request) (p : Permit S) (mark : Option Fault) → Keeps old mid None → Tells old mid (λ w. IsPermitOf w q p) → CarriesOut mid new p mark → LeavesBoth old new q
  permit_leaves old mid new q p mark kept decided carried honest w holds left may =
      let before = carried.answers.honest honest in
      let permit = decided before w holds in
      elim (carried.crash honest w left permit.leave (kept.kept w holds) may) [
        | inl was ↦ inl (kept.crash before left was)
        | inr is ↦ inr (is ∙ step_is w q p permit)
      ]

  -- where it came to a fault, the World is as it was
  pub permit_stays : (old mid new : Status) (q : Request) (p : Permit S) (fault : Fault) → Keeps old mid None → Tells old mid (λ w. IsPermitOf w q p) → CarriesOut mid new p (Some fault) → Moves old new q (Some fault)
  permit_stays old mid new q p fault kept decided carried honest w holds =
      let permit = decided (carried.answers.honest honest) w holds in
      carried.moved w permit.leave (kept.kept w holds)

  pub permit_whole : (old mid new : Status) (p : Permit S) (mark : Option Fault) → Keeps old mid None → CarriesOut mid new p mark → StaysWhole old new
  permit_whole old mid new p mark kept carried honest w holds was = carried.whole honest w (kept.kept w holds) (kept.whole (carried.answers.honest honest) was)

  -- ---- a text

  reply_is : (w : WorldLists) (q : Request) (p : Permit S) → IsPermitOf w q p → reply w q ≡ Ok (reply_text w (executes p.execution))
  reply_is w q p permit =
      let x = executes p.execution in
      ap (reply w) (sym permit.asked)
      ∙ ap (λ kept. repeated_reply kept (stated (first w x) (reply_text w x))) permit.leave.fresh
      ∙ ap (λ f. stated f (reply_text w x)) permit.leave.allowed

  pub done_reported : (old mid new : Status) (q : Request) (p : Permit S) (r : Reply S) (body : List ℕ) → Keeps old mid None → Tells old mid (λ w. IsPermitOf w q p) → CarriesOut mid new p None
      → IsReplyOf p.ready r → IsText r body → Tells old new (λ w. done_parts (json body) ≡ reply_parts (reply w q))
  done_reported old mid new q p r body kept decided carried stated text honest w holds =
      let permit = decided (carried.answers.honest honest) w holds in
      ap done_parts (go p.ready r permit.leave.makes stated text) ∙ sym (ap reply_parts (reply_is w q p permit))
    where
      go : (a : Ready) (r : Reply S) → Makes w (verdict (executes p.execution) w) a → IsReplyOf a r → IsText r body → json body ≡ reply_text w (executes p.execution)
      go (ready.Change c) (answer.Done d) makes stated text = ap json (text ∙ stated) ∙ makes.1
      go (ready.Change c) (answer.Report d) makes stated text = absurd text
      go (ready.Report c) (answer.Done d) makes stated text = absurd stated
      go (ready.Report c) (answer.Report d) makes stated text = absurd text

  -- ---- a report

  -- what was ready is a report, where the reply is one
  pub ready_is : (a : Ready) (r : Reply S) (c : Contents) → IsReplyOf a r → HasContents r c → a ≡ ready.Report c
  ready_is (ready.Change p) (answer.Done d) c stated has = absurd has
  ready_is (ready.Change p) (answer.Report d) c stated has = absurd stated
  ready_is (ready.Report x) (answer.Done d) c stated has = absurd has
  ready_is (ready.Report x) (answer.Report d) c stated has = ap ready.Report (sym stated ∙ has)

  pub permit_reported : (w : WorldLists) (q : Request) (p : Permit S) (c : Contents) → p.ready ≡ ready.Report c → IsPermitOf w q p → IsReported w (verdict q w) c
  permit_reported w q p c is permit =
      let makes : Makes w (verdict (executes p.execution) w) (ready.Report c) = subst (Makes w (verdict (executes p.execution) w)) is permit.leave.makes in
      subst (λ (r : Request). IsReported w (verdict r w) c) permit.asked (record { allowed = permit.leave.allowed; same = makes.0; reply = makes.1; counted = makes.2 })

-- a request that a rule denies leaves the World
pub denied_stays : (w : WorldLists) (r : Request) (rule : Rule) → reply w r ≡ Err rule → step w r ≡ w
denied_stays w r rule = go (repeated w r) (first w r)
  where
    go : (kept : Option (List ℕ)) (o : Option Rule) → repeated_reply kept (stated o (reply_text w r)) ≡ Err rule → unless_repeated kept (if_allowed o (effect w r) w) w ≡ w
    go None None is = absurd cc
    go None (Some denies) is = refl
    go (Some bytes) o is = refl

-- a request that a rule denies is not accepted
not_accepted : (w : WorldLists) (r : Request) (rule : Rule) (mark : Option Fault) → reply w r ≡ Err rule → is_accepted w (record { request = r; mark = mark }) ≡ true → ⊥
not_accepted w r rule mark = go (repeated w r) (first w r) (is_none mark)
  where
    go : (kept : Option (List ℕ)) (o : Option Rule) (unmarked : Bool) → repeated_reply kept (stated o (reply_text w r)) ≡ Err rule → (unmarked && (is_none kept && is_none o)) ≡ true → ⊥
    go (Some bytes) o unmarked is accepted = absurd cc
    go None None unmarked is accepted = absurd cc
    go None (Some denies) true is accepted = absurd cc
    go None (Some denies) false is accepted = absurd cc

-- what is replied to one that is denied, and what a repeat leaves and is replied
pub denial_replied : (w : WorldLists) (r : Request) (rule : Rule) → repeated w r ≡ None → first w r ≡ Some rule → reply w r ≡ Err rule
denial_replied w r rule fresh is = ap (λ kept. repeated_reply kept (stated (first w r) (reply_text w r))) fresh ∙ ap (λ o. stated o (reply_text w r)) is

pub repeat_stays : (w : WorldLists) (r : Request) (bytes : List ℕ) → repeated w r ≡ Some bytes → step w r ≡ w
repeat_stays w r bytes is = ap (λ kept. unless_repeated kept (if_allowed (first w r) (effect w r) w) w) is

pub repeat_replied : (w : WorldLists) (r : Request) (bytes : List ℕ) → repeated w r ≡ Some bytes → reply w r ≡ Ok (json bytes)
repeat_replied w r bytes is = ap (λ kept. repeated_reply kept (stated (first w r) (reply_text w r))) is

-- so nothing is asked of one that is denied
pub denied_finds : (old new : Status) (r : Request) (rule : Rule) (mark : Option Fault) → Tells old new (λ w. reply w r ≡ Err rule) → Tells old new (FindsRoom r mark)
denied_finds old new r rule mark denied honest w holds accepted = absurd (not_accepted w r rule mark (denied honest w holds) accepted)

-- What deciding a request says of its store and of what it returned, where it was carried out or denied in one call.
pub record IsDecided (old new : Status) (r : Request) (made : Result (Result (Vec ℕ) Rule) Fault) : Type 0 where
  pub answers : Answers old new (mark_of made)
  pub moved : Moves old new r (mark_of made)
  pub replied : Replies old new r IsAnsweredInJson made
  pub crash : LeavesBoth old new r
  pub whole : StaysWhole old new
  pub settled : Settles old new r (mark_of made)
  pub refused : IsSome r.who.user → Refuses old (mark_of made)
  pub stranger : IsNone r.who.user → made ≡ Ok (Err Identity)

-- want of memory for a reply is no fault of the store
forgotten : (old new : Status) → Answers old new None → Answers old new (Some Memory)
forgotten old new a = record {
  honest = a.honest;
  state = a.state;
  was_stopped = λ is. cc;
  counted = a.counted;
  no_more = let none = a.no_more in omega arith;
  failed = a.failed;
}

-- so much is said where a rule denies it, and memory is refused for the text of that
pub denial_forgotten : {S : Type 0} (old new : Status) (r : Request) (d : Denial S) → Keeps old new None → Tells old new (λ w. IsDenialOf w r d) → IsCarriedOut IsResponse old new r (Err Memory)
denial_forgotten old new r d kept denied = record {
  answers = forgotten old new kept.answers;
  moved = λ honest w holds. kept.kept w holds;
  replied = λ honest w holds. tt;
  room = denied_finds old new r d.rule (Some Memory) (λ honest w holds. denial_replied w r d.rule (denied honest w holds).fresh (denied honest w holds).first);
  crash = λ honest w holds left may. inl (kept.crash honest left may);
  whole = λ honest w holds was. kept.whole honest was;
  settled = λ none. cc;
  refused = λ known stopped. inr refl;
  stranger = λ nobody. refl;
}

-- so much is said of the response to it
pub responds : (old new : Status) (r : Request) (made : Result (Result (Vec ℕ) Rule) Fault) (response : Result ResponseParts Fault)
    → IsDecided old new r made
    → Tells old new (λ w. IfOk made (λ done. OnOk done (finds_room w r.asked ≡ true))) → IsResponded made response → IsCarriedOut IsResponse old new r response
responds old new r (Ok (Ok text)) response d room is = rw is (record {
  answers = d.answers;
  moved = d.moved;
  replied = λ honest w holds. sym (ap reply_parts (d.replied honest w holds));
  room = λ honest w holds accepted. room honest w holds;
  crash = d.crash;
  whole = d.whole;
  settled = d.settled;
  refused = λ known stopped. inl (d.refused known stopped);
  stranger = λ nobody. tt;
})
responds old new r (Ok (Err rule)) response d room is = elim is [
  | inl denied ↦ rw denied (record {
    answers = d.answers;
    moved = d.moved;
    replied = λ honest w holds. sym (ap reply_parts (d.replied honest w holds));
    room = denied_finds old new r rule None d.replied;
    crash = d.crash;
    whole = d.whole;
    settled = d.settled;
    refused = λ known stopped. inl (d.refused known stopped);
    stranger = λ nobody. tt;
  })
  | inr failed ↦ rw failed (record {
    answers = forgotten old new d.answers;
    moved = λ honest w holds. subst new.holds (denied_stays w r rule (d.replied honest w holds)) (d.moved honest w holds);
    replied = λ honest w holds. tt;
    room = denied_finds old new r rule (Some Memory) d.replied;
    crash = d.crash;
    whole = d.whole;
    settled = λ none. cc;
    refused = λ known stopped. inr refl;
    stranger = λ nobody. refl;
  })
]
responds old new r (Err fault) response d room is = rw is (record {
  answers = d.answers;
  moved = d.moved;
  replied = λ honest w holds. tt;
  room = λ honest w holds accepted. cc;
  crash = d.crash;
  whole = d.whole;
  settled = λ none. cc;
  refused = λ known stopped. inl (d.refused known stopped);
  stranger = λ nobody.
      let same : Err fault ≡ Ok (Err Identity) = d.stranger nobody in
      cc;
})

-- what holds of whatever was done
pub of_done : {A B E : Type 0} {P Q : Type 0} (made : Result (Result A B) E) → (P → Q) → IfOk made (λ done. OnOk done P) → IfOk made (λ done. OnOk done Q)
of_done (Ok (Ok done)) then p = then p
of_done (Ok (Err rule)) then p = tt
of_done (Err fault) then p = tt

pub always : {A B E : Type 0} {P : Type 0} (made : Result (Result A B) E) → P → IfOk made (λ done. OnOk done P)
always (Ok (Ok done)) p = p
always (Ok (Err rule)) p = tt
always (Err fault) p = tt

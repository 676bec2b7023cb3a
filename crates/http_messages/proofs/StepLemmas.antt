-- What a step says, from what its calls say.
use Rattle.std.proofs.Common.{◌≡◌, ℕ, ◌+◌, ◌-◌, ◌≤◌, Bool, List, ◌++◌, length, length-drop, take, drop, Result, Ok, Err, IfOk, IfErr, refl, sym, ap, ◌∙◌, subst, arith, append_assoc, inl, inr}
use Rattle.std.proofs.lemmas.List.{length-take-le, take-append-drop}
use Rattle.std.proofs.Math.Seq.{drop-drop}
use Rattle.std.specs.Io.KnownBytes.{Appends}
use Rattle.money.specs.Counted.{AppendsBeginning}
use Rattle.httparse.specs.declared.spans.HeaderSpan.{HeaderSpan}
use Rattle.httparse.specs.declared.spans.RequestSpans.{RequestSpans}
use Rattle.httparse.specs.Grammar.{RequestHead, print_request}
use Rattle.http_heads.specs.declared.fault.MessageFault.{MessageFault}
use Rattle.http_heads.specs.Framing.{asks_head, closes}
use Rattle.http_heads.specs.Parts.{HeadParts, parts_of}
use Rattle.http_messages.specs.declared.engine.AnswerFault.{AnswerFault}
use Rattle.http_messages.specs.declared.engine.AnswerFault.TheVariants.{Write, Report}
use Rattle.http_messages.specs.declared.step.Step.{Step}
use Rattle.http_messages.specs.declared.step.Step.TheVariants.{Answered, Closed, Waiting}
use Rattle.http_messages.specs.Answered.{IsAnswered}
use Rattle.http_messages.specs.Inbox.{max_message_len}
use Rattle.http_messages.specs.Next.{BeginsMessage, BeginsFaulty}
use Rattle.http_messages.specs.Parts.{MessageParts}
use Rattle.http_messages.specs.Refusal.{IsRefused, refusal_bytes}
use Rattle.http_messages.specs.Step.{AnswersFirst, HandsOn, IsStep, Side}

-- the bytes are the message and what follows it
split_message : (bytes : List ℕ) (h : RequestHead) (len n : ℕ) → bytes ≡ print_request h ++ drop len bytes
    → bytes ≡ (print_request h ++ take n (drop len bytes)) ++ drop (len + n) bytes
split_message bytes h len n whole =
    let follows : drop len bytes ≡ take n (drop len bytes) ++ drop (len + n) bytes =
    sym (take-append-drop n (drop len bytes)) ∙ ap (λ l. take n (drop len bytes) ++ l) (drop-drop n len bytes) in
    whole ∙ ap (λ l. print_request h ++ l) follows ∙ sym (append_assoc (print_request h) (take n (drop len bytes)) (drop (len + n) bytes))

-- the parts of the message that the bytes begin with
abbrev pub begun_parts : (bytes : List ℕ) (headers : List HeaderSpan) (r : RequestSpans) (n : ℕ) → BeginsMessage bytes headers r n → MessageParts
begun_parts bytes headers r n b = record { head = parts_of b.head; body = take n (drop r.len bytes) }

-- those that an engine is handed
pub handed_parts : (bytes : List ℕ) (headers : List HeaderSpan) (r : RequestSpans) (n : ℕ) (head : HeadParts) (body : List ℕ) → (b : BeginsMessage bytes headers r n)
    → head ≡ parts_of b.head → body ≡ take ((r.len + n) - r.len) (drop r.len bytes) → record { head = head; body = body } ≡ begun_parts bytes headers r n b
handed_parts bytes headers r n head body b of is =
    let len : (r.len + n) - r.len ≡ n = omega arith in
    let whole = is ∙ ap (λ k. take k (drop r.len bytes)) len in
    λ i. record { head = of i; body = whole i }

module _ {S : Type 0} (way : S → MessageParts → List ℕ → S → Type 0) where
  handed : (old new : Side S) (headers : List HeaderSpan) (r : RequestSpans) (n : ℕ) (rest reply : List ℕ) → length old.held ≤ max_message_len
      → (b : BeginsMessage old.held headers r n) → rest ≡ drop (r.len + n) old.held → way old.engine (begun_parts old.held headers r n b) reply new.engine
      → HandsOn way old new rest reply
  handed old new headers r n rest reply within b follows answered =
      let fits : n ≤ length (drop r.len old.held) = omega (arith, b.whole, length-drop r.len old.held) in
      record {
        message = record { head = b.head; body = take n (drop r.len old.held) };
        split =
            split_message old.held b.head r.len n b.begins.covers.reads.1
            ∙ ap (λ l. (print_request b.head ++ take n (drop r.len old.held)) ++ l) (sym follows);
        is = record {
          head = b.begins.covers.reads.0;
          short = omega (arith, b.begins.short, b.begins.covers.len);
          sound = b.sound;
          body = length-take-le n (drop r.len old.held) fits ∙ b.body;
        };
        answered = answered;
        bounded = omega (arith, ap length follows, length-drop (r.len + n) old.held, within);
      }

module _ {S : Type 0} (answers stops breaks : S → MessageParts → List ℕ → S → Type 0) where
  pub step_answered : (ends : Bool) (old new : Side S) (headers : List HeaderSpan) (r : RequestSpans) (n : ℕ) (m : MessageParts) → length old.held ≤ max_message_len
      → (b : BeginsMessage old.held headers r n) → m ≡ begun_parts old.held headers r n b → new.held ≡ drop (r.len + n) old.held
      → IsAnswered answers stops breaks old.engine new.engine m old.written new.written (Ok tt) → closes m.head ≡ ends → AnswersFirst answers stops breaks ends old new
  unfolding handed
  step_answered ends old new headers r n m within b is follows (reply, one, wrote) closing = (
    reply,
    handed answers old new headers r n new.held reply within b follows (subst (λ p. answers old.engine p reply new.engine) is one),
    ap (λ p. closes p.head) (sym is) ∙ closing,
    wrote,
  )

  pub step_stopped : (old new : Side S) (headers : List HeaderSpan) (r : RequestSpans) (n : ℕ) (m : MessageParts) (f : AnswerFault) → length old.held ≤ max_message_len
      → (b : BeginsMessage old.held headers r n) → m ≡ begun_parts old.held headers r n b
      → IsAnswered answers stops breaks old.engine new.engine m old.written new.written (Err f) → IsStep answers stops breaks old new (Err f)
  step_stopped old new headers r n m Write within b is (reply, one, some) =
      (reply, some, inl (drop (r.len + n) old.held, handed stops old new headers r n _ reply within b refl (subst (λ p. stops old.engine p reply new.engine) is one)))
  step_stopped old new headers r n m Report within b is (begun, one, wrote) =
      (begun, wrote, drop (r.len + n) old.held, handed breaks old new headers r n _ begun within b refl (subst (λ p. breaks old.engine p begun new.engine) is one))

  pub step_refused : (old new : Side S) (fault : MessageFault) (head_only : Bool) (r : Result Step AnswerFault)
      → new.held ≡ old.held → new.engine ≡ old.engine → IsRefused new.held fault head_only
      → IfOk r (λ step. (step ≡ Closed) × Appends old.written new.written (refusal_bytes fault head_only))
      → IfErr r (λ f. (f ≡ Write) × AppendsBeginning old.written new.written (refusal_bytes fault head_only)) → IsStep answers stops breaks old new r
  step_refused old new fault head_only (Ok Closed) held engine refused ok err =
      inr (record { held = held; engine = engine }, refusal_bytes fault head_only, (fault, head_only, refused, refl), ok.1)
  step_refused old new fault head_only (Ok Answered) held engine refused ok err = let e = ok.0 in absurd cc
  step_refused old new fault head_only (Ok Waiting) held engine refused ok err = let e = ok.0 in absurd cc
  step_refused old new fault head_only (Err Write) held engine refused ok err =
      (refusal_bytes fault head_only, err.1, inr (record { held = held; engine = engine }, (fault, head_only, refused, refl)))
  step_refused old new fault head_only (Err Report) held engine refused ok err = let e = err.0 in absurd cc

-- a head that has a fault, where its spans begin the bytes
pub faulty_refused : (bytes : List ℕ) (headers : List HeaderSpan) (r : RequestSpans) (fault : MessageFault) (p : HeadParts) (head_only : Bool)
    → (b : BeginsFaulty bytes headers r fault) → p ≡ parts_of b.head → head_only ≡ asks_head p → IsRefused bytes fault head_only
faulty_refused bytes headers r fault p head_only b is asks =
    inr (b.head, drop r.len bytes, (b.begins.covers.reads, omega (arith, b.begins.short, b.begins.covers.len)), b.faulty, asks ∙ ap asks_head is)

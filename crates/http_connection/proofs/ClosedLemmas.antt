-- What a history says of a connection that is closing: what its last step put out, and all before it.
use Rattle.std.proofs.Common.{◌≡◌, ℕ, false, true, List, [], ◌∷◌, ◌++◌, All, Some, Result, Ok, Err, refl, sym, ap, subst, ◌∙◌, append-nil, append_assoc, take, flat_map, inl, inr}
use Rattle.std.proofs.lemmas.List.Elements.{All-cons, All-nil}
use Rattle.http_messages.specs.Exit.{AnswersAll, StaysOpen}
use Rattle.http_messages.specs.Parts.{MessageParts}
use Rattle.http_messages.specs.Step.{HandsOn, IsStep}
use Rattle.http_messages.specs.Whole.{IsMessage, WholeMessage, print_message}
use Rattle.http_messages.specs.declared.engine.AnswerFault.{AnswerFault}
use Rattle.http_messages.specs.declared.engine.AnswerFault.TheVariants as fault
use Rattle.http_messages.specs.declared.step.Step.{Step}
use Rattle.http_messages.specs.declared.step.Step.TheVariants as step
use Rattle.http_connection.specs.Connection.{closes_by, progress_of, side_of}
use Rattle.http_connection.specs.History.{Event, IsClosed, IsHistory, IsLast, came, came_of, ended, stepped, went, went_of, with_unsent}
use Rattle.http_connection.specs.Parts.{ConnectionParts, after_received, closed, opened}
use Rattle.http_connection.specs.declared.progress.Progress.{Progress}
use Rattle.http_connection.specs.declared.progress.Progress.TheVariants.{Answered, Closes, Waits}
use Rattle.http_connection.proofs.ServedLemmas.{some_same}

module _ {S : Type 0} (answers stops breaks : S → MessageParts → List ℕ → S → Type 0) where
  -- ---- the last step

  -- what it put out, by itself
  record IsAlone (c : ConnectionParts) (e : S) (d : ConnectionParts) (f : S) (r : Result Step AnswerFault) : Type 0 where
    pub out : List ℕ
    pub wrote : d.unsent ≡ c.unsent ++ out
    pub last : IsStep answers stops breaks (record { held = c.held; written = Some []; engine = e }) (record { held = d.held; written = Some out; engine = f }) r

  alone : (c d : ConnectionParts) (e f : S) (r : Result Step AnswerFault) → IsStep answers stops breaks (side_of c e) (side_of d f) r → progress_of r ≡ Closes → IsAlone c e d f r
  alone c d e f (Ok step.Answered) took closes = let x : Answered ≡ Closes = closes in absurd cc
  alone c d e f (Ok step.Waiting) took closes = let x : Waits ≡ Closes = closes in absurd cc
  alone c d e f (Ok step.Closed) (inl (reply, h, ends, wrote)) closes = record {
    out = reply;
    wrote = wrote;
    last = inl (reply, record { message = h.message; split = h.split; is = h.is; answered = h.answered; bounded = h.bounded }, ends, refl);
  }
  alone c d e f (Ok step.Closed) (inr (none, reply, refusal, wrote)) closes =
      record { out = reply; wrote = wrote; last = inr (record { held = none.held; engine = none.engine }, reply, refusal, refl) }
  alone c d e f (Err fault.Write) (reply, (n, fits, wrote), inl (rest, h)) closes = record {
    out = take n reply;
    wrote = wrote;
    last = (reply, (n, fits, refl), inl (rest, record { message = h.message; split = h.split; is = h.is; answered = h.answered; bounded = h.bounded }));
  }
  alone c d e f (Err fault.Write) (reply, (n, fits, wrote), inr (none, refusal)) closes =
      record { out = take n reply; wrote = wrote; last = (reply, (n, fits, refl), inr (record { held = none.held; engine = none.engine }, refusal)) }
  alone c d e f (Err fault.Report) (begun, wrote, rest, h) closes = record {
    out = begun;
    wrote = wrote;
    last = (begun, refl, rest, record { message = h.message; split = h.split; is = h.is; answered = h.answered; bounded = h.bounded });
  }

  -- ---- what happens after it

  record IsTail (c : ConnectionParts) (e : S) (events : List Event) (d : ConnectionParts) (f : S) : Type 0 where
    pub held : d.held ≡ c.held ++ came_of events
    pub sent : c.unsent ≡ went_of events ++ d.unsent
    pub same : f ≡ e

  tail_went : (c d : ConnectionParts) (e f : S) (bytes rest : List ℕ) (events : List Event) → c.unsent ≡ bytes ++ rest → IsTail (with_unsent rest c) e events d f → IsTail c e (went bytes ∷ events) d f
  tail_went c d e f bytes rest events is tail = record { held = tail.held; sent = is ∙ ap (λ l. bytes ++ l) tail.sent ∙ sym (append_assoc bytes (went_of events) d.unsent); same = tail.same }

  tail_came : (c d : ConnectionParts) (e f : S) (bytes : List ℕ) (events : List Event) → IsTail (after_received bytes c) e events d f → IsTail c e (came bytes ∷ events) d f
  tail_came c d e f bytes events tail = record { held = tail.held ∙ append_assoc c.held bytes (came_of events); sent = tail.sent; same = tail.same }

  tail_ended : (c d : ConnectionParts) (e f : S) (events : List Event) → IsTail (closed c) e events d f → IsTail c e (ended ∷ events) d f
  tail_ended c d e f events tail = record { held = tail.held; sent = tail.sent; same = tail.same }

  tail_of : (c d : ConnectionParts) (e f : S) (events : List Event) → IsHistory answers stops breaks c e events d f → c.is_closing ≡ true → IsTail c e events d f
  tail_of c d e f [] (is, same) closing =
      record { held = ap (λ (x : ConnectionParts). x.held) is ∙ sym (append-nil c.held); sent = ap (λ (x : ConnectionParts). x.unsent) (sym is); same = same }
  tail_of c d e f (came bytes ∷ events) history closing = tail_came c d e f bytes events (tail_of (after_received bytes c) d e f events history closing)
  tail_of c d e f (stepped p ∷ events) (mid, at, open_still, answered, history) closing = let x : true ≡ false = sym closing ∙ open_still in absurd cc
  tail_of c d e f (went bytes ∷ events) (rest, is, history) closing = tail_went c d e f bytes rest events is (tail_of (with_unsent rest c) d e f events history closing)
  tail_of c d e f (ended ∷ events) history closing = tail_ended c d e f events (tail_of (closed c) d e f events history refl)

  -- ---- from any state on

  record IsDone (c : ConnectionParts) (e : S) (events : List Event) (d : ConnectionParts) (f : S) : Type 0 where
    pub messages : List WholeMessage
    pub replies : List ℕ
    pub first : List ℕ
    pub later : List ℕ
    pub all : came_of events ≡ first ++ later
    pub held : List ℕ
    pub at : S
    pub splits : c.held ++ first ≡ flat_map print_message messages ++ held
    pub each : All IsMessage messages
    pub lasting : All StaysOpen messages
    pub answered : AnswersAll answers e messages replies at
    pub rest : List ℕ
    pub out : List ℕ
    pub last : IsLast answers stops breaks held at rest out f
    pub kept : d.held ≡ rest ++ later
    pub sent : c.unsent ++ (replies ++ out) ≡ went_of events ++ d.unsent

  done_last : (c mid d : ConnectionParts) (e at f : S) (p : Progress) (events : List Event) (r : Result Step AnswerFault) → IsStep answers stops breaks (side_of c e) (side_of mid at) r → progress_of r ≡ Closes
      → IsTail mid at events d f → IsDone c e (stepped p ∷ events) d f
  done_last c mid d e at f p events r took closes tail =
      let a = alone c mid e at r took closes in
      record {
        messages = [];
        replies = [];
        first = [];
        later = came_of events;
        all = refl;
        held = c.held;
        at = e;
        splits = append-nil c.held;
        each = All-nil IsMessage;
        lasting = All-nil StaysOpen;
        answered = (refl, refl);
        rest = mid.held;
        out = a.out;
        last = inl (r, closes, subst (λ (s : S). IsStep answers stops breaks (record { held = c.held; written = Some []; engine = e }) (record { held = mid.held; written = Some a.out; engine = s }) r) (sym tail.same) a.last);
        kept = tail.held;
        sent = sym a.wrote ∙ tail.sent;
      }

  done_ended : (c d : ConnectionParts) (e f : S) (events : List Event) → IsTail (closed c) e events d f → IsDone c e (ended ∷ events) d f
  done_ended c d e f events tail = record {
    messages = [];
    replies = [];
    first = [];
    later = came_of events;
    all = refl;
    held = c.held;
    at = e;
    splits = append-nil c.held;
    each = All-nil IsMessage;
    lasting = All-nil StaysOpen;
    answered = (refl, refl);
    rest = c.held;
    out = [];
    last = inr (refl, refl, tail.same);
    kept = tail.held;
    sent = append-nil c.unsent ∙ tail.sent;
  }

  done_came : (c d : ConnectionParts) (e f : S) (bytes : List ℕ) (events : List Event) → IsDone (after_received bytes c) e events d f → IsDone c e (came bytes ∷ events) d f
  done_came c d e f bytes events so = record {
    messages = so.messages;
    replies = so.replies;
    first = bytes ++ so.first;
    later = so.later;
    all = ap (λ l. bytes ++ l) so.all ∙ sym (append_assoc bytes so.first so.later);
    held = so.held;
    at = so.at;
    splits = sym (append_assoc c.held bytes so.first) ∙ so.splits;
    each = so.each;
    lasting = so.lasting;
    answered = so.answered;
    rest = so.rest;
    out = so.out;
    last = so.last;
    kept = so.kept;
    sent = so.sent;
  }

  done_went : (c d : ConnectionParts) (e f : S) (bytes rest : List ℕ) (events : List Event) → c.unsent ≡ bytes ++ rest → IsDone (with_unsent rest c) e events d f → IsDone c e (went bytes ∷ events) d f
  done_went c d e f bytes rest events is so = record {
    messages = so.messages;
    replies = so.replies;
    first = so.first;
    later = so.later;
    all = so.all;
    held = so.held;
    at = so.at;
    splits = so.splits;
    each = so.each;
    lasting = so.lasting;
    answered = so.answered;
    rest = so.rest;
    out = so.out;
    last = so.last;
    kept = so.kept;
    sent = ap (λ l. l ++ (so.replies ++ so.out)) is ∙ append_assoc bytes rest (so.replies ++ so.out) ∙ ap (λ l. bytes ++ l) so.sent ∙ sym (append_assoc bytes (went_of events) d.unsent);
  }

  done_waits : (c mid d : ConnectionParts) (e at f : S) (p : Progress) (events : List Event) → mid.held ≡ c.held → mid.unsent ≡ c.unsent → at ≡ e → IsDone mid at events d f → IsDone c e (stepped p ∷ events) d f
  done_waits c mid d e at f p events held unsent same so = record {
    messages = so.messages;
    replies = so.replies;
    first = so.first;
    later = so.later;
    all = so.all;
    held = so.held;
    at = so.at;
    splits = ap (λ l. l ++ so.first) (sym held) ∙ so.splits;
    each = so.each;
    lasting = so.lasting;
    answered = subst (λ (s : S). AnswersAll answers s so.messages so.replies so.at) same so.answered;
    rest = so.rest;
    out = so.out;
    last = so.last;
    kept = so.kept;
    sent = ap (λ l. l ++ (so.replies ++ so.out)) (sym unsent) ∙ so.sent;
  }

  done_answered : (c mid d : ConnectionParts) (e at f : S) (p : Progress) (events : List Event) (reply : List ℕ) → (h : HandsOn answers (side_of c e) (side_of mid at) mid.held reply) → StaysOpen h.message
      → mid.unsent ≡ c.unsent ++ reply → IsDone mid at events d f → IsDone c e (stepped p ∷ events) d f
  done_answered c mid d e at f p events reply h lasts wrote so = record {
    messages = h.message ∷ so.messages;
    replies = reply ++ so.replies;
    first = so.first;
    later = so.later;
    all = so.all;
    held = so.held;
    at = so.at;
    splits = ap (λ l. l ++ so.first) h.split ∙ append_assoc (print_message h.message) mid.held so.first ∙ ap (λ l. print_message h.message ++ l) so.splits
        ∙ sym (append_assoc (print_message h.message) (flat_map print_message so.messages) so.held);
    each = All-cons IsMessage h.message so.messages h.is so.each;
    lasting = All-cons StaysOpen h.message so.messages lasts so.lasting;
    answered = (at, reply, so.replies, h.answered, refl, so.answered);
    rest = so.rest;
    out = so.out;
    last = so.last;
    kept = so.kept;
    sent = ap (λ l. c.unsent ++ l) (append_assoc reply so.replies so.out) ∙ sym (append_assoc c.unsent reply (so.replies ++ so.out)) ∙ ap (λ l. l ++ (so.replies ++ so.out)) (sym wrote) ∙ so.sent;
  }

  done_stepped : (c mid d : ConnectionParts) (e at f : S) (p : Progress) (events : List Event) (r : Result Step AnswerFault) → IsStep answers stops breaks (side_of c e) (side_of mid at) r → p ≡ progress_of r
      → mid.is_closing ≡ closes_by p → IsHistory answers stops breaks mid at events d f → (mid.is_closing ≡ false → IsDone mid at events d f) → IsDone c e (stepped p ∷ events) d f
  done_stepped c mid d e at f p events (Ok step.Answered) (reply, h, lasts, wrote) is closing history so = done_answered c mid d e at f p events reply h lasts wrote (so (closing ∙ ap closes_by is))
  done_stepped c mid d e at f p events (Ok step.Waiting) (none, part, less, kept) is closing history so =
      done_waits c mid d e at f p events none.held (some_same mid.unsent c.unsent kept) none.engine (so (closing ∙ ap closes_by is))
  done_stepped c mid d e at f p events (Ok step.Closed) took is closing history so = done_last c mid d e at f p events (Ok step.Closed) took refl (tail_of mid d at f events history (closing ∙ ap closes_by is))
  done_stepped c mid d e at f p events (Err cause) took is closing history so = done_last c mid d e at f p events (Err cause) took refl (tail_of mid d at f events history (closing ∙ ap closes_by is))

  done_all : (c d : ConnectionParts) (e f : S) (events : List Event) → IsHistory answers stops breaks c e events d f → c.is_closing ≡ false → d.is_closing ≡ true → IsDone c e events d f
  done_all c d e f [] (is, same) open_still closing = let x : true ≡ false = sym closing ∙ ap (λ (y : ConnectionParts). y.is_closing) is ∙ open_still in absurd cc
  done_all c d e f (came bytes ∷ events) history open_still closing = done_came c d e f bytes events (done_all (after_received bytes c) d e f events history open_still closing)
  done_all c d e f (stepped p ∷ events) (mid, at, was_open, a, history) open_still closing =
      done_stepped c mid d e at f p events a.step a.is a.so a.closing history (λ still. done_all mid d at f events history still closing)
  done_all c d e f (went bytes ∷ events) (rest, is, history) open_still closing = done_went c d e f bytes rest events is (done_all (with_unsent rest c) d e f events history open_still closing)
  done_all c d e f (ended ∷ events) history open_still closing = done_ended c d e f events (tail_of (closed c) d e f events history refl)

  -- from its beginning on
  pub closed_at_last : (d : ConnectionParts) (e f : S) (events : List Event) → IsHistory answers stops breaks opened e events d f → d.is_closing ≡ true
      → IsClosed answers stops breaks (came_of events) (went_of events) e d f
  closed_at_last d e f events history closing =
      let so = done_all opened d e f events history refl closing in
      record {
        messages = so.messages;
        replies = so.replies;
        first = so.first;
        later = so.later;
        all = so.all;
        held = so.held;
        at = so.at;
        splits = record { whole = so.splits; each = so.each };
        lasting = so.lasting;
        answered = so.answered;
        rest = so.rest;
        out = so.out;
        last = so.last;
        kept = so.kept;
        sent = so.sent;
      }

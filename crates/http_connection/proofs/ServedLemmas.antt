-- What a history says of the messages among the bytes that came, and of the replies among those that went out.
use Rattle.std.proofs.Common.{◌≡◌, ℕ, false, true, List, [], ◌∷◌, ◌++◌, All, Some, Result, Ok, Err, refl, sym, ap, subst, ◌∙◌, append-nil, append_assoc, flat_map}
use Rattle.std.specs.Prelude.{unwrap_or}
use Rattle.std.proofs.lemmas.List.Elements.{All-cons, All-nil}
use Rattle.http_messages.specs.Exit.{AnswersAll, StaysOpen}
use Rattle.http_messages.specs.Parts.{MessageParts}
use Rattle.http_messages.specs.Step.{HandsOn, IsStep}
use Rattle.http_messages.specs.Whole.{IsMessage, WholeMessage, print_message}
use Rattle.http_messages.specs.declared.engine.AnswerFault.{AnswerFault}
use Rattle.http_messages.specs.declared.step.Step.{Step}
use Rattle.http_messages.specs.declared.step.Step.TheVariants as step
use Rattle.http_connection.specs.Connection.{closes_by, progress_of, side_of}
use Rattle.http_connection.specs.History.{Event, IsHistory, IsServed, came, came_of, ended, stepped, went, went_of, with_unsent}
use Rattle.http_connection.specs.Parts.{ConnectionParts, after_received, closed, opened}
use Rattle.http_connection.specs.declared.progress.Progress.{Progress}

pub some_same : {A : Type 0} (x y : List A) → Some x ≡ Some y → x ≡ y
some_same x y is = ap (λ o. unwrap_or o x) is

module _ {S : Type 0} (answers stops breaks : S → MessageParts → List ℕ → S → Type 0) where
  -- nothing is answered once it closes
  closed_stays : (c d : ConnectionParts) (e f : S) (events : List Event) → IsHistory answers stops breaks c e events d f → c.is_closing ≡ true → d.is_closing ≡ true
  closed_stays c d e f [] (is, same) closing = ap (λ (x : ConnectionParts). x.is_closing) is ∙ closing
  closed_stays c d e f (came bytes ∷ events) history closing = closed_stays (after_received bytes c) d e f events history closing
  closed_stays c d e f (stepped p ∷ events) (mid, at, open_still, answered, history) closing = let x : true ≡ false = sym closing ∙ open_still in absurd cc
  closed_stays c d e f (went bytes ∷ events) (rest, is, history) closing = closed_stays (with_unsent rest c) d e f events history closing
  closed_stays c d e f (ended ∷ events) history closing = closed_stays (closed c) d e f events history refl

  -- from any state on
  pub record IsSo (c : ConnectionParts) (e : S) (events : List Event) (d : ConnectionParts) (f : S) : Type 0 where
    pub messages : List WholeMessage
    pub replies : List ℕ
    pub held : c.held ++ came_of events ≡ flat_map print_message messages ++ d.held
    pub each : All IsMessage messages
    pub lasting : All StaysOpen messages
    pub answered : AnswersAll answers e messages replies f
    pub sent : c.unsent ++ replies ≡ went_of events ++ d.unsent

  so_none : (c d : ConnectionParts) (e f : S) → d ≡ c → f ≡ e → IsSo c e [] d f
  so_none c d e f is same = record {
    messages = [];
    replies = [];
    held = append-nil c.held ∙ ap (λ (x : ConnectionParts). x.held) (sym is);
    each = All-nil IsMessage;
    lasting = All-nil StaysOpen;
    answered = (refl, same);
    sent = append-nil c.unsent ∙ ap (λ (x : ConnectionParts). x.unsent) (sym is);
  }

  so_came : (c d : ConnectionParts) (e f : S) (bytes : List ℕ) (events : List Event) → IsSo (after_received bytes c) e events d f → IsSo c e (came bytes ∷ events) d f
  so_came c d e f bytes events so = record {
    messages = so.messages;
    replies = so.replies;
    held = sym (append_assoc c.held bytes (came_of events)) ∙ so.held;
    each = so.each;
    lasting = so.lasting;
    answered = so.answered;
    sent = so.sent;
  }

  so_went : (c d : ConnectionParts) (e f : S) (bytes rest : List ℕ) (events : List Event) → c.unsent ≡ bytes ++ rest → IsSo (with_unsent rest c) e events d f → IsSo c e (went bytes ∷ events) d f
  so_went c d e f bytes rest events is so = record {
    messages = so.messages;
    replies = so.replies;
    held = so.held;
    each = so.each;
    lasting = so.lasting;
    answered = so.answered;
    sent = ap (λ l. l ++ so.replies) is ∙ append_assoc bytes rest so.replies ∙ ap (λ l. bytes ++ l) so.sent ∙ sym (append_assoc bytes (went_of events) d.unsent);
  }

  so_waits : (c mid d : ConnectionParts) (e at f : S) (p : Progress) (events : List Event) → mid.held ≡ c.held → mid.unsent ≡ c.unsent → at ≡ e → IsSo mid at events d f → IsSo c e (stepped p ∷ events) d f
  so_waits c mid d e at f p events held unsent same so = record {
    messages = so.messages;
    replies = so.replies;
    held = ap (λ l. l ++ came_of events) (sym held) ∙ so.held;
    each = so.each;
    lasting = so.lasting;
    answered = subst (λ (s : S). AnswersAll answers s so.messages so.replies f) same so.answered;
    sent = ap (λ l. l ++ so.replies) (sym unsent) ∙ so.sent;
  }

  so_answered : (c mid d : ConnectionParts) (e at f : S) (p : Progress) (events : List Event) (reply : List ℕ) → (h : HandsOn answers (side_of c e) (side_of mid at) mid.held reply) → StaysOpen h.message
      → mid.unsent ≡ c.unsent ++ reply → IsSo mid at events d f → IsSo c e (stepped p ∷ events) d f
  so_answered c mid d e at f p events reply h lasts wrote so = record {
    messages = h.message ∷ so.messages;
    replies = reply ++ so.replies;
    held = ap (λ l. l ++ came_of events) h.split ∙ append_assoc (print_message h.message) mid.held (came_of events) ∙ ap (λ l. print_message h.message ++ l) so.held
        ∙ sym (append_assoc (print_message h.message) (flat_map print_message so.messages) d.held);
    each = All-cons IsMessage h.message so.messages h.is so.each;
    lasting = All-cons StaysOpen h.message so.messages lasts so.lasting;
    answered = (at, reply, so.replies, h.answered, refl, so.answered);
    sent = sym (append_assoc c.unsent reply so.replies) ∙ ap (λ l. l ++ so.replies) (sym wrote) ∙ so.sent;
  }

  closes_then : (mid d : ConnectionParts) (at f : S) (p q : Progress) (events : List Event) → IsHistory answers stops breaks mid at events d f → mid.is_closing ≡ closes_by p → p ≡ q → closes_by q ≡ true
      → d.is_closing ≡ false → ⊥
  closes_then mid d at f p q events history closing is closes open_still =
      let x : true ≡ false = sym (closed_stays mid d at f events history (closing ∙ ap closes_by is ∙ closes)) ∙ open_still in absurd cc

  so_stepped : (c mid d : ConnectionParts) (e at f : S) (p : Progress) (events : List Event) (r : Result Step AnswerFault) → IsStep answers stops breaks (side_of c e) (side_of mid at) r → p ≡ progress_of r
      → mid.is_closing ≡ closes_by p → IsHistory answers stops breaks mid at events d f → d.is_closing ≡ false → IsSo mid at events d f → IsSo c e (stepped p ∷ events) d f
  so_stepped c mid d e at f p events (Ok step.Answered) (reply, h, lasts, wrote) is closing history open_still so = so_answered c mid d e at f p events reply h lasts wrote so
  so_stepped c mid d e at f p events (Ok step.Waiting) (none, part, less, kept) is closing history open_still so =
      so_waits c mid d e at f p events none.held (some_same mid.unsent c.unsent kept) none.engine so
  so_stepped c mid d e at f p events (Ok step.Closed) took is closing history open_still so = absurd (closes_then mid d at f p (progress_of (Ok step.Closed)) events history closing is refl open_still)
  so_stepped c mid d e at f p events (Err fault) took is closing history open_still so = absurd (closes_then mid d at f p (progress_of (Err fault)) events history closing is refl open_still)

  pub so_all : (c d : ConnectionParts) (e f : S) (events : List Event) → IsHistory answers stops breaks c e events d f → d.is_closing ≡ false → IsSo c e events d f
  so_all c d e f [] (is, same) open_still = so_none c d e f is same
  so_all c d e f (came bytes ∷ events) history open_still = so_came c d e f bytes events (so_all (after_received bytes c) d e f events history open_still)
  so_all c d e f (stepped p ∷ events) (mid, at, was_open, a, history) open_still =
      so_stepped c mid d e at f p events a.step a.is a.so a.closing history open_still (so_all mid d at f events history open_still)
  so_all c d e f (went bytes ∷ events) (rest, is, history) open_still = so_went c d e f bytes rest events is (so_all (with_unsent rest c) d e f events history open_still)
  so_all c d e f (ended ∷ events) history open_still = let x : true ≡ false = sym (closed_stays (closed c) d e f events history refl) ∙ open_still in absurd cc

  -- from its beginning on
  pub served_so_far : (d : ConnectionParts) (e f : S) (events : List Event) → IsHistory answers stops breaks opened e events d f → d.is_closing ≡ false → IsServed answers (came_of events) (went_of events) e d f
  served_so_far d e f events history open_still =
      let so = so_all opened d e f events history open_still in
      record { messages = so.messages; replies = so.replies; splits = record { whole = so.held; each = so.each }; lasting = so.lasting; answered = so.answered; sent = so.sent }

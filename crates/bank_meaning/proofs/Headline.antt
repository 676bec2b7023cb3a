-- The laws of one request and of lists of them, as one record.
use Rattle.std.proofs.Common.{◌≡◌, ◌≢◌, ◌↔◌, ℕ, ◌<◌, zero, suc, true, false, List, [], ◌∷◌, Some, None, take, ap, ap₂, ◌&&◌, arith, sym, subst, ◌∙◌, add-one}
use Rattle.std.specs.Prelude.{is_none, slice_get}
use Rattle.std.proofs.lemmas.List.Elements.{All-head, All-tail}
use Rattle.bank_books.specs.WorldLists.{WorldLists}
use Rattle.store_rows.specs.Status.{after_mark}
use Rattle.bank_meaning.specs.Headline.{Headline, IsMadeRightly, IsSessionReplied, IsTreatedRightly}
use Rattle.bank_meaning.specs.Laws.{IsHeld}
use Rattle.bank_meaning.specs.Recorded.{RowsAreAsked}
use Rattle.bank_meaning.specs.Repeats.{IsKeptReply}
use Rattle.bank_meaning.specs.Requests.{effect, executes, first, repeated, reply_text}
use Rattle.bank_meaning.specs.Run.{Marked, after_request, if_allowed, is_accepted, reply, step, stated, repeated_reply, unless_repeated, world_after}
use Rattle.bank_meaning.specs.Sessions.{ending_text, opening_text}
use Rattle.bank_meaning.specs.Slips.{slip_named}
use Rattle.bank_meaning.specs.Sums.{AreProper, IsProper, PassesChecks}
use Rattle.bank_meaning.specs.declared.execution.Execution.{Execution}
use Rattle.bank_meaning.specs.declared.request.Asked.{Asked}
use Rattle.bank_meaning.specs.declared.request.Request.{Request}
use Rattle.bank_meaning.proofs.ActsOnce.{each_acts_once}
use Rattle.bank_meaning.proofs.AmountBounds.{amounts_bound}
use Rattle.bank_meaning.proofs.BooksJudged.{books_are_judged}
use Rattle.bank_meaning.proofs.CommandsDenied.{commands_deny_no_more, ending_passes, listing_is_denied_no_more, opening_is_denied_no_more}
use Rattle.bank_meaning.proofs.CommandsJudged.{at_any_moment, commands_are_judged}
use Rattle.bank_meaning.proofs.AllowedRequest.{no_one_executes_what_he_certifies}
use Rattle.bank_meaning.proofs.FirstRule.{first_by_place}
use Rattle.bank_meaning.proofs.JudgedPolicy.{allowed_exactly_when_held}
use Rattle.bank_meaning.proofs.KeptReplies.{replies_are_kept}
use Rattle.bank_meaning.proofs.LastWord.{last_word}
use Rattle.bank_meaning.proofs.Recorded.{rows_say_what_was_asked}
use Rattle.bank_meaning.proofs.SessionReplies.{ending_replied, opening_replied}
use Rattle.bank_meaning.proofs.RunSums.{sums_always_agree}

-- ---- one request

-- what no rule denies of all that is asked at no moment none denies at its own
unasked : (w : WorldLists) (q : Request) (what : Asked) → q.asked ≡ what → first w (at_any_moment q what) ≡ None → first w q ≡ None
unasked w q what asks is = subst (λ what. first w (at_any_moment q what) ≡ None) (sym asks) is

made_rightly : (w : WorldLists) (q : Request) → PassesChecks w → IsProper q → IsMadeRightly w q (step w q)
made_rightly w q checks proper = record {
  named = first_by_place.2 w q;
  carried_out = λ fresh allowed. (
    ap (λ o. unless_repeated o (if_allowed (first w q) (effect w q) w) w) fresh ∙ ap (λ r. if_allowed r (effect w q) w) allowed,
    ap (λ o. repeated_reply o (stated (first w q) (reply_text w q))) fresh ∙ ap (λ r. stated r (reply_text w q)) allowed,
  );
  denied = λ r fresh is. (
    ap (λ o. unless_repeated o (if_allowed (first w q) (effect w q) w) w) fresh ∙ ap (λ r. if_allowed r (effect w q) w) is,
    ap (λ o. repeated_reply o (stated (first w q) (reply_text w q))) fresh ∙ ap (λ r. stated r (reply_text w q)) is,
  );
  again = λ kept is. (
    ap (λ o. unless_repeated o (if_allowed (first w q) (effect w q) w) w) is,
    ap (λ o. repeated_reply o (stated (first w q) (reply_text w q))) is,
  );
  held = λ x same. subst (λ r. first w r ≡ None ↔ IsHeld w x) (sym same) (allowed_exactly_when_held w x);
  judged = λ x same is. books_are_judged w x (subst (λ r. first w r ≡ None) same is);
  within = λ x same. amounts_bound w x checks (subst IsProper same proper);
  added = λ x same fresh allowed.
      let accepted = ap₂ (λ o r. is_none o && is_none r) (ap (repeated w) (sym same) ∙ fresh) (ap (first w) (sym same) ∙ allowed) in
      subst (λ r. RowsAreAsked w (step w r) x) (sym same) ((rows_say_what_was_asked w x checks (subst IsProper same proper)).accepted accepted);
  apart = λ x same is. no_one_executes_what_he_certifies w x checks.separated (subst (λ r. first w r ≡ None) same is);
  commanded = λ c asks. ((commands_are_judged w).command q c asks, λ is. unasked w q _ asks (commands_deny_no_more w q.who c checks is));
  listed = λ asks. ((commands_are_judged w).listing q asks, λ is. unasked w q _ asks (listing_is_denied_no_more w q.who checks is));
  opened = λ asks. ((commands_are_judged w).opening q asks, λ is. unasked w q _ asks (opening_is_denied_no_more w q.who.user is));
  ended = λ asks. ((commands_are_judged w).ending q asks, λ is. unasked w q _ asks (ending_passes w q.who is));
  opened_as = λ asks is.
      subst (λ what. IsSessionReplied (step w (at_any_moment q what)) q.who true opening_text (reply w (at_any_moment q what))) (sym asks)
      (opening_replied w q.who q.moment (subst (λ what. first w (at_any_moment q what) ≡ None) asks is));
  ended_as = λ asks is.
      subst (λ what. IsSessionReplied (step w (at_any_moment q what)) q.who false ending_text (reply w (at_any_moment q what))) (sym asks)
      (ending_replied w q.who q.moment (subst (λ what. first w (at_any_moment q what) ≡ None) asks is));
}

treated : (w : WorldLists) (m : Marked) → PassesChecks w → (m.mark ≡ None → IsProper m.request) → IsTreatedRightly w m (after_request w m)
treated w m checks proper = record {
  made = λ is. subst (λ v. IsMadeRightly w m.request v) (sym (ap (λ mark. after_mark mark (step w m.request) w) is)) (made_rightly w m.request checks (proper is));
  unmade = λ fault is. ap (λ mark. after_mark mark (step w m.request) w) is;
}

-- ---- a list of them

treated_along : (w : WorldLists) (ms : List Marked) (n : ℕ) (m : Marked) → PassesChecks w → AreProper ms → slice_get ms n ≡ Some m
    → IsTreatedRightly (world_after w (take n ms)) m (world_after w (take (suc n) ms))
treated_along w [] n m checks proper is = let none : None ≡ Some m = is in absurd cc
treated_along w (first ∷ ms) zero m checks proper is =
    let same : first ≡ m = cc in
    subst (λ (z : Marked). IsTreatedRightly w z (after_request w first)) same (treated w first checks (All-head (λ m. m.mark ≡ None → IsProper m.request) first ms proper))
treated_along w (first ∷ ms) (suc n) m checks proper is =
    treated_along (after_request w first) ms n m ((sums_always_agree w (first ∷ ms) checks proper).checks 1) (All-tail (λ m. m.mark ≡ None → IsProper m.request) first ms proper) is

-- ---- what bears a slip

kept_along : (w : WorldLists) (ms : List Marked) (n k : ℕ) (x : Execution) → slice_get ms n ≡ Some (record { request = executes x; mark = None }) → slip_named x ≢ 0
    → is_accepted (world_after w (take n ms)) (record { request = executes x; mark = None }) ≡ true → n < k
    → IsKeptReply (world_after w (take k ms)) x (reply_text (world_after w (take n ms)) (executes x))
kept_along w [] n k x there slip accepted later = absurd cc
kept_along w (first ∷ ms) zero zero x there slip accepted later = absurd (omega (arith, later))
kept_along w (first ∷ ms) zero (suc k) x there slip accepted later =
    let same : first ≡ record { request = executes x; mark = None } = cc in
    let left : step w (executes x) ≡ after_request w first = sym (ap (after_request w) same) in
    subst (λ (v : WorldLists). IsKeptReply (world_after v (take k ms)) x (reply_text w (executes x))) left (replies_are_kept w x (take k ms) slip accepted)
kept_along w (first ∷ ms) (suc n) zero x there slip accepted later = absurd (omega (arith, later))
kept_along w (first ∷ ms) (suc n) (suc k) x there slip accepted later =
    kept_along (after_request w first) ms n k x there slip accepted (omega (arith, later))

pub headline : Headline
headline w ms checks proper = record {
  each = λ n m is. subst (λ k. IsTreatedRightly (world_after w (take n ms)) m (world_after w (take k ms))) (sym (add-one n)) (treated_along w ms n m checks proper is);
  sums = sums_always_agree w ms checks proper;
  policy = last_word.0 w ms checks proper;
  acts_once = each_acts_once w ms;
  kept = λ n k x is later. kept_along w ms n k x is.there is.slip is.accepted later;
}

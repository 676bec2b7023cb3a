-- What a crash leaves, by induction on the messages that had a reply.
use Rattle.std.proofs.Common.{◌≡◌, ◌≢◌, ◌⊎◌, ◌≤◌, ◌∙◌, ℕ, zero, suc, true, inl, inr, arith, List, [], ◌∷◌, ◌++◌, Option, Some, None, Result, Ok, Err, refl, sym, ap, subst, take}
use Rattle.std.specs.Prelude.{slice_get}
use Rattle.money.specs.declared.fault.Fault.{Fault}
use Rattle.bank_books.specs.WorldLists.{WorldLists}
use Rattle.http_heads.specs.declared.fault.MessageFault.{MessageFault}
use Rattle.bank_meaning.specs.Headline.{IsAcceptedAt}
use Rattle.bank_meaning.specs.Repeats.{IsKeptReply}
use Rattle.bank_meaning.specs.Requests.{executes, reply_text}
use Rattle.bank_meaning.specs.Run.{Marked, after_request, is_accepted, step, world_after}
use Rattle.bank_meaning.specs.Slips.{slip_named}
use Rattle.bank_meaning.specs.declared.execution.Execution.{Execution}
use Rattle.bank_meaning.specs.declared.request.Request.{Request}
use Rattle.bank_meaning.proofs.KeptReplies.{replies_are_kept}
use Rattle.bank_meaning.proofs.Retries.{retries_act_once}
use Rattle.counter_api.specs.Run.{IsPending, MarkedMessage, after_message, marked, pending_after, requests_of, stated_by}
use Rattle.cli_file.specs.Crash.{ActsOnceOverCrash, IsLeftByCrash, IsUnanswered}

-- ---- requests that change nothing

-- the World is the same after each beginning of these requests
abbrev AreQuiet : WorldLists → List Marked → Type 0
AreQuiet w requests = (n : ℕ) → world_after w (take n requests) ≡ world_after w requests

none_quiet : (w : WorldLists) → AreQuiet w []
none_quiet w zero = refl
none_quiet w (suc n) = refl

quiet_in_front : (w : WorldLists) (m : Marked) (rest : List Marked) → after_request w m ≡ w → AreQuiet (after_request w m) rest → AreQuiet w (m ∷ rest)
quiet_in_front w m rest same quiet zero = sym same ∙ quiet 0
quiet_in_front w m rest same quiet (suc n) = quiet n

since_in_front : (w : WorldLists) (m : Marked) (rest : List Marked) (place : ℕ) → ((n : ℕ) → place ≤ n → world_after (after_request w m) (take n rest) ≡ world_after (after_request w m) rest)
    → (n : ℕ) → suc place ≤ n → world_after w (take n (m ∷ rest)) ≡ world_after w (m ∷ rest)
since_in_front w m rest place since zero later = absurd (omega (arith, later))
since_in_front w m rest place since (suc n) later = since n (omega (arith, later))

unanswered_in_front : (w : WorldLists) (m : Marked) (rest : List Marked) (q : Request) → IsUnanswered (after_request w m) rest q → IsUnanswered w (m ∷ rest) q
unanswered_in_front w m rest q is = record {
  place = suc is.place;
  fault = is.fault;
  there = is.there;
  since = since_in_front w m rest is.place is.since;
}

-- ---- what is left

-- a request from before these, none of which changed the World
abbrev IsWithEarlier : WorldLists → (Request → Type 0) → List Marked → WorldLists → Type 0
IsWithEarlier w earlier requests left = (q : Request) × earlier q × AreQuiet w requests × (left ≡ step (world_after w requests) q)

-- one of these
abbrev IsWithOne : WorldLists → List Marked → WorldLists → Type 0
IsWithOne w requests left = (q : Request) × IsUnanswered w requests q × (left ≡ step (world_after w requests) q)

abbrev IsLeft : WorldLists → (Request → Type 0) → List Marked → WorldLists → Type 0
IsLeft w earlier requests left = (left ≡ world_after w requests) ⊎ (IsWithEarlier w earlier requests left ⊎ IsWithOne w requests left)

-- the requests that may be carried out late, with one more
abbrev and_this : (Request → Type 0) → WorldLists → Result Request MessageFault → Option Fault → Request → Type 0
and_this earlier w (Err fault) mark q = earlier q
and_this earlier w (Ok r) (Some fault) q = earlier q ⊎ (q ≡ r)
and_this earlier w (Ok r) None q = earlier q × (step w r ≡ w)

module _ (earlier : Request → Type 0) (w : WorldLists) where
  in_front : (stated : Result Request MessageFault) (mark : Option Fault) (rest : List Marked) (left : WorldLists)
      → IsLeft (world_after w (marked stated mark [])) (and_this earlier w stated mark) rest left → IsLeft w earlier (marked stated mark rest) left
  in_front (Err fault) mark rest left is = is
  in_front (Ok r) (Some fault) rest left (inl is) = inl is
  in_front (Ok r) (Some fault) rest left (inr (inl (q, inl was, quiet, is))) =
      inr (inl (q, was, quiet_in_front w (record { request = r; mark = Some fault }) rest refl quiet, is))
  in_front (Ok r) (Some fault) rest left (inr (inl (q, inr this, quiet, is))) =
      let all = quiet_in_front w (record { request = r; mark = Some fault }) rest refl quiet in
      inr (inr (q, record { place = 0; fault = fault; there = ap (λ (z : Request). Some (record { request = z; mark = Some fault })) (sym this); since = λ n later. all n }, is))
  in_front (Ok r) (Some fault) rest left (inr (inr (q, one, is))) = inr (inr (q, unanswered_in_front w (record { request = r; mark = Some fault }) rest q one, is))
  in_front (Ok r) None rest left (inl is) = inl is
  in_front (Ok r) None rest left (inr (inl (q, (was, rests), quiet, is))) =
      inr (inl (q, was, quiet_in_front w (record { request = r; mark = None }) rest rests quiet, is))
  in_front (Ok r) None rest left (inr (inr (q, one, is))) = inr (inr (q, unanswered_in_front w (record { request = r; mark = None }) rest q one, is))

  within_after : (before : WorldLists → Type 0) (stated : Result Request MessageFault) (mark : Option Fault) → ((l : WorldLists) → before l → (l ≡ w) ⊎ ((q : Request) × earlier q × (l ≡ step w q)))
      → (l : WorldLists) → pending_after before w stated mark l
      → (l ≡ world_after w (marked stated mark [])) ⊎ ((q : Request) × and_this earlier w stated mark q × (l ≡ step (world_after w (marked stated mark [])) q))
  within_after before (Err fault) mark within l may = within l may
  within_after before (Ok r) (Some fault) within l (inl may) = elim (within l may) [ inl same ↦ inl same | inr e ↦ inr (e.0, inl e.1, e.2) ]
  within_after before (Ok r) (Some fault) within l (inr is) = inr (r, inr refl, is)
  within_after before (Ok r) None within l (rests, may) = elim (within l may) [
    | inl same ↦ inl (same ∙ sym rests)
    | inr e ↦ inr (e.0, (e.1, rests), e.2 ∙ ap (λ z. step z e.0) (sym rests))
  ]

left_along : (users : List ℕ → Option ℕ) (earlier : Request → Type 0) (before : WorldLists → Type 0) (w : WorldLists) (ms : List MarkedMessage)
    → ((l : WorldLists) → before l → (l ≡ w) ⊎ ((q : Request) × earlier q × (l ≡ step w q))) → (l : WorldLists) → IsPending users before w ms l → IsLeft w earlier (requests_of users ms) l
left_along users earlier before w [] within l may = elim (within l may) [ inl same ↦ inl same | inr e ↦ inr (inl (e.0, e.1, none_quiet w, e.2)) ]
left_along users earlier before w (m ∷ ms) within l may =
    in_front earlier w (stated_by users m) m.mark (requests_of users ms) l
    (left_along users (and_this earlier w (stated_by users m) m.mark) (pending_after before w (stated_by users m) m.mark) (after_message users w m) ms
    (within_after earlier w before (stated_by users m) m.mark within) l may)

pub left_by_crash : (users : List ℕ → Option ℕ) (w : WorldLists) (ms : List MarkedMessage) (left : WorldLists) → IsPending users (λ l. l ≡ w) w ms left → IsLeftByCrash w (requests_of users ms) left
left_by_crash users w ms left pending =
    elim (left_along users (λ q. ⊥) (λ l. l ≡ w) w ms (λ l same. inl same) left pending) [
      | inl is ↦ inl is
      | inr (inl none) ↦ absurd none.1
      | inr (inr one) ↦ inr one
    ]

-- ---- what bears a slip

joined : (w : WorldLists) (a b : List Marked) → world_after w (a ++ b) ≡ world_after (world_after w a) b
joined w [] b = refl
joined w (m ∷ a) b = joined (after_request w m) a b

-- after all requests, and further ones
kept_after : (w : WorldLists) (ms later : List Marked) (n : ℕ) (x : Execution) → slice_get ms n ≡ Some (record { request = executes x; mark = None }) → slip_named x ≢ 0
    → is_accepted (world_after w (take n ms)) (record { request = executes x; mark = None }) ≡ true
    → IsKeptReply (world_after (world_after w ms) later) x (reply_text (world_after w (take n ms)) (executes x))
kept_after w [] later n x there slip accepted = absurd cc
kept_after w (first ∷ ms) later zero x there slip accepted =
    let same : first ≡ record { request = executes x; mark = None } = cc in
    let stepped : step w (executes x) ≡ after_request w first = sym (ap (after_request w) same) in
    let kept = replies_are_kept w x (ms ++ later) slip accepted in
    subst (λ (v : WorldLists). IsKeptReply (world_after (world_after v ms) later) x (reply_text w (executes x))) stepped
    (subst (λ (v : WorldLists). IsKeptReply v x (reply_text w (executes x))) (joined (step w (executes x)) ms later) kept)
kept_after w (first ∷ ms) later (suc n) x there slip accepted = kept_after (after_request w first) ms later n x there slip accepted

kept_over : (w : WorldLists) (requests : List Marked) (left : WorldLists) → IsLeftByCrash w requests left → (n : ℕ) (x : Execution) → IsAcceptedAt w requests n x
    → IsKeptReply left x (reply_text (world_after w (take n requests)) (executes x))
kept_over w requests left (inl same) n x is =
    subst (λ v. IsKeptReply v x (reply_text (world_after w (take n requests)) (executes x))) (sym same) (kept_after w requests [] n x is.there is.slip is.accepted)
kept_over w requests left (inr (q, one, same)) n x is =
    subst (λ v. IsKeptReply v x (reply_text (world_after w (take n requests)) (executes x))) (sym same)
    (kept_after w requests (record { request = q; mark = None } ∷ []) n x is.there is.slip is.accepted)

pub acts_once_over_crash : (w : WorldLists) (requests : List Marked) (left : WorldLists) → IsLeftByCrash w requests left → ActsOnceOverCrash w requests left
acts_once_over_crash w requests left is = record {
  accepted = kept_over w requests left is;
  as_it_was = λ x named may. retries_act_once.0 (world_after w requests) x left named may;
  sent_again = λ x y text named sent may stated. retries_act_once.1 (world_after w requests) x y left text named sent may stated;
}

-- ---- one request more, which was under way

-- also where the crash may have carried out another request at last, whatever it would have been answered
pub acts_once_within : (w : WorldLists) (requests : List Marked) (q : Request) (left : WorldLists) → left ≡ step (world_after w requests) q → ActsOnceOverCrash w requests left
acts_once_within w requests q left same = record {
  accepted = λ n x is.
      subst (λ v. IsKeptReply v x (reply_text (world_after w (take n requests)) (executes x))) (sym same)
      (kept_after w requests (record { request = q; mark = None } ∷ []) n x is.there is.slip is.accepted);
  as_it_was = λ x named may. retries_act_once.0 (world_after w requests) x left named may;
  sent_again = λ x y text named sent may stated. retries_act_once.1 (world_after w requests) x y left text named sent may stated;
}

quiet_on : (w : WorldLists) (d : Marked) (over : List Marked) → w ≡ world_after w (d ∷ over) → AreQuiet (after_request w d) over → AreQuiet w (d ∷ over)
quiet_on w d over same quiet zero = same
quiet_on w d over same quiet (suc n) = quiet n

-- requests that change nothing, but for the last
quiet_before : (w : WorldLists) (over : List Marked) (m : Marked) → AreQuiet w (over ++ m ∷ []) → AreQuiet w over × (world_after w over ≡ world_after w (over ++ m ∷ []))
quiet_before w [] m quiet = (none_quiet w, quiet 0)
quiet_before w (d ∷ over) m quiet =
    let rest = quiet_before (after_request w d) over m (λ n. quiet (suc n)) in
    (quiet_on w d over (quiet 0 ∙ sym rest.1) rest.0, rest.1)

-- one of these requests was answered by a fault, and that was before the last, or it was the last
unanswered_before : (w : WorldLists) (over : List Marked) (m : Marked) (q : Request) (place : ℕ) (fault : Fault) → slice_get (over ++ m ∷ []) place ≡ Some (record { request = q; mark = Some fault })
    → ((n : ℕ) → place ≤ n → world_after w (take n (over ++ m ∷ [])) ≡ world_after w (over ++ m ∷ []))
    → (IsUnanswered w over q × (world_after w over ≡ world_after w (over ++ m ∷ []))) ⊎ (m ≡ record { request = q; mark = Some fault })
unanswered_before w [] m q zero fault there since = let is : m ≡ record { request = q; mark = Some fault } = cc in inr is
unanswered_before w [] m q (suc place) fault there since = absurd cc
unanswered_before w (d ∷ over) m q zero fault there since =
    let quiet = quiet_before w (d ∷ over) m (λ n. since n (omega arith)) in
    inl (record { place = 0; fault = fault; there = there; since = λ n later. quiet.0 n }, quiet.1)
unanswered_before w (d ∷ over) m q (suc place) fault there since =
    elim (unanswered_before (after_request w d) over m q place fault there (λ n later. since (suc n) (omega (arith, later)))) [
      | inl before ↦ inl (unanswered_in_front w d over q before.0, before.1)
      | inr last ↦ inr last
    ]

-- What is left after requests, and one more, is what is left after them, or that one was carried out.
pub left_within : (w : WorldLists) (over : List Marked) (q : Request) (mark : Option Fault) (left : WorldLists) → IsLeftByCrash w (over ++ record { request = q; mark = mark } ∷ []) left
    → IsLeftByCrash w over left ⊎ (left ≡ step (world_after w over) q)
left_within w over q None left (inl is) = inr (is ∙ joined w over (record { request = q; mark = None } ∷ []))
left_within w over q (Some fault) left (inl is) = inl (inl (is ∙ joined w over (record { request = q; mark = Some fault } ∷ [])))
left_within w over q mark left (inr (r, one, is)) =
    elim (unanswered_before w over (record { request = q; mark = mark }) r one.place one.fault one.there one.since) [
      | inl before ↦ inl (inr (r, before.0, is ∙ ap (λ v. step v r) (sym before.1)))
      | inr last ↦ inr (
          is ∙ ap (λ v. step v r) (joined w over (record { request = q; mark = mark } ∷ []) ∙ ap (after_request (world_after w over)) last)
          ∙ ap (λ (z : Marked). step (world_after w over) z.request) (sym last))
    ]

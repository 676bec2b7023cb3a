-- Messages one after another, by induction.
use Rattle.std.proofs.Common.{◌≡◌, ◌⊎◌, ℕ, ◌+◌, ◌≤◌, ◌&&◌, Bool, true, false, if◌then◌else◌, inl, inr, List, [], ◌∷◌, ◌++◌, Option, Some, None, Result, Ok, Err, IfOk, refl, sym, ap, arith, subst, ◌∙◌}
use Rattle.std.proofs.lemmas.List.Elements.{All-cons, All-head, All-nil, All-tail}
use Rattle.money.specs.declared.fault.Fault.{Fault}
use Rattle.bank_books.specs.WorldLists.{WorldLists}
use Rattle.http_heads.specs.declared.fault.MessageFault.{MessageFault}
use Rattle.store_rows.specs.Status.{RoseBy, Status, counts, counts_at_most}
use Rattle.bank_meaning.specs.LastWord.{finds_room, effective}
use Rattle.bank_meaning.specs.Run.{Marked, accepted, is_accepted, world_after}
use Rattle.bank_meaning.specs.Sums.{AreProper, IsProper}
use Rattle.bank_meaning.proofs.Headline.{headline}
use Rattle.bank_meaning.specs.declared.request.Request.{Request}
use Rattle.requests.proofs.InRange.{what_is_stated_is_in_range}
use Rattle.counter_api.specs.Response.{ResponseParts}
use Rattle.counter_api.specs.Run.{AreInRange, AreOrderly, FindsRoom, IsHandled, IsPending, IsRun, MarkedMessage, after_message, failed_after, faults_of, framed, marked, marks_of, pending_after, requests_of, stated_by, stopped_after}

pub rose_then : (m n a b c : ℕ) → RoseBy m a b → RoseBy n b c → RoseBy (m + n) a c
rose_then m n a b c (inl p) (inl q) = inl (omega arith)
rose_then m n a b c (inl p) (inr q) = inr q
rose_then m n a b c (inr p) (inl q) = inr (omega arith)
rose_then m n a b c (inr p) (inr q) = inr q

along : (m n a b c : ℕ) → b ≤ a + m → c ≤ b + n → c ≤ a + (m + n)
along m n a b c p q = omega arith

-- a request in front
pub after_marked : (w : WorldLists) (stated : Result Request MessageFault) (mark : Option Fault) (rest : List Marked)
    → world_after (world_after w (marked stated mark [])) rest ≡ world_after w (marked stated mark rest)
after_marked w (Ok r) mark rest = refl
after_marked w (Err fault) mark rest = refl

in_range_in_front : (stated : Result Request MessageFault) (mark : Option Fault) (rest : List Marked) → IfOk stated IsProper → AreInRange rest → AreInRange (marked stated mark rest)
in_range_in_front (Ok r) mark rest here following = All-cons (λ m. IsProper m.request) (record { request = r; mark = mark }) rest here following
in_range_in_front (Err fault) mark rest here following = following

-- so those that were made are proper
pub proper_of : (requests : List Marked) → AreInRange requests → AreProper requests
proper_of [] in_range = All-nil (λ m. m.mark ≡ None → IsProper m.request)
proper_of (m ∷ ms) in_range =
    All-cons (λ m. m.mark ≡ None → IsProper m.request) m ms (λ made. All-head (λ m. IsProper m.request) m ms in_range)
    (proper_of ms (All-tail (λ m. IsProper m.request) m ms in_range))

-- ---- what is heard

if_found : (is_accepted finds : Bool) → (is_accepted ≡ true → finds ≡ true) → (r : Request) (effective accepted : List Request) → effective ≡ accepted
    → (if is_accepted && finds then r ∷ effective else effective) ≡ (if is_accepted then r ∷ accepted else accepted)
if_found true true found r effective accepted same = ap (λ rest. r ∷ rest) same
if_found true false found r effective accepted same = let none : false ≡ true = found refl in absurd cc
if_found false finds found r effective accepted same = same

pub effective_in_front : (w : WorldLists) (stated : Result Request MessageFault) (mark : Option Fault) (rest : List Marked) → IfOk stated (λ r. FindsRoom r mark w)
    → effective (world_after w (marked stated mark [])) rest ≡ accepted (world_after w (marked stated mark [])) rest → effective w (marked stated mark rest) ≡ accepted w (marked stated mark rest)
effective_in_front w (Ok r) mark rest found same =
    if_found (is_accepted w (record { request = r; mark = mark })) (finds_room w r.asked) found r _ _ same
effective_in_front w (Err fault) mark rest found same = same

-- ---- what a crash may leave

-- where more could be left before, and beside it only the World that stood
more_after : (P Q : WorldLists → Type 0) (w : WorldLists) (stated : Result Request MessageFault) (mark : Option Fault) → ((l : WorldLists) → P l → (l ≡ w) ⊎ Q l)
    → (l : WorldLists) → pending_after P w stated mark l → (l ≡ world_after w (marked stated mark [])) ⊎ pending_after Q w stated mark l
more_after P Q w (Err fault) mark within l may = within l may
more_after P Q w (Ok r) (Some fault) within l (inl may) = elim (within l may) [ inl same ↦ inl same | inr q ↦ inr (inl q) ]
more_after P Q w (Ok r) (Some fault) within l (inr is) = inr (inr is)
more_after P Q w (Ok r) None within l (rests, may) = elim (within l may) [ inl same ↦ inl (same ∙ sym rests) | inr q ↦ inr (rests, q) ]

pub more_pending : (users : List ℕ → Option ℕ) (P Q : WorldLists → Type 0) (w : WorldLists) (ms : List MarkedMessage) → ((l : WorldLists) → P l → (l ≡ w) ⊎ Q l)
    → (l : WorldLists) → IsPending users P w ms l → (l ≡ world_after w (requests_of users ms)) ⊎ IsPending users Q w ms l
more_pending users P Q w [] within l may = within l may
more_pending users P Q w (m ∷ ms) within l may =
    elim (more_pending users (pending_after P w (stated_by users m) m.mark) (pending_after Q w (stated_by users m) m.mark) (after_message users w m) ms
    (more_after P Q w (stated_by users m) m.mark within) l may) [
      | inl is ↦ inl (is ∙ after_marked w (stated_by users m) m.mark (requests_of users ms))
      | inr q ↦ inr q
    ]

pub none_ran : (how : List ℕ → List ℕ → Type 0) → how [] [] → (users : List ℕ → Option ℕ) (s : Status) → IsRun how users s s [] []
none_ran how none users s =
    let in_range : AreInRange [] = All-nil (λ m. IsProper m.request) in
    record {
      honest = λ h. h;
      state = refl;
      orderly = tt;
      counted = inl (omega arith);
      no_more = omega arith;
      failed = refl;
      moved = λ clean w held. held;
      replied = λ clean w held. none;
      all_effective = λ clean w held. refl;
      leaves = λ clean w held left may. inr may;
      whole = λ clean w held before. before;
      in_range = in_range;
      headline = λ w checks. headline w [] checks (proper_of [] in_range);
    }

-- one message in front of others, where what is said of its response and of the replies after it joins
pub one_more : (how : List ℕ → List ℕ → Type 0) (users : List ℕ → Option ℕ) (old mid new : Status) (m : MarkedMessage) (ms : List MarkedMessage) (says : ResponseParts → Type 0) (later out : List ℕ)
    → ((response : ResponseParts) (replies : List ℕ) → says response → how replies later → how (framed m.message response ++ replies) out)
    → IsHandled users old mid m says → IsRun how users mid new ms later → IsRun how users old new (m ∷ ms) out
one_more how users old mid new m ms says later out joined here following =
    let in_range = in_range_in_front (stated_by users m) m.mark (requests_of users ms) (what_is_stated_is_in_range users m.moment m.message here.timely) following.in_range in
    record {
      honest = λ h. here.answers.honest (following.honest h);
      state = following.state ∙ ap (stopped_after ms) here.answers.state;
      orderly = (here.refused, here.answers.was_stopped, here.bears, subst (AreOrderly users ms) here.answers.state following.orderly);
      counted = rose_then (counts m.mark) (faults_of ms) old.fault_count mid.fault_count new.fault_count here.answers.counted following.counted;
      no_more = along (counts_at_most m.mark) (marks_of ms) old.fault_count mid.fault_count new.fault_count here.answers.no_more following.no_more;
      failed = following.failed ∙ ap (failed_after ms) here.answers.failed;
      moved = λ clean w held.
          let honest = following.honest clean in
          subst (λ v. new.holds v) (after_marked w (stated_by users m) m.mark (requests_of users ms)) (following.moved clean _ (here.moved honest w held));
      replied = λ clean w held.
          let honest = following.honest clean in
          joined _ _ (here.replied honest w held) (following.replied clean _ (here.moved honest w held));
      all_effective = λ clean w held.
          let honest = following.honest clean in
          effective_in_front w (stated_by users m) m.mark (requests_of users ms) (here.room honest w held) (following.all_effective clean _ (here.moved honest w held));
      whole = λ clean w held before.
          let honest = following.honest clean in
          following.whole clean _ (here.moved honest w held) (here.whole honest w held before);
      leaves = λ clean w held left may.
          let honest = following.honest clean in
          elim (following.leaves clean (after_message users w m) (here.moved honest w held) left may) [
            | inl is ↦ inl (is ∙ after_marked w (stated_by users m) m.mark (requests_of users ms))
            | inr pending ↦ elim (more_pending users mid.may_leave (pending_after old.may_leave w (stated_by users m) m.mark) (after_message users w m) ms (here.leaves honest w held) left pending) [
              | inl is ↦ inl (is ∙ after_marked w (stated_by users m) m.mark (requests_of users ms))
              | inr q ↦ inr q
            ]
          ];
      in_range = in_range;
      headline = λ w checks. headline w (requests_of users (m ∷ ms)) checks (proper_of (requests_of users (m ∷ ms)) in_range);
    }

-- Runs one after another are one run.
use Rattle.std.proofs.Common.{◌≡◌, ℕ, inl, inr, List, [], ◌∷◌, ◌++◌, Option, Some, Result, Ok, Err, refl, sym, ap, subst, ◌∙◌}
use Rattle.std.proofs.lemmas.List.Elements.{All-append}
use Rattle.money.specs.declared.fault.Fault.{Fault}
use Rattle.bank_books.specs.WorldLists.{WorldLists}
use Rattle.http_heads.specs.declared.fault.MessageFault.{MessageFault}
use Rattle.http_messages.specs.declared.serving.ServeFault.{ServeFault}
use Rattle.http_messages.specs.declared.serving.ServeFault.TheVariants.{Cut, Memory, Read, Report, Write}
use Rattle.http_messages.specs.declared.serving.Served.{Served}
use Rattle.store_rows.specs.Status.{Keeps, Status, Tells}
use Rattle.bank_meaning.proofs.Headline.{headline}
use Rattle.bank_meaning.specs.Run.{Marked, after_request, world_after}
use Rattle.bank_meaning.specs.Sums.{IsProper}
use Rattle.bank_meaning.specs.declared.request.Request.{Request}
use Rattle.counter_api.specs.Day.{AreReplied, IsDay, answered}
use Rattle.counter_api.specs.Exit.{IsServed, Place}
use Rattle.counter_api.specs.Run.{AreInRange, IsPending, IsRun, IsWhole, MarkedMessage, after_message, marked, pending_after, requests_of, stated_by}
use Rattle.counter_api.proofs.RunLemmas.{after_marked, more_pending, none_ran, proper_of}

-- ---- the requests of both

marked_joined : (stated : Result Request MessageFault) (mark : Option Fault) (a b : List Marked) → marked stated mark (a ++ b) ≡ marked stated mark a ++ b
marked_joined (Ok r) mark a b = refl
marked_joined (Err fault) mark a b = refl

requests_joined : (users : List ℕ → Option ℕ) (ms ns : List MarkedMessage) → requests_of users (ms ++ ns) ≡ requests_of users ms ++ requests_of users ns
requests_joined users [] ns = refl
requests_joined users (m ∷ ms) ns =
    ap (marked (stated_by users m) m.mark) (requests_joined users ms ns) ∙ marked_joined (stated_by users m) m.mark (requests_of users ms) (requests_of users ns)

world_joined : (w : WorldLists) (a b : List Marked) → world_after w (a ++ b) ≡ world_after (world_after w a) b
world_joined w [] b = refl
world_joined w (m ∷ a) b = world_joined (after_request w m) a b

pub world_of_both : (users : List ℕ → Option ℕ) (w : WorldLists) (ms ns : List MarkedMessage)
    → world_after w (requests_of users (ms ++ ns)) ≡ world_after (world_after w (requests_of users ms)) (requests_of users ns)
world_of_both users w ms ns = ap (world_after w) (requests_joined users ms ns) ∙ world_joined w (requests_of users ms) (requests_of users ns)

-- ---- what a crash may leave

pending_joined : (users : List ℕ → Option ℕ) (before : WorldLists → Type 0) (w : WorldLists) (ms ns : List MarkedMessage) (left : WorldLists)
    → IsPending users (λ l. IsPending users before w ms l) (world_after w (requests_of users ms)) ns left → IsPending users before w (ms ++ ns) left
pending_joined users before w [] ns left is = is
pending_joined users before w (m ∷ ms) ns left is =
    let next : WorldLists → Type 0 = pending_after before w (stated_by users m) m.mark in
    pending_joined users next (after_message users w m) ms ns left
    (subst (λ v. IsPending users (λ l. IsPending users next (after_message users w m) ms l) v ns left) (sym (after_marked w (stated_by users m) m.mark (requests_of users ms))) is)

-- ---- days

pub day_of_run : (how : List ℕ → List ℕ → Type 0) (users : List ℕ → Option ℕ) (old new : Status) (ms : List MarkedMessage) (out : List ℕ) → IsRun how users old new ms out → IsDay users old new ms
day_of_run how users old new ms out run = record {
  honest = run.honest;
  moved = run.moved;
  leaves = run.leaves;
  whole = run.whole;
  in_range = run.in_range;
  headline = run.headline;
}

pub day_of_none : (users : List ℕ → Option ℕ) (s : Status) → IsDay users s s []
day_of_none users s = day_of_run IsWhole users s s [] [] (none_ran IsWhole refl users s)

-- what keeps the store after it
pub day_kept : (users : List ℕ → Option ℕ) (old mid new : Status) (ms : List MarkedMessage) (mark : Option Fault) → IsDay users old mid ms → Keeps mid new mark → IsDay users old new ms
day_kept users old mid new ms mark here keeps = record {
  honest = λ h. here.honest (keeps.answers.honest h);
  moved = λ clean w held. keeps.kept _ (here.moved (keeps.answers.honest clean) w held);
  leaves = λ clean w held left may. here.leaves (keeps.answers.honest clean) w held left (keeps.crash clean left may);
  whole = λ clean w held before. keeps.whole clean (here.whole (keeps.answers.honest clean) w held before);
  in_range = here.in_range;
  headline = here.headline;
}

pub day_joined : (users : List ℕ → Option ℕ) (old mid new : Status) (ms ns : List MarkedMessage) → IsDay users old mid ms → IsDay users mid new ns → IsDay users old new (ms ++ ns)
day_joined users old mid new ms ns here following =
    let in_range : AreInRange (requests_of users (ms ++ ns)) =
    subst AreInRange (sym (requests_joined users ms ns)) (All-append (λ m. IsProper m.request) (requests_of users ms) (requests_of users ns) here.in_range following.in_range) in
    record {
      honest = λ h. here.honest (following.honest h);
      moved = λ clean w held.
          subst (λ v. new.holds v) (sym (world_of_both users w ms ns)) (following.moved clean _ (here.moved (following.honest clean) w held));
      leaves = λ clean w held left may.
          let honest = following.honest clean in
          elim (following.leaves clean (world_after w (requests_of users ms)) (here.moved honest w held) left may) [
            | inl is ↦ inl (is ∙ sym (world_of_both users w ms ns))
            | inr pending ↦ elim (more_pending users mid.may_leave (λ l. IsPending users old.may_leave w ms l) (world_after w (requests_of users ms)) ns (here.leaves honest w held) left pending) [
              | inl is ↦ inl (is ∙ sym (world_of_both users w ms ns))
              | inr q ↦ inr (pending_joined users old.may_leave w ms ns left q)
            ]
          ];
      whole = λ clean w held before.
          let honest = following.honest clean in
          following.whole clean _ (here.moved honest w held) (here.whole honest w held before);
      in_range = in_range;
      headline = λ w checks. headline w (requests_of users (ms ++ ns)) checks (proper_of (requests_of users (ms ++ ns)) in_range);
    }

module _ {S C : Type 0} (status : S → Status) (users : List ℕ → Option ℕ) (may_give : C → ℕ → C → Type 0) where
  -- one call of `serve`
  pub day_of_serve : (most : ℕ) (old new : Place S C) (exit : Result Served ServeFault) (is : IsServed status users may_give most old new exit)
      → IsDay users (status old.store) (status new.store) (answered status users may_give most old new exit is)
  day_of_serve most old new (Ok s) is = day_of_run _ users _ _ _ _ is.4.ran
  day_of_serve most old new (Err Read) is = day_of_run _ users _ _ _ _ is.4.ran
  day_of_serve most old new (Err Cut) is = day_of_run _ users _ _ _ _ is.4.ran
  day_of_serve most old new (Err Write) (inl is) = day_of_run _ users _ _ _ _ is.7.ran
  day_of_serve most old new (Err Write) (inr is) = day_of_run _ users _ _ _ _ is.5.ran
  day_of_serve most old new (Err Report) is =
      day_kept users (status old.store) (status is.6.store) (status new.store) is.3 (Some is.6.broken.fault) (day_of_run _ users _ _ _ _ is.6.ran) is.6.broken.kept
  day_of_serve most old new (Err Memory) same = subst (λ p. IsDay users (status old.store) (status p.store) []) (sym same) (day_of_none users (status old.store))

  pub replied_by_serve : (most : ℕ) (old new : Place S C) (exit : Result Served ServeFault) (is : IsServed status users may_give most old new exit)
      → Tells (status old.store) (status new.store) (AreReplied status users may_give most old new exit is)
  replied_by_serve most old new (Ok s) is = is.4.ran.replied
  replied_by_serve most old new (Err Read) is = is.4.ran.replied
  replied_by_serve most old new (Err Cut) is = is.4.ran.replied
  replied_by_serve most old new (Err Write) (inl is) = is.7.ran.replied
  replied_by_serve most old new (Err Write) (inr is) = is.5.ran.replied
  replied_by_serve most old new (Err Report) is = λ clean w held.
      let honest = is.6.broken.kept.answers.honest clean in
      (is.6.ran.replied honest w held, is.6.broken.begun clean _ (is.6.ran.moved honest w held))
  replied_by_serve most old new (Err Memory) same = λ clean w held. tt

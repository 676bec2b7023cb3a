-- What is said of streams is said of what they come to, as of recorded ones of their past.
use Rattle.std.proofs.Common.{ℕ, Bool, List, [], ◌∷◌, ◌++◌, inl, inr, Option}
use Rattle.std.specs.declared.time.Instant.{Instant}
use Rattle.std.proofs.lemmas.List.Elements.{All-weaker}
use Rattle.store_rows.specs.Status.{Status}
use Rattle.counter_loop.specs.Boxes.{IsCause, IsRefused, IsStuck, WasLetGo}
use Rattle.counter_loop.specs.Round.{IsLate, LastsSince, Round}
use Rattle.counter_loop.specs.Rounds.{AreAttendedInRounds, AreRounds, IsFair, IsServedIn}
use Rattle.counter_loop.specs.Turns.{StoreAndClock, Box, Boxes, Turn}
use Rattle.counter_door.specs.Ways.{Ways}
use Rattle.counter_door.specs.declared.readiness.Ready.{Ready}
use Rattle.counter_loop.proofs.ReportLemmas.{Shows}

lasts_more_so : (rounds : List Round) (since : Instant) (one other : Boxes → Type 0) → ((boxes : Boxes) → one boxes → other boxes) → LastsSince rounds since one → LastsSince rounds since other
lasts_more_so rounds since one other so lasts = record {
  before = lasts.before;
  first = lasts.first;
  later = lasts.later;
  is = lasts.is;
  at = lasts.at;
  all = All-weaker (λ (r : Round). one r.after) (λ (r : Round). other r.after) (λ r. so r.after) (lasts.first ∷ lasts.later) lasts.all;
}

late_so : (rounds : List Round) (one other : Boxes → Type 0) → ((boxes : Boxes) → one boxes → other boxes) → IsLate rounds one → IsLate rounds other
late_so rounds one other so late = record {
  some = late.some;
  more = late.more;
  is = late.is;
  since = late.since;
  now = late.now;
  lasts = lasts_more_so late.some late.since one other so late.lasts;
  at = late.at;
  passed = late.passed;
}

module _ {T U : Type 0} (part : T → U) (ways : U → Option Ways) (full failed : U → Type 0) where
  abbrev its_ways : T → Option Ways
  its_ways stream = ways (part stream)

  abbrev its_full : T → Type 0
  its_full stream = full (part stream)

  abbrev its_failed : T → Type 0
  its_failed stream = failed (part stream)

  abbrev stuck_part : (boxes : Boxes) (k : ℕ) → IsStuck its_ways its_full its_failed boxes k → IsStuck ways full failed boxes k
  stuck_part boxes k is = record { box = is.box; there = is.there; stream = part is.stream; rest = is.rest; since = is.since; some = is.some; refused = is.refused }

  refused_part : (before : Option Ways) (boxes : Boxes) (k : ℕ) → IsRefused its_ways its_full its_failed before boxes k → IsRefused ways full failed before boxes k
  refused_part before boxes k is = record { stuck = stuck_part boxes k is.stuck; asked = is.asked }

  cause_part : (rounds : List Round) (k : ℕ) (box : Box) (stream : T) (rest : List ℕ) → IsCause its_ways its_full its_failed rounds k box stream rest → IsCause ways full failed rounds k box (part stream) rest
  cause_part rounds k box stream rest (inl over) = inl over
  cause_part rounds k box stream rest (inr (inl (some, inl broken))) = inr (inl (some, inl broken))
  cause_part rounds k box stream rest (inr (inl (some, inr (no_more, late)))) =
      inr (inl (some, inr (no_more, late_so rounds (λ boxes. IsStuck its_ways its_full its_failed boxes k) (λ boxes. IsStuck ways full failed boxes k) (λ boxes is. stuck_part boxes k is) late)))
  cause_part rounds k box stream rest (inr (inr part_held)) = inr (inr part_held)

  gone_part : (rounds : List Round) (boxes : Boxes) (k : ℕ) → WasLetGo its_ways its_full its_failed rounds boxes k → WasLetGo ways full failed rounds boxes k
  gone_part rounds boxes k (box, is, gone) =
      (box, is, record { stream = part gone.stream; rest = gone.rest; since = gone.since; why = cause_part rounds k box gone.stream gone.rest gone.why })

  served_part : (one other : Boxes → ℕ → Type 0) (between : Boxes) (turns : List Turn) (k : ℕ) → (one between k → other between k) → IsServedIn one between turns k → IsServedIn other between turns k
  served_part one other between turns k so (inl are_turns) = inl are_turns
  served_part one other between turns k so (inr (inl over)) = inr (inl over)
  served_part one other between turns k so (inr (inr is)) = inr (inr (so is))

  fair_part : (rounds : List Round) (boxes : Boxes) (r : Round) → IsFair (IsRefused its_ways its_full its_failed) (IsStuck its_ways its_full its_failed) (WasLetGo its_ways its_full its_failed rounds) boxes r
      → IsFair (IsRefused ways full failed) (IsStuck ways full failed) (WasLetGo ways full failed rounds) boxes r
  fair_part rounds boxes r fair = record {
    held = λ k box is. elim (fair.held k box is) [ inl there ↦ inl there | inr gone ↦ inr (gone_part rounds boxes k gone) ];
    reported = λ key s there has.
        served_part (IsRefused its_ways its_full its_failed s.ways) (IsRefused ways full failed s.ways) r.after r.turns s.who (refused_part s.ways r.after s.who) (fair.reported key s there has);
    whole = λ k box is open_still holds. served_part (IsStuck its_ways its_full its_failed) (IsStuck ways full failed) r.after r.turns k (λ stuck. stuck_part r.after k stuck) (fair.whole k box is open_still holds);
    alone = fair.alone;
    few = fair.few;
  }

  module _ {S C : Type 0} (begins : Option Ways → Bool) (status : S → Status) (users : List ℕ → Option ℕ) (may_give : C → ℕ → C → Type 0) where
    rounds_part : (before : List Round) (boxes after : Boxes) (old new : StoreAndClock S C) (rounds : List Round)
        → AreRounds begins (IsRefused its_ways its_full its_failed) (IsStuck its_ways its_full its_failed) (WasLetGo its_ways its_full its_failed) status users may_give before boxes old rounds after new
        → AreRounds begins (IsRefused ways full failed) (IsStuck ways full failed) (WasLetGo ways full failed) status users may_give before boxes old rounds after new
    rounds_part before boxes after old new [] are_turns = are_turns
    rounds_part before boxes after old new (r ∷ rounds) (mid, are_turns, fair, rest) = (mid, are_turns, fair_part before boxes r fair, rounds_part (before ++ r ∷ []) r.after after mid new rounds rest)

    pub attended_part : (shows : Shows) (a b : Option (List (List Ready))) (old new : StoreAndClock S C)
        → AreAttendedInRounds begins (IsRefused its_ways its_full its_failed) (IsStuck its_ways its_full its_failed) (WasLetGo its_ways its_full its_failed) status users may_give shows a b old new
        → AreAttendedInRounds begins (IsRefused ways full failed) (IsStuck ways full failed) (WasLetGo ways full failed) status users may_give shows a b old new
    attended_part shows a b old new is = record {
      attended = is.attended;
      rounds = is.rounds;
      all = is.all;
      are_turns = rounds_part [] _ is.attended.after old new is.rounds is.are_turns;
      read = is.read;
      last = is.last;
      one = is.one;
      reported = is.reported;
    }

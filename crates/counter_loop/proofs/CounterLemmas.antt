-- From turns over a counter to the same turns over its bank and its clock.
use Rattle.std.proofs.Common.{◌++◌, ℕ, Bool, List, [], ◌∷◌, Option, inl, inr, ap}
use Rattle.reports.specs.Report.{BeginsWith}
use Rattle.store_rows.specs.Status.{Status}
use Rattle.counter_api.specs.Answers.{CounterGives}
use Rattle.counter_api.specs.Run.{IsWhole}
use Rattle.counter_api.specs.declared.counter.Counter.{Counter}
use Rattle.counter_loop.specs.Attended.{AreAttended}
use Rattle.counter_loop.specs.Boxes.{IsRefused, IsStuck, WasLetGo}
use Rattle.counter_loop.specs.Round.{Round}
use Rattle.counter_loop.specs.Rounds.{AreAttendedInRounds, AreRounds, AreServedAtDoor}
use Rattle.counter_door.specs.declared.parted.Parted.{Parted}
use Rattle.counter_door.specs.declared.readiness.Ready.{Ready}
use Rattle.counter_loop.specs.Turns.{AreTurns, StoreAndClock, Box, Boxes, GoesOn, IsAnswering, IsBreaking, IsLast, IsOneTurn, IsQuiet, Turn, as_store_and_clock, with_box}
use Rattle.counter_door.specs.Ways.{Ways}
use Rattle.counter_loop.proofs.ReportLemmas.{Shows}

module _ {S G C : Type 0} (status : S → Status) (known : List ℕ → Option ℕ) (may_give : C → ℕ → C → Type 0) where
  abbrev pub standing : Counter S G C → Status
  standing e = status e.bank.store

  abbrev pub gives : Counter S G C → ℕ → Counter S G C → Type 0
  gives = CounterGives may_give

  abbrev pub over : StoreAndClock (Counter S G C) (Counter S G C) → StoreAndClock S C
  over at = record { store = at.store.bank.store; clock = at.clock.clock }

  quiet_over : (before : List ℕ) (old new : StoreAndClock (Counter S G C) (Counter S G C)) (t : Turn) → IsQuiet standing known gives before old new t → IsQuiet status known may_give before (over old) (over new) t
  quiet_over before old new t q = record { held = q.held; none = q.none; no_run = q.no_run; none_asked = q.none_asked; same = ap over q.same }

  answering_over : (how : List ℕ → List ℕ → Type 0) (before : List ℕ) (old new : StoreAndClock (Counter S G C) (Counter S G C)) (t : Turn) → IsAnswering standing known gives how before old new t
      → IsAnswering status known may_give how before (over old) (over new) t
  answering_over how before old new t a = record {
    message = a.message;
    takes = a.takes;
    moment = a.moment;
    mark = a.mark;
    run = a.run;
    asked = a.asked;
    none_refused = a.none_refused;
    given = a.given.given;
    handled = a.handled;
  }

  breaking_over : (before : List ℕ) (old new : StoreAndClock (Counter S G C) (Counter S G C)) (t : Turn) → IsBreaking standing known gives before old new t → IsBreaking status known may_give before (over old) (over new) t
  breaking_over before old new t b = record {
    message = b.message;
    takes = b.takes;
    no_run = b.no_run;
    none_refused = b.none_refused;
    broken = record {
      moment = b.broken.moment;
      fault = b.broken.fault;
      given = b.broken.given.given;
      report = b.broken.report;
      kept = b.broken.kept;
      cause = b.broken.cause;
      headed = b.broken.headed;
      allowed = b.broken.allowed;
      begun = b.broken.begun;
    };
    asked = b.asked;
  }

  goes_over : (before : List ℕ) (old new : StoreAndClock (Counter S G C) (Counter S G C)) (t : Turn) → GoesOn standing known gives before old new t → GoesOn status known may_give before (over old) (over new) t
  unfolding answering_over
  goes_over before old new t (inl (by, (quiet, part, sent, refusal))) = inl (by, (quiet_over before old new t quiet, part, sent, refusal))
  goes_over before old new t (inr (by, a, open_still)) = inr (by, answering_over IsWhole before old new t a, open_still)

  last_over : (before : List ℕ) (old new : StoreAndClock (Counter S G C) (Counter S G C)) (t : Turn) → IsLast standing known gives before old new t → IsLast status known may_give before (over old) (over new) t
  unfolding answering_over
  last_over before old new t (inl (how, cut, (quiet, part, sent, refusal))) = inl (how, cut, (quiet_over before old new t quiet, part, sent, refusal))
  last_over before old new t (inr (inl (by, a, closing))) = inr (inl (by, answering_over IsWhole before old new t a, closing))
  last_over before old new t (inr (inr (inl (by, quiet, is, sent)))) = inr (inr (inl (by, quiet_over before old new t quiet, is, sent)))
  last_over before old new t (inr (inr (inr (inl (by, inl a))))) = inr (inr (inr (inl (by, inl (answering_over BeginsWith before old new t a)))))
  last_over before old new t (inr (inr (inr (inl (by, inr (quiet, is, begun)))))) = inr (inr (inr (inl (by, inr (quiet_over before old new t quiet, is, begun)))))
  last_over before old new t (inr (inr (inr (inr (by, b))))) = inr (inr (inr (inr (by, breaking_over before old new t b))))

  turn_over : (before next : Box) (old new : StoreAndClock (Counter S G C) (Counter S G C)) (t : Turn) → IsOneTurn standing known gives before next old new t → IsOneTurn status known may_give before next (over old) (over new) t
  turn_over before next old new t turn = record {
    open_still = turn.open_still;
    left = turn.left;
    waited = turn.waited;
    between = turn.between;
    sent = turn.sent;
    read = turn.read;
    waits = turn.waits;
    held = turn.held;
    bounded = turn.bounded;
    ended = turn.ended;
    is = elim turn.is [ inl goes ↦ inl (goes_over before.held old new t goes.0, goes.1) | inr last ↦ inr (last_over before.held old new t last.0, last.1) ];
  }

  pub turns_over : (begins : Option Ways → Bool) (boxes after : Boxes) (old new : StoreAndClock (Counter S G C) (Counter S G C)) (ts : List Turn) → AreTurns begins standing known gives boxes old ts after new
      → AreTurns begins status known may_give boxes (over old) ts after (over new)
  turns_over begins boxes after old new [] (is, same) = (is, ap over same)
  turns_over begins boxes after old new (t ∷ ts) (before, there, next, mid, turn, rest) =
      (before, there, next, over mid, turn_over before next old mid t turn, turns_over begins (with_box boxes t.who next) after mid new ts rest)

  -- the counter as its bank and its clock
  attended_over : (begins : Option Ways → Bool) (old new : Counter S G C) → AreAttended begins standing known gives (as_store_and_clock old) (as_store_and_clock new)
      → AreAttended begins status known may_give (record { store = old.bank.store; clock = old.clock }) (record { store = new.bank.store; clock = new.clock })
  attended_over begins old new a = record {
    turns = a.turns;
    after = a.after;
    are_turns = turns_over begins _ a.after (as_store_and_clock old) (as_store_and_clock new) a.turns a.are_turns;
    day = a.day;
    messages = a.messages;
    replied = a.replied;
    handed = a.handed;
    streams = a.streams;
  }

  rounds_over : (begins : Option Ways → Bool) (is_refused : Option Ways → Boxes → ℕ → Type 0) (is_excused : Boxes → ℕ → Type 0) (is_gone : List Round → Boxes → ℕ → Type 0) (before : List Round) (boxes after : Boxes)
      (old new : StoreAndClock (Counter S G C) (Counter S G C)) (rounds : List Round)
      → AreRounds begins is_refused is_excused is_gone standing known gives before boxes old rounds after new → AreRounds begins is_refused is_excused is_gone status known may_give before boxes (over old) rounds after (over new)
  rounds_over begins is_refused is_excused is_gone before boxes after old new [] (is, same) = (is, ap over same)
  rounds_over begins is_refused is_excused is_gone before boxes after old new (r ∷ rounds) (mid, are_turns, fair, rest) =
      (over mid, turns_over begins boxes r.after old mid r.turns are_turns, fair, rounds_over begins is_refused is_excused is_gone (before ++ r ∷ []) r.after after mid new rounds rest)

  -- round after round, too
  pub in_rounds_over : (begins : Option Ways → Bool) (is_refused : Option Ways → Boxes → ℕ → Type 0) (is_excused : Boxes → ℕ → Type 0) (is_gone : List Round → Boxes → ℕ → Type 0) (shows : Shows) (a b : Option (List (List Ready)))
      (old new : Counter S G C) → AreAttendedInRounds begins is_refused is_excused is_gone standing known gives shows a b (as_store_and_clock old) (as_store_and_clock new)
      → AreAttendedInRounds begins is_refused is_excused is_gone status known may_give shows a b (record { store = old.bank.store; clock = old.clock }) (record { store = new.bank.store; clock = new.clock })
  unfolding attended_over
  in_rounds_over begins is_refused is_excused is_gone shows a b old new is = record {
    attended = attended_over begins old new is.attended;
    rounds = is.rounds;
    all = is.all;
    are_turns = rounds_over begins is_refused is_excused is_gone [] _ is.attended.after (as_store_and_clock old) (as_store_and_clock new) is.rounds is.are_turns;
    read = is.read;
    last = is.last;
    one = is.one;
    reported = is.reported;
  }

  -- at a door, too
  pub at_door_over : {T : Type 0} (begins : Option Ways → Bool) (ways : T → Option Ways) (full failed : T → Type 0) (shows : Shows) (a b : Option (List (List Ready))) (given_old given_new : ℕ) (parted : Parted T) (old new : Counter S G C)
      → AreServedAtDoor begins ways full failed standing known gives shows a b given_old given_new parted (as_store_and_clock old) (as_store_and_clock new)
      → AreServedAtDoor begins ways full failed status known may_give shows a b given_old given_new parted (record { store = old.bank.store; clock = old.clock }) (record { store = new.bank.store; clock = new.clock })
  unfolding attended_over in_rounds_over
  at_door_over begins ways full failed shows a b given_old given_new parted old new is = record {
    served = in_rounds_over begins (IsRefused ways full failed) (IsStuck ways full failed) (WasLetGo ways full failed) shows a b old new is.served;
    at_door = is.at_door;
  }

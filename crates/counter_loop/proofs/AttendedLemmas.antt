-- Turns, whosever they are, are one run of the bank, in which each connection has its replies.
use Rattle.std.proofs.Common.{◌≡◌, ℕ, Bool, List, [], Option, Some, refl, arith}
use Rattle.store_rows.specs.Status.{Status}
use Rattle.counter_loop.specs.Attended.{AreAttended, IsSince}
use Rattle.counter_loop.specs.Round.{Round}
use Rattle.counter_loop.specs.Rounds.{AreAttendedInRounds}
use Rattle.counter_loop.specs.Turns.{AreTurns, StoreAndClock, Box, Boxes, Turn, nothing_yet}
use Rattle.counter_door.specs.Ways.{Ways}
use Rattle.counter_door.specs.declared.readiness.Ready.{Ready}
use Rattle.counter_loop.proofs.ReportLemmas.{Shows, reports_none}
use Rattle.counter_loop.proofs.StepLemmas.{as_steps}
use Rattle.counter_loop.proofs.ListLemmas.{all_on}
use Rattle.counter_loop.proofs.PartLemmas.{its_messages}
use Rattle.counter_loop.proofs.DueLemmas.{its_replies}
use Rattle.counter_loop.proofs.HandedLemmas.{its_bytes, its_stream}
use Rattle.counter_door.proofs.WayLemmas.{moves_none}

-- nothing went out since
pub since_now : (box : Box) → IsSince box box.ways box.waits
since_now box = record { out = []; waits = refl; read_since = []; none_received = λ e. refl; moved = moves_none box.ways }

module _ {S C : Type 0} (begins : Option Ways → Bool) (status : S → Status) (users : List ℕ → Option ℕ) (may_give : C → ℕ → C → Type 0) where
  abbrev pub attended : (old new : StoreAndClock S C) (turns : List Turn) (after : Boxes) → AreTurns begins status users may_give nothing_yet old turns after new
      → ((k : ℕ) (box : Box) → after k ≡ Some box → (last : Option Ways) × (rest : List ℕ) × IsSince box last rest) → AreAttended begins status users may_give old new
  attended old new turns after are_turns ended = record {
    turns = turns;
    after = after;
    are_turns = are_turns;
    day = (all_on status users may_give old new turns (as_steps begins status users may_give nothing_yet old new after turns are_turns)).day;
    messages = λ k. its_messages begins status users may_give k [] nothing_yet old new after turns refl are_turns;
    replied = λ h w held k. its_replies begins status users may_give k nothing_yet old new after turns are_turns h w held;
    handed = λ k. its_bytes begins status users may_give k [] nothing_yet old new after turns refl are_turns;
    streams = λ k box is. let end = ended k box is in its_stream begins status users may_give k box end.0 end.1 old new after turns is end.2 are_turns;
  }

  -- the first turns of them, as soon as they are over
  pub attended_so_far : (old new : StoreAndClock S C) (turns : List Turn) (after : Boxes) → AreTurns begins status users may_give nothing_yet old turns after new → AreAttended begins status users may_give old new
  attended_so_far old new turns after are_turns = attended old new turns after are_turns (λ k box is. (box.ways, box.waits, since_now box))

  pub attended_none : (is_refused : Option Ways → Boxes → ℕ → Type 0) (is_excused : Boxes → ℕ → Type 0) (is_gone : List Round → Boxes → ℕ → Type 0) (shows : Shows) (o : Option (List (List Ready))) (s : StoreAndClock S C)
      → AreAttendedInRounds begins is_refused is_excused is_gone status users may_give shows o o s s
  unfolding attended_so_far
  attended_none is_refused is_excused is_gone shows o s = record {
    attended = attended_so_far s s [] nothing_yet (refl, refl);
    rounds = [];
    all = refl;
    are_turns = (refl, refl);
    read = tt;
    last = [];
    one = omega arith;
    reported = reports_none o;
  }

  pub none_attended : (is_refused : Option Ways → Boxes → ℕ → Type 0) (is_excused : Boxes → ℕ → Type 0) (is_gone : List Round → Boxes → ℕ → Type 0) (shows : Shows) (o : Option (List (List Ready))) (s : StoreAndClock S C)
      → (attended_none is_refused is_excused is_gone shows o s).attended.turns ≡ []
  unfolding attended_none attended_so_far
  none_attended is_refused is_excused is_gone shows o s = refl

-- That rounds add something to turns: they do not hold where a connection is left out.
use Rattle.std.specs.Prelude.{◌≡◌, ◌<◌, ℕ, List, [], ◌∷◌, Contains, Option, Some, Bool, false}
use Rattle.store_rows.specs.Status.{Status}
use Rattle.counter_loop.specs.Attended.{AreAttended}
use Rattle.counter_loop.specs.Boxes.{HoldsWhole}
use Rattle.counter_loop.specs.Served.{most_turns, turns_of}
use Rattle.counter_loop.specs.Turns.{StoreAndClock, Box, Turn, whose}
use Rattle.counter_door.specs.Ways.{Ways}

-- Two connections, of which one is left out. After its one turn, the first of all, it holds a whole message still, nothing waits for its client, and it may
-- have a further turn. It has none, and another has more turns than one has in a round.
pub record IsLeftOut {S C : Type 0} (begins : Option Ways → Bool) (status : S → Status) (users : List ℕ → Option ℕ) (may_give : C → ℕ → C → Type 0) (old new : StoreAndClock S C)
    (attended : AreAttended begins status users may_give old new) : Type 0 where
  pub first : Turn
  pub later : List Turn
  pub turns : attended.turns ≡ first ∷ later
  pub box : Box
  pub there : attended.after first.who ≡ Some box
  pub open_still : box.is_over ≡ false
  pub whole : HoldsWhole box.held
  pub sent : box.waits ≡ []
  pub alone : ¬ (Contains (whose later) first.who)
  pub other : ℕ
  pub many : most_turns < turns_of other (whose (first ∷ later))

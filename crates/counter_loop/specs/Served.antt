-- How a visit leaves connections: nothing whole that one holds is forgotten, and each that waits for a visit has one.
use Rattle.std.specs.Prelude.{◌≡◌, ◌≢◌, ◌⊎◌, ◌≤◌, ℕ, suc, Bool, List, [], ◌∷◌, All, Contains, length, nat_eq, if◌then◌else◌, Option, Some, None, true, false}
use Rattle.slab.specs.Slab.{get}
use Rattle.std.specs.declared.time.Instant.{Instant}
use Rattle.http_messages.specs.Next.{IsPartial}
use Rattle.store_rows.specs.Status.{Status}
use Rattle.counter_loop.specs.Boxes.{AreApart, AreVisited, Drains, IsDone, IsVisited}
use Rattle.counter_loop.specs.Ends.{IsTimed, KeepsTime}
use Rattle.counter_door.specs.Ways.{IsAsked, Ways}
use Rattle.counter_loop.specs.declared.client.AfterTurn.{AfterTurn}
use Rattle.counter_loop.specs.declared.client.AfterTurn.TheVariants.{Answered, Closes, UsedUp}
use Rattle.counter_loop.specs.declared.client.Client.{Client}
use Rattle.counter_loop.specs.declared.client.WaitsFor.TheVariants as For
use Rattle.counter_loop.specs.declared.clients.Clients.{Clients}

-- how many turns a connection has at most before others have theirs
abbrev pub most_turns : ℕ
most_turns = 16

-- how many of these turns are of one number
abbrev pub turns_of : ℕ → List ℕ → ℕ
turns_of n [] = 0
turns_of n (w ∷ ws) = if nat_eq w n then suc (turns_of n ws) else turns_of n ws

-- turns of these numbers are of one connection, and no more than it may have at once
pub record AreOfOne (n : ℕ) (ws : List ℕ) : Type 0 where
  pub its : All (λ w. w ≡ n) ws
  pub few : length ws ≤ most_turns

-- What a stream's last read and its last write said: nothing more is at hand, and no more is taken.
module _ {T : Type 0} (used_up full : T → Type 0) where
  -- less than a whole message is held, and nothing more is at hand
  pub record IsUsedUp (c : Client T) : Type 0 where
    pub part : IsPartial c.connection.held
    pub none : used_up c.stream

  -- how a turn leaves its connection
  abbrev pub IsAfter : AfterTurn → Client T → Type 0
  IsAfter Answered c = c.connection.is_closing ≡ false
  IsAfter UsedUp c = (c.connection.is_closing ≡ false) × IsUsedUp c
  IsAfter Closes c = c.connection.is_closing ≡ true

module _ {T : Type 0} (ways : T → Option Ways) (used_up full failed : T → Type 0) where
  -- How a visit leaves a connection that is neither over nor closing. It had a turn, or bytes wait in its outbox, and its stream was asked to take
  -- some. If it holds a whole message, or what begins none, it waits for a further visit, or bytes wait. If it waits for its client, and no bytes wait,
  -- less than a whole message is held, and nothing more was at hand. If bytes wait, no more was taken.
  pub record IsServedOut (took_a_turn : Type 0) (before : Option Ways) (c : Client T) : Type 0 where
    pub turned : took_a_turn ⊎ ((c.connection.unsent ≢ []) × IsAsked before (ways c.stream))
    pub owed : ¬ (IsPartial c.connection.held) → (c.waits_for ≡ For.Visit) ⊎ (c.connection.unsent ≢ [])
    pub read : c.waits_for ≡ For.Client → c.connection.unsent ≡ [] → IsUsedUp used_up full c
    pub written : c.connection.unsent ≢ [] → full c.stream

  abbrev pub IsLeft : Type 0 → Option Ways → Client T → Type 0
  IsLeft took_a_turn before c = c.waits_for ≢ For.Nothing → c.connection.is_closing ≡ false → IsServedOut took_a_turn before c

  -- It is over with no turn: it is closing, or bytes wait, and its stream, which was asked to take some, failed.
  abbrev pub IsGone : Client T → Type 0
  IsGone c = (d : Client T) × Drains ways c d × IsDone failed d × ((d.connection.is_closing ≡ true) ⊎ IsAsked (ways c.stream) (ways d.stream))

module _ {T : Type 0} (ways : T → Option Ways) (used_up full failed : T → Type 0) (now : Instant) where
  -- what became of a connection that was visited at this reading: it is over, and gone, or is there as its visit left it
  abbrev pub IsThereAfter : Type 0 → Client T → Option (Client T) → Type 0
  IsThereAfter took_a_turn c None = took_a_turn ⊎ IsGone ways used_up full failed c
  IsThereAfter took_a_turn c (Some d) =
      (d.serial ≡ c.serial) × (d.waits_for ≢ For.Nothing) × IsLeft ways used_up full failed took_a_turn (ways c.stream) d × (d.connection.is_closing ≡ false → IsTimed now c d)

  abbrev pub IsServedAt : Option (Client T) → Option (Client T) → List ℕ → Type 0
  IsServedAt None after ws = (after ≡ None) × (ws ≡ [])
  IsServedAt (Some c) after ws = AreOfOne c.serial ws × IsThereAfter (ws ≢ []) c after

module _ {T E : Type 0} (begins : Option Ways → Bool) (ways : T → Option Ways) (used_up full failed : T → Type 0) (now : Instant) (status : E → Status) (users : E → List ℕ → Option ℕ) (may_give : E → ℕ → E → Type 0) where
  -- a connection had turns, one at least, until nothing more was at hand, or it is closing, or it had as many as it may have at once
  pub record TakesTurns (c d : Client T) (old new : E) (has_more : Bool) : Type 0 where
    pub by : List ℕ
    pub visited : IsVisited begins ways status users may_give by c d old new
    pub some : by ≢ []
    pub of_one : AreOfOne c.serial by
    pub serial : d.serial ≡ c.serial
    pub left : d.connection.is_closing ≡ false → has_more ≡ false → IsUsedUp used_up full d
    pub keeps : d.connection.is_closing ≡ false → KeepsTime now c d

  -- a connection was visited, and it is done if nothing is waited for then
  pub record IsServed (c d : Client T) (old new : E) : Type 0 where
    pub by : List ℕ
    pub visited : IsVisited begins ways status users may_give by c d old new
    pub of_one : AreOfOne c.serial by
    pub serial : d.serial ≡ c.serial
    pub left : IsLeft ways used_up full failed (by ≢ []) (ways c.stream) d
    pub timed : d.waits_for ≢ For.Nothing → d.connection.is_closing ≡ false → IsTimed now c d
    pub over : d.waits_for ≡ For.Nothing → IsDone failed d × ((by ≢ []) ⊎ IsGone ways used_up full failed c)

  -- the connection under a key was visited, if there is one, and the others are as they were
  pub record IsServedUnder (key : ℕ) (from to : Clients T) (old new : E) : Type 0 where
    pub by : List ℕ
    pub visited : AreVisited begins ways full failed status users may_give by from to old new
    pub its : IsServedAt ways used_up full failed now (get from.slab key) (get to.slab key) by
    pub others : (k : ℕ) → k ≢ key → get to.slab k ≡ get from.slab k
    pub next : to.next ≡ from.next

  -- Each connection of which this holds was visited once, and the others are as they were, and had no turn.
  pub record EachIsServed (is : Client T → Type 0) (from to : Clients T) (old new : E) : Type 0 where
    pub by : List ℕ
    pub visited : AreVisited begins ways full failed status users may_give by from to old new
    pub each : (key : ℕ) (c : Client T) → get from.slab key ≡ Some c → is c → IsThereAfter ways used_up full failed now (Contains by c.serial) c (get to.slab key)
    pub others : (key : ℕ) (c : Client T) → get from.slab key ≡ Some c → ¬ (is c) → get to.slab key ≡ Some c
    pub none : (key : ℕ) → get from.slab key ≡ None → get to.slab key ≡ None
    pub alone : (n : ℕ) → Contains by n → (key : ℕ) × (c : Client T) × (get from.slab key ≡ Some c) × is c × (c.serial ≡ n)
    pub few : AreApart from → (n : ℕ) → turns_of n by ≤ most_turns
    pub next : to.next ≡ from.next

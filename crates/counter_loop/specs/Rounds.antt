-- The rounds of the loop: in each, who was reported is visited, and who waits for another visit. So whoever holds a whole message has a turn in each.
use Rattle.std.specs.Prelude.{◌≡◌, ◌≢◌, ◌⊎◌, ◌≤◌, ℕ, Bool, List, [], ◌∷◌, ◌++◌, length, map, Contains, Option, Some, None, true, false, ⊤}
use Rattle.slab.specs.Slab.{get}
use Rattle.std.specs.declared.time.Instant.{Instant}
use Rattle.store_rows.specs.Status.{Status}
use Rattle.reports.specs.Report.{BeginsWith}
use Rattle.counter_loop.specs.Attended.{AreAttended, AreOfDoor}
use Rattle.counter_loop.specs.Boxes.{AreApart, AreVisited, HoldsWhole, IsHeld, IsOver, IsRefused, IsStuck, Suits, WasLetGo, called}
use Rattle.counter_loop.specs.Ends.{AreTimed, batch_since}
use Rattle.counter_door.specs.Readiness.{IsReadAt, Reports, with_reports}
use Rattle.counter_loop.specs.Round.{AreRead, HoldsFrom, IsAt, LastsSince, Round, Standing, joined, reports_of}
use Rattle.counter_loop.specs.Served.{IsThereAfter, most_turns, turns_of}
use Rattle.counter_loop.specs.Turns.{AreTurns, StoreAndClock, Box, Boxes, Turn, as_store_and_clock, nothing_yet, whose}
use Rattle.counter_door.specs.Ways.{Ways}
use Rattle.counter_loop.specs.declared.client.Client.{Client}
use Rattle.counter_loop.specs.declared.client.WaitsFor.TheVariants as For
use Rattle.counter_loop.specs.declared.clients.Clients.{Clients}
use Rattle.counter_door.specs.declared.parted.Parted.{Parted}
use Rattle.counter_door.specs.declared.readiness.Ready.{Ready}
use Rattle.counter_door.specs.declared.readiness.Ready.TheVariants.{Connection}

-- a connection is due a visit: it was reported under its key, or it waits for another visit
abbrev pub IsDue : {T : Type 0} → List Ready → ℕ → Client T → Type 0
IsDue ready key c = Contains ready (Connection key) ⊎ (c.waits_for ≡ For.Visit)

-- Whoever is under these keys waits for a visit, and nothing else changed.
pub record IsCalled {T : Type 0} (is : ℕ → Type 0) (from to : Clients T) : Type 0 where
  pub next : to.next ≡ from.next
  pub parted : to.parted ≡ from.parted
  pub each : (key : ℕ) (c : Client T) → get from.slab key ≡ Some c → is key → get to.slab key ≡ Some (called c)
  pub either : (key : ℕ) (c : Client T) → get from.slab key ≡ Some c → (get to.slab key ≡ Some c) ⊎ (get to.slab key ≡ Some (called c))
  pub none : (key : ℕ) → get from.slab key ≡ None → get to.slab key ≡ None

module _ {T E : Type 0} (begins : Option Ways → Bool) (ways : T → Option Ways) (used_up full failed : T → Type 0) (now : Instant) (status : E → Status) (users : E → List ℕ → Option ℕ) (may_give : E → ℕ → E → Type 0) where
  -- Connections were visited at this reading, one after another, each that was due among them, and none twice. Whichever was not is as it was, and no turn is of
  -- others.
  pub record IsRound (is_due : ℕ → Client T → Type 0) (from to : Clients T) (old new : E) : Type 0 where
    pub by : List ℕ
    pub visited : AreVisited begins ways full failed status users may_give by from to old new
    pub each : (key : ℕ) (c : Client T) → get from.slab key ≡ Some c → is_due key c → IsThereAfter ways used_up full failed now (Contains by c.serial) c (get to.slab key)
    pub either : (key : ℕ) (c : Client T) → get from.slab key ≡ Some c → (get to.slab key ≡ Some c) ⊎ IsThereAfter ways used_up full failed now (Contains by c.serial) c (get to.slab key)
    pub none : (key : ℕ) → get from.slab key ≡ None → get to.slab key ≡ None
    pub alone : (n : ℕ) → Contains by n → IsHeld begins ways from n
    pub few : AreApart from → (n : ℕ) → turns_of n by ≤ most_turns
    pub next : to.next ≡ from.next

module _ {T : Type 0} (begins : Option Ways → Bool) (ways : T → Option Ways) (full failed : T → Type 0) where
  -- what is whole in one that is held is not forgotten: it waits for a visit, or its client took no more
  abbrev pub IsMinded : Client T → Type 0
  IsMinded c = c.connection.is_closing ≡ false → ((HoldsWhole c.connection.held → (c.waits_for ≡ For.Visit) ⊎ (c.connection.unsent ≢ [])) × (c.connection.unsent ≢ [] → full c.stream))

  -- What one that is held is waited for was so after each round since: the bytes that wait for its client, and the message that it began.
  pub record IsWaitedFor (rounds : List Round) (c : Client T) : Type 0 where
    pub waits : AreTimed c
    pub part : (since : Instant) → c.times.message ≡ Some since → (part : List ℕ) × (part ≢ []) × BeginsWith c.connection.held part × LastsSince rounds since (HoldsFrom part c.serial)
    pub batch : (since : Instant) → batch_since c.times ≡ Some since → LastsSince rounds since (λ boxes. IsStuck ways full failed boxes c.serial)

  -- By the rounds so far, connections suit what there is of each, nobody is forgotten, and nobody is waited for since before it was so.
  pub record Fits (rounds : List Round) (clients : Clients T) (boxes : Boxes) : Type 0 where
    pub suits : Suits begins ways full failed rounds clients boxes
    pub minded : (key : ℕ) (c : Client T) → get clients.slab key ≡ Some c → IsMinded c
    pub timed : (key : ℕ) (c : Client T) → get clients.slab key ≡ Some c → c.connection.is_closing ≡ false → IsWaitedFor rounds c

  -- connections were let in or let go, and no turn was taken
  abbrev pub StaysFit : Clients T → Clients T → Type 0
  StaysFit old new = (rounds : List Round) (boxes : Boxes) → Fits rounds old boxes → Fits rounds new boxes

  -- the same after a round at this reading
  abbrev pub StaysFitAt : Instant → Clients T → Clients T → Type 0
  StaysFitAt now old new = (rounds : List Round) (boxes : Boxes) → IsAt rounds now → Fits rounds old boxes → Fits rounds new boxes

module _ {T E : Type 0} (begins : Option Ways → Bool) (ways : T → Option Ways) (used_up full failed : T → Type 0) (shows : Option (List (List Ready)) → Instant → Bool) (status : E → Status) (users : E → List ℕ → Option ℕ) (may_give : E → ℕ → E → Type 0) where
  -- Rounds, one after another, each at a reading of the clock, in each of which whoever was reported, or waits for a visit, is due.
  abbrev pub RoundsOn : Option (List (List Ready)) → List (List Ready) → Clients T → Clients T → E → E → Type 0
  RoundsOn kept [] from to old new = (to ≡ from) × (new ≡ old)
  RoundsOn kept (ready ∷ later) from to old new =
      (now : Instant) × IsReadAt shows kept ready now × (mid : Clients T) × (at : E) × IsRound begins ways used_up full failed now status users may_give (IsDue ready) from mid old at
      × RoundsOn (with_reports kept (ready ∷ [])) later mid to at new

  -- the same after a first round at this reading, in which each was due, and each by the reports of a wait: all of these waits but for the last, if that failed
  pub record GoOn (now : Instant) (from to : Clients T) (old new : E) (reported_old reported_new : Option (List (List Ready))) : Type 0 where
    pub mid : Clients T
    pub at : E
    pub begun : IsRound begins ways used_up full failed now status users may_give (λ _ _. ⊤) from mid old at
    pub later : List (List Ready)
    pub rounds : RoundsOn reported_old later mid to at new
    pub last : List (List Ready)
    pub one : length last ≤ 1
    pub reported : Reports reported_old reported_new (later ++ last)

-- whatever the clock shows
abbrev pub any_reading : Option (List (List Ready)) → Instant → Bool
any_reading kept now = true

-- In a round one had a turn, or had its last by its end, or is excused then.
abbrev pub IsServedIn : (Boxes → ℕ → Type 0) → Boxes → List Turn → ℕ → Type 0
IsServedIn is_excused between turns k = Contains (whose turns) k ⊎ (IsOver between k ⊎ is_excused between k)

-- Nobody is left out of a round. Whoever had a turn before is held as it begins, under some key, or was let go for a cause. Whoever is held and is
-- reported under its key has a turn in it, unless it had its last, or its stream, which was asked in this round, took no more; and so has whoever holds
-- a whole message, unless it had its last, or is excused. No other has a turn, and nobody has more than 16. So nobody waits for longer than others have
-- 16 turns each.
pub record IsFair (is_refused : Option Ways → Boxes → ℕ → Type 0) (is_excused is_gone : Boxes → ℕ → Type 0) (boxes : Boxes) (r : Round) : Type 0 where
  pub held : (k : ℕ) (box : Box) → boxes k ≡ Some box → ((key : ℕ) × (s : Standing) × (r.there key ≡ Some s) × (s.who ≡ k)) ⊎ is_gone boxes k
  pub reported : (key : ℕ) (s : Standing) → r.there key ≡ Some s → Contains r.ready (Connection key) → IsServedIn (is_refused s.ways) r.after r.turns s.who
  pub whole : (k : ℕ) (box : Box) → boxes k ≡ Some box → box.is_over ≡ false → HoldsWhole box.held → IsServedIn is_excused r.after r.turns k
  pub alone : (k : ℕ) → Contains (whose r.turns) k → (key : ℕ) × (s : Standing) × (r.there key ≡ Some s) × (s.who ≡ k)
  pub few : (k : ℕ) → turns_of k (whose r.turns) ≤ most_turns

module _ {S C : Type 0} (begins : Option Ways → Bool) (is_refused : Option Ways → Boxes → ℕ → Type 0) (is_excused : Boxes → ℕ → Type 0) (is_gone : List Round → Boxes → ℕ → Type 0) (status : S → Status) (users : List ℕ → Option ℕ)
    (may_give : C → ℕ → C → Type 0) where
  -- turns, round after round, of which nobody is left out, after these rounds
  abbrev pub AreRounds : List Round → Boxes → StoreAndClock S C → List Round → Boxes → StoreAndClock S C → Type 0
  AreRounds before boxes old [] after new = (after ≡ boxes) × (new ≡ old)
  AreRounds before boxes old (r ∷ rounds) after new =
      (mid : StoreAndClock S C) × AreTurns begins status users may_give boxes old r.turns r.after mid
      × IsFair is_refused is_excused (is_gone before) boxes r × AreRounds (before ++ r ∷ []) r.after mid rounds after new

  -- Connections were served at once, round after round, each at a reading of the clock. There was a round for each wait, by what that reported, but for the
  -- last, if it failed.
  pub record AreAttendedInRounds (shows : Option (List (List Ready)) → Instant → Bool) (reported_old reported_new : Option (List (List Ready))) (old new : StoreAndClock S C) : Type 0 where
    pub attended : AreAttended begins status users may_give old new
    pub rounds : List Round
    pub all : attended.turns ≡ joined rounds
    pub are_turns : AreRounds [] nothing_yet old rounds attended.after new
    pub read : AreRead shows reported_old rounds
    pub last : List (List Ready)
    pub one : length last ≤ 1
    pub reported : Reports reported_old reported_new (reports_of rounds ++ last)

module _ {T E : Type 0} (begins : Option Ways → Bool) (ways : T → Option Ways) (full failed : T → Type 0) (status : E → Status) (users : List ℕ → Option ℕ) (may_give : E → ℕ → E → Type 0) where
  -- the same, after which these connections are held
  pub record AreServedInRounds (shows : Option (List (List Ready)) → Instant → Bool) (reported_old reported_new : Option (List (List Ready))) (clients : Clients T) (old new : E) : Type 0 where
    pub is : AreAttendedInRounds begins (IsRefused ways full failed) (IsStuck ways full failed) (WasLetGo ways full failed) status users may_give shows reported_old reported_new (as_store_and_clock old) (as_store_and_clock new)
    pub suits : Suits begins ways full failed is.rounds clients is.attended.after

module _ {T S C : Type 0} (begins : Option Ways → Bool) (ways : T → Option Ways) (full failed : T → Type 0) (status : S → Status) (users : List ℕ → Option ℕ) (may_give : C → ℕ → C → Type 0) where
  -- The connections that a door gave were served in rounds, and all of them were let go.
  pub record AreServedAtDoor (shows : Option (List (List Ready)) → Instant → Bool) (reported_old reported_new : Option (List (List Ready))) (given_old given_new : ℕ) (parted : Parted T) (old new : StoreAndClock S C) : Type 0 where
    pub served : AreAttendedInRounds begins (IsRefused ways full failed) (IsStuck ways full failed) (WasLetGo ways full failed) status users may_give shows reported_old reported_new old new
    pub at_door : AreOfDoor begins given_old given_new (map ways parted.log.items) served.attended.turns

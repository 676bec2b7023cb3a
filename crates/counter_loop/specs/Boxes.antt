-- The connections that a loop has, beside what there is of each by its number.
use Rattle.std.specs.Prelude.{◌≡◌, ◌≢◌, ◌⊎◌, ◌<◌, ◌≤◌, ℕ, Bool, List, [], ◌∷◌, ◌++◌, Contains, Option, Some, None, false, true, ⊤}
use Rattle.slab.specs.Slab.{get}
use Rattle.http_messages.specs.Next.{IsPartial}
use Rattle.store_rows.specs.Status.{Status}
use Rattle.counter_loop.specs.Attended.{AreDistinct, IsSince}
use Rattle.counter_loop.specs.Round.{IsLate, IsLatePart, Round}
use Rattle.counter_loop.specs.Turns.{AreTurns, Box, Boxes, IsThere, Turn, as_store_and_clock, whose}
use Rattle.counter_door.specs.Ways.{IsAsked, Moves, Ways}
use Rattle.counter_loop.specs.declared.client.Client.{Client}
use Rattle.counter_loop.specs.declared.client.WaitsFor.TheVariants as For
use Rattle.counter_loop.specs.declared.clients.Clients.{Clients}

-- a whole message is held, or what begins none
abbrev pub HoldsWhole : List ℕ → Type 0
HoldsWhole held = (held ≢ []) × ¬ (IsPartial held)

-- it had its last turn
abbrev pub IsOver : Boxes → ℕ → Type 0
IsOver boxes k = (box : Box) × (boxes k ≡ Some box) × (box.is_over ≡ true)

-- What a stream's last write said: it failed.
module _ {T : Type 0} (failed : T → Type 0) where
  -- its last turn is over, or bytes wait for it, and its stream failed
  abbrev pub IsDone : Client T → Type 0
  IsDone c = (c.connection.is_closing ≡ true) ⊎ ((c.connection.unsent ≢ []) × failed c.stream)

  -- a connection may be let go that is done, or on which nothing is under way
  abbrev pub IsOut : Client T → Type 0
  IsOut c = IsDone c ⊎ ((c.connection.held ≡ []) × (c.connection.unsent ≡ []))

  -- the one under a key may be let go, if there is one
  abbrev pub MayGo : Clients T → ℕ → Type 0
  MayGo clients key = (c : Client T) → get clients.slab key ≡ Some c → IsOut c

module _ {T : Type 0} (ways : T → Option Ways) (full failed : T → Type 0) where
  -- since its last turn its stream took no more, or failed, and this still waits for it
  pub record IsStuck (boxes : Boxes) (k : ℕ) : Type 0 where
    pub box : Box
    pub there : boxes k ≡ Some box
    pub stream : T
    pub rest : List ℕ
    pub since : IsSince box (ways stream) rest
    pub some : rest ≢ []
    pub refused : full stream ⊎ failed stream

  -- Why one was let go, with this still waiting for its client: it had its last turn; or its stream failed, or took no more for too long; or nothing was
  -- under way; or the message of which a part is held came no further for too long.
  abbrev pub IsCause : List Round → ℕ → Box → T → List ℕ → Type 0
  IsCause rounds k box stream rest =
      (box.is_over ≡ true)
      ⊎ (((rest ≢ []) × (failed stream ⊎ (full stream × IsLate rounds (λ boxes. IsStuck boxes k))))
      ⊎ ((rest ≡ []) × ((box.held ≡ []) ⊎ ((¬ (HoldsWhole box.held)) × IsLatePart rounds k box.held))))

  -- By the rounds so far it was let go, with its stream as it was after its last turn, but for what went out since.
  pub record IsLetGo (rounds : List Round) (k : ℕ) (box : Box) : Type 0 where
    pub stream : T
    pub rest : List ℕ
    pub since : IsSince box (ways stream) rest
    pub why : IsCause rounds k box stream rest

  -- one of this number was let go so
  abbrev pub WasLetGo : List Round → Boxes → ℕ → Type 0
  WasLetGo rounds boxes k = (box : Box) × (boxes k ≡ Some box) × IsLetGo rounds k box

  -- the same, and it was asked since this
  pub record IsRefused (before : Option Ways) (boxes : Boxes) (k : ℕ) : Type 0 where
    pub stuck : IsStuck boxes k
    pub asked : IsAsked before (ways stuck.stream)

-- the same connection, which waits for a visit
abbrev pub called : {T : Type 0} → Client T → Client T
called c = record c { waits_for = For.Visit }

-- after these streams, that of the one under a key was let go, if there is one
abbrev pub IsPartedAfter : {T : Type 0} → List T → List T → Option (Client T) → Type 0
IsPartedAfter old new None = new ≡ old
IsPartedAfter old new (Some c) = new ≡ old ++ c.stream ∷ []

-- no two have one number
module _ {T : Type 0} where
  abbrev pub AreApart : Clients T → Type 0
  AreApart clients = (i j : ℕ) (c d : Client T) → get clients.slab i ≡ Some c → get clients.slab j ≡ Some d → c.serial ≡ d.serial → i ≡ j

-- bytes were read of its stream into its inbox, and nothing else was done
pub record Reads {T : Type 0} (ways : T → Option Ways) (old new : Client T) : Type 0 where
  pub serial : new.serial ≡ old.serial
  pub closing : new.connection.is_closing ≡ old.connection.is_closing
  pub unsent : new.connection.unsent ≡ old.connection.unsent
  pub came : List ℕ
  pub held : new.connection.held ≡ old.connection.held ++ came
  pub moved : Moves (ways old.stream) (ways new.stream) came []

-- bytes went out of its outbox to its stream, from the front; if it is closing what was read of it was let go; and nothing else was done
pub record Drains {T : Type 0} (ways : T → Option Ways) (old new : Client T) : Type 0 where
  pub serial : new.serial ≡ old.serial
  pub held : new.connection.held ≡ old.connection.held
  pub closing : new.connection.is_closing ≡ old.connection.is_closing
  pub out : List ℕ
  pub unsent : old.connection.unsent ≡ out ++ new.connection.unsent
  pub read_since : List ℕ
  pub none_received : old.connection.is_closing ≡ false → read_since ≡ []
  pub moved : Moves (ways old.stream) (ways new.stream) read_since out

module _ {T : Type 0} (begins : Option Ways → Bool) (ways : T → Option Ways) where
  -- It is there under its number: its inbox has what is held on, and its stream and its outbox are as they were after its last turn, but for
  -- what went out since.
  pub record IsBoxed (boxes : Boxes) (c : Client T) : Type 0 where
    pub box : Box
    pub there : IsThere begins (boxes c.serial) box
    pub over : box.is_over ≡ c.connection.is_closing
    pub held : box.is_over ≡ false → box.held ≡ c.connection.held
    pub since : IsSince box (ways c.stream) c.connection.unsent

  -- One of them has this number.
  abbrev pub IsHeld : Clients T → ℕ → Type 0
  IsHeld clients n = (key : ℕ) × (c : Client T) × (get clients.slab key ≡ Some c) × (c.serial ≡ n)

  -- It was let go so: with its stream as that was after its last turn, but for what went out since; or, if it had no turn, as one begins.
  pub record IsPartedAs (boxes : Boxes) (k : ℕ) (stream : T) : Type 0 where
    pub box : Box
    pub there : IsThere begins (boxes k) box
    pub rest : List ℕ
    pub since : IsSince box (ways stream) rest

  -- and these were, one after another
  abbrev pub ArePartedAs : Boxes → List ℕ → List T → Type 0
  ArePartedAs boxes [] [] = ⊤
  ArePartedAs boxes [] (stream ∷ streams) = ⊥
  ArePartedAs boxes (k ∷ who) [] = ⊥
  ArePartedAs boxes (k ∷ who) (stream ∷ streams) = IsPartedAs boxes k stream × ArePartedAs boxes who streams

  -- Whoever was given a number is held, or was let go, and nobody is both. Those that were let go had these numbers, and no two had one.
  pub record AreParted (clients : Clients T) (boxes : Boxes) : Type 0 where
    pub who : List ℕ
    pub distinct : AreDistinct who
    pub each : ArePartedAs boxes who clients.parted.log.items
    pub all : (n : ℕ) → n < clients.next → IsHeld clients n ⊎ Contains who n
    pub gone : (n : ℕ) → Contains who n → (n < clients.next) × ¬ (IsHeld clients n)

module _ {T : Type 0} (begins : Option Ways → Bool) (ways : T → Option Ways) (full failed : T → Type 0) where
  -- Each connection is there under its number, and no two have one number. No number that is yet to be given was used. Whichever had a turn is
  -- still held, or was let go by the rounds so far; and whichever was let go was handed back.
  pub record Suits (rounds : List Round) (clients : Clients T) (boxes : Boxes) : Type 0 where
    pub boxed : (key : ℕ) (c : Client T) → get clients.slab key ≡ Some c → IsBoxed begins ways boxes c
    pub given : (key : ℕ) (c : Client T) → get clients.slab key ≡ Some c → c.serial < clients.next
    pub apart : AreApart clients
    pub fresh : (n : ℕ) → clients.next ≤ n → boxes n ≡ None
    pub ended : (n : ℕ) (box : Box) → boxes n ≡ Some box → IsHeld begins ways clients n ⊎ IsLetGo ways full failed rounds n box
    pub parted : AreParted begins ways clients boxes

  -- no turn was taken
  abbrev pub StaysSuited : Clients T → Clients T → Type 0
  StaysSuited old new = (rounds : List Round) (boxes : Boxes) → Suits rounds old boxes → Suits rounds new boxes

  -- all were let go
  pub record AreAllParted (old new : Clients T) : Type 0 where
    pub next : new.next ≡ old.next
    pub none : (key : ℕ) (c : Client T) → ¬ (get new.slab key ≡ Some c)
    pub parted : (rounds : List Round) (boxes : Boxes) → Suits rounds old boxes → AreParted begins ways new boxes

-- over what answers, which is one value, and names the same users throughout
module _ {T E : Type 0} (begins : Option Ways → Bool) (ways : T → Option Ways) (status : E → Status) (users : E → List ℕ → Option ℕ) (may_give : E → ℕ → E → Type 0) where
  -- A connection had turns, some or none, of these numbers one after another: so it is there under its number, and no other number is concerned.
  pub record HasTurns (ws : List ℕ) (boxes : Boxes) (c d : Client T) (old new : E) : Type 0 where
    pub turns : List Turn
    pub after : Boxes
    pub are_turns : AreTurns begins status (users old) may_give boxes (as_store_and_clock old) turns after (as_store_and_clock new)
    pub by : whose turns ≡ ws
    pub others : (n : ℕ) → n ≢ c.serial → after n ≡ boxes n
    pub serial : d.serial ≡ c.serial
    pub boxed : IsBoxed begins ways after d
    pub same : users new ≡ users old

  -- the same from any boxes in which it is there
  abbrev pub IsVisited : List ℕ → Client T → Client T → E → E → Type 0
  IsVisited ws c d old new = (boxes : Boxes) → IsBoxed begins ways boxes c → HasTurns ws boxes c d old new

module _ {T E : Type 0} (begins : Option Ways → Bool) (ways : T → Option Ways) (full failed : T → Type 0) (status : E → Status) (users : E → List ℕ → Option ℕ) (may_give : E → ℕ → E → Type 0) where
  -- connections had turns, some or none, and suit what there is of them then
  pub record AreServed (ws : List ℕ) (rounds : List Round) (boxes : Boxes) (to : Clients T) (old new : E) : Type 0 where
    pub turns : List Turn
    pub after : Boxes
    pub are_turns : AreTurns begins status (users old) may_give boxes (as_store_and_clock old) turns after (as_store_and_clock new)
    pub by : whose turns ≡ ws
    pub suits : Suits begins ways full failed rounds to after
    pub same : users new ≡ users old

  abbrev pub AreVisited : List ℕ → Clients T → Clients T → E → E → Type 0
  AreVisited ws from to old new = (rounds : List Round) (boxes : Boxes) → Suits begins ways full failed rounds from boxes → AreServed ws rounds boxes to old new

-- Connections that came to a place, served at once over any store.
use Rattle.std.specs.Prelude.{◌≡◌, ◌⊎◌, ℕ, ⊤, Bool, List, [], map, Option, None, Result, Err, IfErr, IfOk, IsErrAnd}
use Rattle.std.proofs.Common.{inl, inr}
use Rattle.std.specs.declared.time.Instant.{Instant}
use Rattle.bank_books.specs.WorldLists.{WorldLists}
use Rattle.store_rows.specs.Status.{Status}
use Rattle.store_cached.specs.Standing.{below, cached_status, known_version, remembered}
use Rattle.store_cached.specs.declared.cached.Cached.{Cached}
use Rattle.exit_lines.specs.Streams.{GetsAll, GetsBeginning, Stream}
use Rattle.counter_api.specs.Run.{MarkedMessage}
use Rattle.counter_places.specs.Places.{listening_line}
use Rattle.counter_places.specs.declared.place.Place.{Place}
use Rattle.counter_loop.specs.Attended.{AreAnswered, AreOfDoor}
use Rattle.counter_loop.specs.Boxes.{IsRefused, IsStuck, WasLetGo}
use Rattle.counter_door.specs.Readiness.{HasEnded}
use Rattle.counter_loop.specs.Rounds.{AreAttendedInRounds, AreServedAtDoor}
use Rattle.counter_loop.specs.Turns.{StoreAndClock, one_list}
use Rattle.counter_door.specs.Ways.{Ways, is_new}
use Rattle.counter_door.specs.declared.parted.Parted.{Parted}
use Rattle.counter_door.specs.declared.readiness.Ready.{Ready}
use Rattle.cli_file.specs.declared.fault.ActionFault.{ActionFault}
use Rattle.cli_file.specs.declared.fault.ActionFault.TheVariants as fault
use Rattle.cli_file.specs.declared.left.PathLeft.{PathLeft}
use Rattle.cli_file.specs.declared.left.PathLeft.TheVariants as path
use Rattle.cli_counter.specs.Faults.{IsOfCounter}
use Rattle.cli_counter.specs.Places.{IsUnvisited, Kind}
use Rattle.cli_counter.specs.declared.places.Visited.{Visited}

module _ {T S C : Type 0} (begins : Option Ways → Bool) (ways : T → Option Ways) (full failed : T → Type 0) (status : S → Status) (users : List ℕ → Option ℕ) (may_give : C → ℕ → C → Type 0) where
  -- At a place that was acquired the line was written, and the connections that its door gave were served. Or the line was not written, and nothing was done.
  abbrev pub IsAttendedAtDoor : (Option (List (List Ready)) → Instant → Bool) → (reported_old reported_new : Option (List (List Ready))) → (given_old given_new : ℕ) → Parted T → Place → Stream → Stream → StoreAndClock S C → StoreAndClock S C
      → Result Unit ActionFault → Type 0
  IsAttendedAtDoor shows reported_old reported_new given_old given_new parted place output_old output_new old new result =
      (GetsAll output_old output_new (listening_line place)
      × AreServedAtDoor begins ways full failed status users may_give shows reported_old reported_new given_old given_new parted old new
      × IfOk result (λ _. HasEnded reported_old reported_new) × IfErr result IsOfCounter)
      ⊎ (GetsBeginning output_old output_new (listening_line place) × (given_new ≡ given_old) × (parted.log.items ≡ []) × (new ≡ old) × IsErrAnd result IsOfCounter)

module _ {P E R T S C : Type 0} (kind : Kind E R T) (status : S → Status) (users : List ℕ → Option ℕ) (may_give : C → ℕ → C → Type 0) where
  -- The connections that came to the place that is left were served at once, round after round. There was a round for each wait of its system. Who holds a whole
  -- message as a round begins has a turn in it, unless it had its last, or bytes wait for its client, of which its stream took no more. Who had a turn is held
  -- until it is let go for a cause, by what its stream's record says. All that the door gave were let go: none unseen, and no two under one number. It ends well
  -- only after the end was reported. A fault says that the place failed, or that memory was refused.
  pub record AreHandedBack (visits : PathLeft P (Visited E R T)) (old new : StoreAndClock S C) (result : Result Unit ActionFault) : Type 0 where
    pub visited : Visited E R T
    pub left : visits ≡ path.Opened visited
    pub served : AreAttendedInRounds is_new (IsRefused kind.ways kind.full kind.failed) (IsStuck kind.ways kind.full kind.failed) (WasLetGo kind.ways kind.full kind.failed) status users may_give
        kind.shows kind.begun (kind.reported visited.system) old new
    pub at_door : AreOfDoor is_new 0 (kind.given visited.door) (map kind.ways visited.parted.log.items) served.attended.turns
    pub ended : IfOk result (λ _. HasEnded kind.begun (kind.reported visited.system))
    pub fault : IfErr result IsOfCounter

  -- The place was printed and they were served so. Or it could not be acquired, or not printed, and nothing was served.
  abbrev pub IsAttendedAt : P → Place → PathLeft P (Visited E R T) → Stream → Stream → StoreAndClock S C → StoreAndClock S C → Result Unit ActionFault → Type 0
  IsAttendedAt places place visits output_old output_new old new result =
      (GetsAll output_old output_new (listening_line place) × AreHandedBack visits old new result)
      ⊎ (((output_new ≡ output_old) ⊎ GetsBeginning output_old output_new (listening_line place)) × IsUnvisited kind places visits × (new ≡ old) × IsErrAnd result IsOfCounter)

  -- the messages of all connections, in the order in which turns took them
  abbrev pub messages_at : (places : P) (place : Place) (visits : PathLeft P (Visited E R T)) (output_old output_new : Stream) (old new : StoreAndClock S C) (result : Result Unit ActionFault) → IsAttendedAt places place visits output_old output_new old new result → List MarkedMessage
  messages_at places place visits output_old output_new old new result (inl is) = one_list is.1.served.attended.turns
  messages_at places place visits output_old output_new old new result (inr is) = []

  -- and what each outbox got is a beginning of the replies to its own
  abbrev pub AreRepliedAt : (places : P) (place : Place) (visits : PathLeft P (Visited E R T)) (output_old output_new : Stream) (old new : StoreAndClock S C) (result : Result Unit ActionFault) → IsAttendedAt places place visits output_old output_new old new result
      → WorldLists → Type 0
  AreRepliedAt places place visits output_old output_new old new result (inl is) w = AreAnswered users is.1.served.attended.turns w
  AreRepliedAt places place visits output_old output_new old new result (inr is) w = ⊤

module _ {P E R T S C : Type 0} (kind : Kind E R T) (status : S → Status) (users : List ℕ → Option ℕ) (may_give : C → ℕ → C → Type 0) where
  -- They were served so over a cache that kept nothing yet, with the store opened below it; and the store left is what was below the
  -- cache as that ended.
  pub record IsAttendedThroughCache (places : P) (place : Place) (visits : PathLeft P (Visited E R T)) (output_old output_new : Stream) (old new : StoreAndClock S C) (result : Result Unit ActionFault) : Type 0 where
    pub began : Cached S
    pub ended : Cached S
    pub over : below began ≡ old.store
    pub empty : remembered began ≡ []
    pub unread : known_version began ≡ None
    pub attended : IsAttendedAt kind (cached_status status) users may_give places place visits output_old output_new
        (record { store = began; clock = old.clock }) (record { store = ended; clock = new.clock }) result
    pub uncovered : new.store ≡ below ended

  -- It was done through a cache; or memory was refused for that, and nothing was done.
  abbrev pub IsAttendedWithCache : P → Place → PathLeft P (Visited E R T) → Stream → Stream → StoreAndClock S C → StoreAndClock S C → Result Unit ActionFault → Type 0
  IsAttendedWithCache places place visits output_old output_new old new result =
      IsAttendedThroughCache places place visits output_old output_new old new result
      ⊎ ((result ≡ Err fault.Memory) × (visits ≡ path.Unopened places) × (new ≡ old) × (output_new ≡ output_old))

  abbrev pub messages_taken : (places : P) (place : Place) (visits : PathLeft P (Visited E R T)) (output_old output_new : Stream) (old new : StoreAndClock S C) (result : Result Unit ActionFault) → IsAttendedWithCache places place visits output_old output_new old new result
      → List MarkedMessage
  messages_taken places place visits output_old output_new old new result (inl is) =
      messages_at kind (cached_status status) users may_give places place visits output_old output_new
      (record { store = is.began; clock = old.clock }) (record { store = is.ended; clock = new.clock }) result is.attended
  messages_taken places place visits output_old output_new old new result (inr is) = []

  abbrev pub AreReplied : (places : P) (place : Place) (visits : PathLeft P (Visited E R T)) (output_old output_new : Stream) (old new : StoreAndClock S C) (result : Result Unit ActionFault) → IsAttendedWithCache places place visits output_old output_new old new result
      → WorldLists → Type 0
  AreReplied places place visits output_old output_new old new result (inl is) w =
      AreRepliedAt kind (cached_status status) users may_give places place visits output_old output_new
      (record { store = is.began; clock = old.clock }) (record { store = is.ended; clock = new.clock }) result is.attended w
  AreReplied places place visits output_old output_new old new result (inr is) w = ⊤

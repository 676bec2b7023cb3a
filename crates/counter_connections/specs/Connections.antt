-- Connections that are served one after another over one bank.
use Rattle.std.specs.Prelude.{◌≡◌, ℕ, ◌+◌, ◌-◌, ◌<◌, max, List, [], ◌∷◌, ◌++◌, ⊤, Option, None, Result, Ok, Err, MatchResult}
use Rattle.bank_books.specs.WorldLists.{WorldLists}
use Rattle.bank_meaning.specs.Run.{world_after}
use Rattle.counter_api.specs.Day.{AreReplied, IsDay, answered}
use Rattle.counter_api.specs.Exit.{IsServed, Place}
use Rattle.counter_api.specs.Run.{MarkedMessage, requests_of}
use Rattle.http_connection.specs.Serving.{EndsBy}
use Rattle.http_messages.specs.declared.serving.ServeFault.{ServeFault}
use Rattle.http_messages.specs.declared.serving.Served.{Served}
use Rattle.money.specs.Counted.{counted_once_more}
use Rattle.store_rows.specs.Status.{Status, Tells}
use Rattle.counter_connections.specs.Failed.{CountEnds}
use Rattle.counter_connections.specs.declared.listener.Failures.{Failures}

-- A connection counts the messages that were answered on it, and at least one. One that a fault of serving ended counts one.
abbrev pub counted_by : Result Served ServeFault → ℕ
counted_by (Ok served) = max served.messages 1
counted_by (Err fault) = 1

-- what connections count that ended so
abbrev pub counted : List (Result Served ServeFault) → ℕ
counted [] = 0
counted (exit ∷ exits) = counted_by exit + counted exits

-- what a connection takes over from the one before
pub record StoreAndClock (S C : Type 0) : Type 0 where
  pub store : S
  pub clock : C

module _ {S C : Type 0} (status : S → Status) (users : List ℕ → Option ℕ) (may_give : C → ℕ → C → Type 0) where
  -- A connection of which this is known was served as a stream of its own, with at most this many replies, and ended so, by a row of the
  -- table of exits of `serve`.
  pub record IsConnection (most : ℕ) (old : StoreAndClock S C) (sent got : Option (List ℕ)) (new : StoreAndClock S C) (exit : Result Served ServeFault) : Type 0 where
    pub left : Option (List ℕ)
    pub written : Option (List ℕ)
    pub how : Result Served ServeFault
    pub ends : EndsBy exit how
    pub served : IsServed status users may_give most
        (record { left = sent; written = got; store = old.store; clock = old.clock })
        (record { left = left; written = written; store = new.store; clock = new.clock })
        how

  -- Connections were served one after another, and ended so. Each takes over from the one before, whatever ended that, while
  -- messages are still wanted, and gets no more replies than those. What bytes it holds no clause says.
  abbrev pub AreServed : ℕ → StoreAndClock S C → List (Result Served ServeFault) → StoreAndClock S C → Type 0
  AreServed wanted old [] new = new ≡ old
  AreServed wanted old (exit ∷ exits) new =
      (0 < wanted)
      × ((mid : StoreAndClock S C) × (IsConnection wanted old None None mid exit × AreServed (wanted - counted_by exit) mid exits new))

  -- the messages that had a reply on them, in their order
  abbrev pub messages_of : (wanted : ℕ) (old : StoreAndClock S C) (exits : List (Result Served ServeFault)) (new : StoreAndClock S C) → AreServed wanted old exits new → List MarkedMessage
  messages_of wanted old [] new same = []
  messages_of wanted old (exit ∷ exits) new (wants, (mid, (one, rest))) =
      answered status users may_give wanted
      (record { left = None; written = None; store = old.store; clock = old.clock })
      (record { left = one.left; written = one.written; store = mid.store; clock = mid.clock })
      one.how one.served ++ messages_of (wanted - counted_by exit) mid exits new rest

  -- what went out on each is the replies to its messages, in the World that those before it left
  abbrev pub AreAllReplied : (wanted : ℕ) (old : StoreAndClock S C) (exits : List (Result Served ServeFault)) (new : StoreAndClock S C) → AreServed wanted old exits new → WorldLists → Type 0
  AreAllReplied wanted old [] new same w = ⊤
  AreAllReplied wanted old (exit ∷ exits) new (wants, (mid, (one, rest))) w =
      let from : Place S C = record { left = None; written = None; store = old.store; clock = old.clock } in
      let to : Place S C = record { left = one.left; written = one.written; store = mid.store; clock = mid.clock } in
      AreReplied status users may_give wanted from to one.how one.served w
      × AreAllReplied (wanted - counted_by exit) mid exits new rest (world_after w (requests_of users (answered status users may_give wanted from to one.how one.served)))

  -- They were served until this many messages were counted, or one connection was not accepted. Nothing else ends that.
  pub record AreAllServed {E : Type 0} (requests : ℕ) (old new : StoreAndClock S C) (failed_old failed_new : Failures) (result : Result Unit E) : Type 0 where
    pub exits : List (Result Served ServeFault)
    pub served : AreServed requests old exits new
    -- all of it is one run of the bank, whatever ended each connection
    pub day : IsDay users (status old.store) (status new.store) (messages_of requests old exits new served)
    pub replied : Tells (status old.store) (status new.store) (AreAllReplied requests old exits new served)
    -- a read or a write failed of each that ended so, and of no other
    pub calls : CountEnds failed_old.calls failed_new.calls exits
    pub ends : MatchResult result
        (λ _. (counted exits ≡ requests) × (failed_new.accepts ≡ failed_old.accepts))
        (λ _. (counted exits < requests) × (failed_new.accepts ≡ counted_once_more failed_old.accepts))

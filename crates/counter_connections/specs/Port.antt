-- A port of the machine, served over any store.
use Rattle.std.specs.Prelude.{◌≡◌, ◌⊎◌, ℕ, ⊤, List, [], Option, Some, None, Result, Err}
use Rattle.std.proofs.Common.{inl, inr}
use Rattle.bank_books.specs.WorldLists.{WorldLists}
use Rattle.store_cached.specs.Standing.{below, cached_status, known_version, remembered}
use Rattle.store_cached.specs.declared.cached.Cached.{Cached}
use Rattle.exit_lines.specs.Streams.{GetsAll, GetsBeginning, Stream}
use Rattle.store_rows.specs.Status.{Status, Tells}
use Rattle.counter_api.specs.Day.{IsDay}
use Rattle.counter_api.specs.Run.{MarkedMessage}
use Rattle.counter_places.specs.Places.{listening_line}
use Rattle.counter_places.specs.declared.place.Place.TheVariants as place
use Rattle.counter_connections.specs.Connections.{AreAllReplied, AreAllServed, StoreAndClock, messages_of}
use Rattle.counter_connections.specs.Failed.{none_failed}
use Rattle.counter_connections.specs.declared.fault.PortFault.{PortFault}
use Rattle.counter_connections.specs.declared.fault.PortFault.TheVariants.{Broken, Memory}
use Rattle.counter_connections.specs.declared.listener.Failures.{Failures}

module _ {S C : Type 0} (status : S → Status) (users : List ℕ → Option ℕ) (may_give : C → ℕ → C → Type 0) where
  -- The port was bound and announced, and connections were served at it, of which its listener counted what failed. A fault says that one could not
  -- be accepted.
  pub record IsListenedTo (requests : ℕ) (old new : StoreAndClock S C) (failures : Option Failures) (result : Result Unit PortFault) : Type 0 where
    pub failed : Failures
    pub counted : failures ≡ Some failed
    pub served : AreAllServed status users may_give requests old new none_failed failed result
    pub fault : (fault : PortFault) → result ≡ Err fault → fault ≡ Broken

  -- It was served so. Or it could not be bound, or could not be announced, and nothing was served.
  abbrev pub IsPortServed : ℕ → ℕ → Stream → Stream → StoreAndClock S C → StoreAndClock S C → Option Failures → Result Unit PortFault → Type 0
  IsPortServed port requests output_old output_new old new failures result =
      (GetsAll output_old output_new (listening_line (place.Port port)) × IsListenedTo requests old new failures result)
      ⊎ (((output_new ≡ output_old) ⊎ GetsBeginning output_old output_new (listening_line (place.Port port))) × (new ≡ old) × (failures ≡ None) × (result ≡ Err Broken))

  -- the messages of all connections that were replied to, in their order
  abbrev pub port_messages : (port requests : ℕ) (output_old output_new : Stream) (old new : StoreAndClock S C) (failures : Option Failures) (result : Result Unit PortFault) → IsPortServed port requests output_old output_new old new failures result
      → List MarkedMessage
  port_messages port requests output_old output_new old new failures result (inl is) = messages_of status users may_give requests old is.1.served.exits new is.1.served.served
  port_messages port requests output_old output_new old new failures result (inr is) = []

  -- and what went out on each is the replies to its messages, in the World that those before it left
  abbrev pub IsPortAnswered : (port requests : ℕ) (output_old output_new : Stream) (old new : StoreAndClock S C) (failures : Option Failures) (result : Result Unit PortFault) → IsPortServed port requests output_old output_new old new failures result
      → WorldLists → Type 0
  IsPortAnswered port requests output_old output_new old new failures result (inl is) w = AreAllReplied status users may_give requests old is.1.served.exits new is.1.served.served w
  IsPortAnswered port requests output_old output_new old new failures result (inr is) w = ⊤

module _ {S C : Type 0} (status : S → Status) (users : List ℕ → Option ℕ) (may_give : C → ℕ → C → Type 0) where
  -- It was served so over a cache that kept nothing yet, with the store opened below it; and the store left is what was
  -- below the cache as that ended. Of the store itself, by its own status and not by the cache's: all connections are
  -- one run of it, and what went out is the replies.
  pub record IsPortServedThroughCache (port requests : ℕ) (output_old output_new : Stream) (old new : StoreAndClock S C) (failures : Option Failures) (result : Result Unit PortFault) : Type 0 where
    pub began : Cached S
    pub ended : Cached S
    pub over : below began ≡ old.store
    pub empty : remembered began ≡ []
    pub unread : known_version began ≡ None
    pub served : IsPortServed (cached_status status) users may_give port requests output_old output_new
        (record { store = began; clock = old.clock }) (record { store = ended; clock = new.clock }) failures result
    pub uncovered : new.store ≡ below ended
    pub day : IsDay users (status old.store) (status new.store)
        (port_messages (cached_status status) users may_give port requests output_old output_new
        (record { store = began; clock = old.clock }) (record { store = ended; clock = new.clock }) failures result served)
    pub replied : Tells (status old.store) (status new.store)
        (IsPortAnswered (cached_status status) users may_give port requests output_old output_new
        (record { store = began; clock = old.clock }) (record { store = ended; clock = new.clock }) failures result served)

  -- It was served through a cache; or memory was refused for that, and nothing was done.
  abbrev pub IsPortServedWithCache : ℕ → ℕ → Stream → Stream → StoreAndClock S C → StoreAndClock S C → Option Failures → Result Unit PortFault → Type 0
  IsPortServedWithCache port requests output_old output_new old new failures result =
      IsPortServedThroughCache port requests output_old output_new old new failures result
      ⊎ ((result ≡ Err Memory) × (new ≡ old) × (failures ≡ None) × (output_new ≡ output_old))

-- Which messages of a stream, and of all connections at a port, had a reply, and what is said of the bytes that went out.
use Rattle.std.specs.Prelude.{ℕ, ⊤, List, [], Option, Result}
use Rattle.std.proofs.Common.{inl, inr}
use Rattle.bank_books.specs.WorldLists.{WorldLists}
use Rattle.store_rows.specs.Status.{Status}
use Rattle.store_cached.specs.Standing.{cached_status}
use Rattle.http_messages.specs.declared.serving.ServeFault.{ServeFault}
use Rattle.http_messages.specs.declared.serving.Served.{Served}
use Rattle.counter_api.specs.Day.{AreReplied, answered}
use Rattle.counter_api.specs.Run.{MarkedMessage}
use Rattle.counter_clocks.specs.Standing.{gives_its_own, standing_at}
use Rattle.counter_service.specs.Serving.{IsServedWithCache, most_messages}
use Rattle.counter_connections.specs.Connections.{AreAllReplied, StoreAndClock, messages_of}
use Rattle.counter_connections.specs.Port.{IsPortServed, IsPortServedWithCache}
use Rattle.counter_connections.specs.declared.fault.PortFault.{PortFault}
use Rattle.counter_connections.specs.declared.listener.Failures.{Failures}
use Rattle.exit_lines.specs.Streams.{Stream, Streams}

module _ {S : Type 0} (status : S → Status) (users : List ℕ → Option ℕ) where
  -- the messages of a stream that had a reply
  abbrev pub messages_served : (opened : S) (moment : ℕ) (old new : Streams) (left : S) (result : Result Served ServeFault)
      → IsServedWithCache status users opened moment old new left result → List MarkedMessage
  messages_served opened moment old new left result (inl is) =
      answered (cached_status status) users gives_its_own most_messages
      (record { left = old.input.bytes; written = old.output.bytes; store = is.began; clock = standing_at moment })
      (record { left = new.input.bytes; written = new.output.bytes; store = is.ended; clock = is.served.clock })
      result is.served.exit
  messages_served opened moment old new left result (inr is) = []

  abbrev pub IsStreamReplied : (opened : S) (moment : ℕ) (old new : Streams) (left : S) (result : Result Served ServeFault)
      → IsServedWithCache status users opened moment old new left result → WorldLists → Type 0
  IsStreamReplied opened moment old new left result (inl is) w =
      AreReplied (cached_status status) users gives_its_own most_messages
      (record { left = old.input.bytes; written = old.output.bytes; store = is.began; clock = standing_at moment })
      (record { left = new.input.bytes; written = new.output.bytes; store = is.ended; clock = is.served.clock })
      result is.served.exit w
  IsStreamReplied opened moment old new left result (inr is) w = ⊤

module _ {S C : Type 0} (status : S → Status) (users : List ℕ → Option ℕ) (may_give : C → ℕ → C → Type 0) (port requests : ℕ) (output_old output_new : Stream) where
  -- those of all connections at a port, in their order
  abbrev pub messages_at : (old new : StoreAndClock S C) (failures : Option Failures) (result : Result Unit PortFault) → IsPortServed status users may_give port requests output_old output_new old new failures result → List MarkedMessage
  messages_at old new failures result (inl is) = messages_of status users may_give requests old is.1.served.exits new is.1.served.served
  messages_at old new failures result (inr is) = []

  abbrev pub IsPortReplied : (old new : StoreAndClock S C) (failures : Option Failures) (result : Result Unit PortFault) → IsPortServed status users may_give port requests output_old output_new old new failures result → WorldLists → Type 0
  IsPortReplied old new failures result (inl is) w = AreAllReplied status users may_give requests old is.1.served.exits new is.1.served.served w
  IsPortReplied old new failures result (inr is) w = ⊤

module _ {S C : Type 0} (status : S → Status) (users : List ℕ → Option ℕ) (may_give : C → ℕ → C → Type 0) (port requests : ℕ) (output_old output_new : Stream) where
  abbrev pub messages_listened : (old new : StoreAndClock S C) (failures : Option Failures) (result : Result Unit PortFault) → IsPortServedWithCache status users may_give port requests output_old output_new old new failures result
      → List MarkedMessage
  messages_listened old new failures result (inl is) =
      messages_at (cached_status status) users may_give port requests output_old output_new
      (record { store = is.began; clock = old.clock }) (record { store = is.ended; clock = new.clock }) failures result is.served
  messages_listened old new failures result (inr is) = []

  abbrev pub AreListenedReplied : (old new : StoreAndClock S C) (failures : Option Failures) (result : Result Unit PortFault) → IsPortServedWithCache status users may_give port requests output_old output_new old new failures result
      → WorldLists → Type 0
  AreListenedReplied old new failures result (inl is) w =
      IsPortReplied (cached_status status) users may_give port requests output_old output_new
      (record { store = is.began; clock = old.clock }) (record { store = is.ended; clock = new.clock }) failures result is.served w
  AreListenedReplied old new failures result (inr is) w = ⊤

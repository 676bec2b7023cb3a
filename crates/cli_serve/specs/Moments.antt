-- The moments of a stream, and of all connections at a port, over the bank in a file: the states of the cache that answered their messages, each with
-- that of the file below it.
use Rattle.std.specs.Prelude.{ℕ, List, [], Option, Result}
use Rattle.std.proofs.Common.{inl, inr}
use Rattle.sqlite_disk.specs.declared.Disk.{Ghosts}
use Rattle.bank_books.specs.WorldLists.{WorldLists}
use Rattle.store_cached.specs.Standing.{below, cached_status}
use Rattle.counter_service.specs.Serving.{IsServedWithCache}
use Rattle.counter_connections.specs.Connections.{StoreAndClock}
use Rattle.counter_connections.specs.Port.{IsPortServedWithCache}
use Rattle.counter_connections.specs.declared.fault.PortFault.{PortFault}
use Rattle.counter_connections.specs.declared.listener.Failures.{Failures}
use Rattle.exit_lines.specs.Streams.{Stream, Streams}
use Rattle.http_messages.specs.declared.serving.ServeFault.{ServeFault}
use Rattle.http_messages.specs.declared.serving.Served.{Served}
use Rattle.cli_file.specs.Files.{BankStore, file_status}
use Rattle.cli_file.specs.Moments.{AreMoments}
use Rattle.cli_serve.specs.Replied.{messages_listened, messages_served}

module _ {D : Type 0} (g : Ghosts D) (users : List ℕ → Option ℕ) where
  abbrev pub AreStreamMoments : (begun : BankStore D g) (moment : ℕ) (old new : Streams) (ended : BankStore D g) (result : Result Served ServeFault)
      → IsServedWithCache file_status users begun moment old new ended result → WorldLists → Type 0
  AreStreamMoments begun moment old new ended result (inl is) w =
      AreMoments (cached_status file_status) (λ c. file_status (below c)) users w (messages_served file_status users begun moment old new ended result (inl is)) is.began is.ended
  AreStreamMoments begun moment old new ended result (inr is) w = AreMoments file_status file_status users w [] begun ended

module _ {D C : Type 0} (g : Ghosts D) (users : List ℕ → Option ℕ) (may_give : C → ℕ → C → Type 0) where
  abbrev pub ArePortMoments : (port requests : ℕ) (output_old output_new : Stream) (old new : StoreAndClock (BankStore D g) C) (failures : Option Failures) (result : Result Unit PortFault)
      → IsPortServedWithCache file_status users may_give port requests output_old output_new old new failures result → WorldLists → Type 0
  ArePortMoments port requests output_old output_new old new failures result (inl is) w =
      AreMoments (cached_status file_status) (λ c. file_status (below c)) users w (messages_listened file_status users may_give port requests output_old output_new old new failures result (inl is)) is.began is.ended
  ArePortMoments port requests output_old output_new old new failures result (inr is) w = AreMoments file_status file_status users w [] old.store new.store

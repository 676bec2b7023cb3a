-- The moments of a day of one stream, and of connections one after another.
use Rattle.std.proofs.Common.{◌-◌, ◌++◌, ◌∷◌, [], ℕ, List, Option, None, Result, Ok, Err, inl, inr, ap, refl, subst}
use Rattle.sqlite_disk.specs.declared.Disk.{Ghosts}
use Rattle.sqlite_wal.specs.Recovery.{Image}
use Rattle.sqlite.specs.declared.FileStore.{FileStore}
use Rattle.sqlite.specs.Files.{file_state}
use Rattle.sqlite.specs.Held.{Held}
use Rattle.sqlite.specs.State.{HasCleanDisk}
use Rattle.bank_books.specs.WorldLists.{WorldLists}
use Rattle.store_rows.specs.Status.{Status}
use Rattle.store_cached.specs.Standing.{cached_status}
use Rattle.counter_api.specs.Day.{answered}
use Rattle.counter_api.specs.Exit.{IsServed, Passes, Place}
use Rattle.counter_api.specs.Run.{MarkedMessage}
use Rattle.counter_clocks.specs.Standing.{gives_its_own, standing_at}
use Rattle.counter_service.specs.Serving.{IsServedWithCache, most_messages}
use Rattle.counter_connections.specs.Connections.{AreServed, StoreAndClock, counted_by, messages_of}
use Rattle.counter_connections.specs.Port.{IsPortServed, IsPortServedWithCache}
use Rattle.counter_connections.specs.declared.fault.PortFault.{PortFault}
use Rattle.counter_connections.specs.declared.listener.Failures.{Failures}
use Rattle.exit_lines.specs.Streams.{Stream, Streams}
use Rattle.http_messages.specs.declared.serving.ServeFault.{ServeFault}
use Rattle.http_messages.specs.declared.serving.ServeFault.TheVariants.{Cut, Memory, Read, Report, Write}
use Rattle.http_messages.specs.declared.serving.Served.{Served}
use Rattle.cli_file.specs.Files.{BankStore, IsFound, file_status}
use Rattle.cli_file.specs.Opened.{IsBankImage, IsOpenedFrom}
use Rattle.cli_file.proofs.MomentLemmas.{PassesBy, moments_through, no_moments, passes_joined, passes_then}
use Rattle.cli_serve.specs.Moments.{ArePortMoments, AreStreamMoments}
use Rattle.cli_serve.specs.Replied.{messages_at, messages_listened, messages_served}

module _ {S C : Type 0} (status : S → Status) (users : List ℕ → Option ℕ) (may_give : C → ℕ → C → Type 0) where
  by_steps : (old : S) (ms : List MarkedMessage) (new : S) → Passes status users may_give old ms new → PassesBy status users old ms new
  by_steps old [] new same = ([], same)
  by_steps old (m ∷ ms) new (mid, here, rest) = (mid, record { broke = []; mid = old; kept = refl; handled = here }, by_steps mid ms new rest)

  -- one call of `serve`
  passes_of_serve : (most : ℕ) (old new : Place S C) (exit : Result Served ServeFault) (is : IsServed status users may_give most old new exit)
      → PassesBy status users old.store (answered status users may_give most old new exit is) new.store
  passes_of_serve most old new (Ok s) is = by_steps old.store is.2 new.store is.4.passed
  passes_of_serve most old new (Err Read) is = by_steps old.store is.2 new.store is.4.passed
  passes_of_serve most old new (Err Cut) is = by_steps old.store is.2 new.store is.4.passed
  passes_of_serve most old new (Err Write) (inl is) = by_steps old.store (is.3 ++ is.4 ∷ []) new.store is.7.passed
  passes_of_serve most old new (Err Write) (inr is) = by_steps old.store is.2 new.store is.5.passed
  passes_of_serve most old new (Err Report) is =
      passes_then status users old.store is.3 is.6.store (is.6.broken.fault ∷ []) new.store (by_steps old.store is.3 is.6.store is.6.passed) (new.store, is.6.broken.kept, refl)
  passes_of_serve most old new (Err Memory) same = ([], ap (λ (p : Place S C). p.store) same)

  -- connections one after another
  passes_of_all : (wanted : ℕ) (old : StoreAndClock S C) (exits : List (Result Served ServeFault)) (new : StoreAndClock S C) (served : AreServed status users may_give wanted old exits new)
      → PassesBy status users old.store (messages_of status users may_give wanted old exits new served) new.store
  passes_of_all wanted old [] new same = ([], ap (λ (at : StoreAndClock S C). at.store) same)
  passes_of_all wanted old (exit ∷ exits) new (wants, (mid, (one, rest))) =
      let from : Place S C = record { left = None; written = None; store = old.store; clock = old.clock } in
      let to : Place S C = record { left = one.left; written = one.written; store = mid.store; clock = mid.clock } in
      passes_joined status users old.store (answered status users may_give wanted from to one.how one.served) mid.store
      (messages_of status users may_give (wanted - counted_by exit) mid exits new rest) new.store
      (passes_of_serve wanted from to one.how one.served)
      (passes_of_all (wanted - counted_by exit) mid exits new rest)

  passes_of_port : (port requests : ℕ) (output_old output_new : Stream) (old new : StoreAndClock S C) (failures : Option Failures) (result : Result Unit PortFault) (served : IsPortServed status users may_give port requests output_old output_new old new failures result)
      → PassesBy status users old.store (messages_at status users may_give port requests output_old output_new old new failures result served) new.store
  passes_of_port port requests output_old output_new old new failures result (inl is) = passes_of_all requests old is.1.served.exits new is.1.served.served
  passes_of_port port requests output_old output_new old new failures result (inr is) = ([], ap (λ (at : StoreAndClock S C). at.store) is.1)

module _ {D : Type 0} {g : Ghosts D} (users : List ℕ → Option ℕ) (opened : Held (FileStore D g)) (begun ended : BankStore D g) (found : IsFound opened begun) (image : Image) (w : WorldLists)
    (of : IsBankImage image w) (from : IsOpenedFrom image opened) (clean : HasCleanDisk (file_state ended.conn)) where
  pub stream_moments : (moment : ℕ) (old new : Streams) (result : Result Served ServeFault) (served : IsServedWithCache file_status users begun moment old new ended result)
      → AreStreamMoments g users begun moment old new ended result served w
  stream_moments moment old new result (inl is) =
      moments_through users opened begun found image w of from is.began is.ended is.over is.empty is.unread
      (messages_served file_status users begun moment old new ended result (inl is))
      (passes_of_serve (cached_status file_status) users gives_its_own most_messages
      (record { left = old.input.bytes; written = old.output.bytes; store = is.began; clock = standing_at moment })
      (record { left = new.input.bytes; written = new.output.bytes; store = is.ended; clock = is.served.clock })
      result is.served.exit)
      (subst (λ s. (file_status s).is_honest) is.uncovered clean)
  stream_moments moment old new result (inr is) = no_moments users opened begun found image w of from ended is.1 (subst (λ s. (file_status s).is_honest) is.1 clean)

  pub port_moments : {C : Type 0} (may_give : C → ℕ → C → Type 0) (port requests : ℕ) (output_old output_new : Stream) (from_clock to_clock : C) (failures : Option Failures) (result : Result Unit PortFault)
      (served : IsPortServedWithCache file_status users may_give port requests output_old output_new (record { store = begun; clock = from_clock }) (record { store = ended; clock = to_clock }) failures result)
      → ArePortMoments g users may_give port requests output_old output_new (record { store = begun; clock = from_clock }) (record { store = ended; clock = to_clock }) failures result served w
  port_moments {C} may_give port requests output_old output_new from_clock to_clock failures result (inl is) =
      moments_through users opened begun found image w of from is.began is.ended is.over is.empty is.unread
      (messages_listened file_status users may_give port requests output_old output_new (record { store = begun; clock = from_clock }) (record { store = ended; clock = to_clock }) failures result (inl is))
      (passes_of_port (cached_status file_status) users may_give port requests output_old output_new
      (record { store = is.began; clock = from_clock }) (record { store = is.ended; clock = to_clock }) failures result is.served)
      (subst (λ s. (file_status s).is_honest) is.uncovered clean)
  port_moments {C} may_give port requests output_old output_new from_clock to_clock failures result (inr is) =
      no_moments users opened begun found image w of from ended (ap (λ (at : StoreAndClock (BankStore D g) C). at.store) is.1) (subst (λ (at : StoreAndClock (BankStore D g) C). (file_status at.store).is_honest) is.1 clean)

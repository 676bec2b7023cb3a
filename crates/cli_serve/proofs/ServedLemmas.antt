-- A stream, and a port, served over the bank that was found in a file.
use Rattle.std.proofs.Common.{◌≡◌, ℕ, List, [], Option, Some, None, Result, inl, inr, sym, subst}
use Rattle.sqlite_disk.specs.declared.Disk.{Ghosts}
use Rattle.sqlite_disk.specs.declared.Files.{Files}
use Rattle.sqlite.specs.declared.FileStore.{FileStore}
use Rattle.sqlite.specs.Held.{Held}
use Rattle.store_rows.specs.Status.{Status, Tells}
use Rattle.store_cached.specs.Standing.{cached_status}
use Rattle.counter_api.specs.Day.{IsDay}
use Rattle.counter_api.proofs.DayLemmas.{day_of_none, day_of_serve, replied_by_serve}
use Rattle.counter_clocks.specs.Standing.{gives_its_own, standing_at}
use Rattle.counter_service.specs.Serving.{IsServedWithCache, most_messages}
use Rattle.counter_connections.specs.Connections.{StoreAndClock}
use Rattle.counter_connections.specs.Port.{IsPortServed, IsPortServedWithCache}
use Rattle.counter_connections.specs.declared.fault.PortFault.{PortFault}
use Rattle.counter_connections.specs.declared.listener.Failures.{Failures}
use Rattle.exit_lines.specs.Streams.{Stream, Streams}
use Rattle.http_messages.specs.declared.serving.ServeFault.{ServeFault}
use Rattle.http_messages.specs.declared.serving.Served.{Served}
use Rattle.cli_file.specs.Files.{BankStore, IsClosed, IsFound, IsNotClosed, file_status}
use Rattle.cli_file.specs.declared.fault.ActionFault.{ActionFault}
use Rattle.cli_file.proofs.DayLemmas.{bank_day, day_uncovered, tells_below}
use Rattle.cli_file.proofs.OpenedLemmas.{unclosed_leaves}
use Rattle.cli_serve.proofs.MomentLemmas.{port_moments, stream_moments}
use Rattle.cli_serve.specs.Listening.{IsListenedAndClosed, IsListenedAndUnclosed, IsListenedOverFile, end_of_port}
use Rattle.cli_serve.specs.Replied.{AreListenedReplied, IsPortReplied, IsStreamReplied, messages_at, messages_listened, messages_served}
use Rattle.cli_serve.specs.Serving.{IsServedAndClosed, IsServedAndUnclosed, IsServedOverFile, end_of}

module _ {S : Type 0} (status : S → Status) where
  stream_day : (users : List ℕ → Option ℕ) (opened : S) (moment : ℕ) (old new : Streams) (left : S) (result : Result Served ServeFault) (served : IsServedWithCache status users opened moment old new left result)
      → IsDay users (status opened) (status left) (messages_served status users opened moment old new left result served)
  stream_day users opened moment old new left result (inl is) =
      day_uncovered status users is.began is.ended opened left _ is.over is.uncovered is.empty is.unread
      (day_of_serve (cached_status status) users gives_its_own most_messages
      (record { left = old.input.bytes; written = old.output.bytes; store = is.began; clock = standing_at moment })
      (record { left = new.input.bytes; written = new.output.bytes; store = is.ended; clock = is.served.clock })
      result is.served.exit)
  stream_day users opened moment old new left result (inr is) = subst (λ s. IsDay users (status opened) (status s) []) (sym is.1) (day_of_none users (status opened))

  stream_replied : (users : List ℕ → Option ℕ) (opened : S) (moment : ℕ) (old new : Streams) (left : S) (result : Result Served ServeFault) (served : IsServedWithCache status users opened moment old new left result)
      → Tells (status opened) (status left) (IsStreamReplied status users opened moment old new left result served)
  stream_replied users opened moment old new left result (inl is) =
      tells_below status is.began is.ended opened left is.over is.uncovered is.empty is.unread _
      (replied_by_serve (cached_status status) users gives_its_own most_messages
      (record { left = old.input.bytes; written = old.output.bytes; store = is.began; clock = standing_at moment })
      (record { left = new.input.bytes; written = new.output.bytes; store = is.ended; clock = is.served.clock })
      result is.served.exit)
  stream_replied users opened moment old new left result (inr is) = λ clean w held. tt

module _ {S C : Type 0} (status : S → Status) (users : List ℕ → Option ℕ) (may_give : C → ℕ → C → Type 0) (port requests : ℕ) (output_old output_new : Stream) where
  port_day : (old new : StoreAndClock S C) (failures : Option Failures) (result : Result Unit PortFault) (served : IsPortServed status users may_give port requests output_old output_new old new failures result)
      → IsDay users (status old.store) (status new.store) (messages_at status users may_give port requests output_old output_new old new failures result served)
  port_day old new failures result (inl is) = is.1.served.day
  port_day old new failures result (inr is) = subst (λ (at : StoreAndClock S C). IsDay users (status old.store) (status at.store) []) (sym is.1) (day_of_none users (status old.store))

  port_replied : (old new : StoreAndClock S C) (failures : Option Failures) (result : Result Unit PortFault) (served : IsPortServed status users may_give port requests output_old output_new old new failures result)
      → Tells (status old.store) (status new.store) (IsPortReplied status users may_give port requests output_old output_new old new failures result served)
  port_replied old new failures result (inl is) = is.1.served.replied
  port_replied old new failures result (inr is) = λ clean w held. tt

module _ {S C : Type 0} (status : S → Status) (users : List ℕ → Option ℕ) (may_give : C → ℕ → C → Type 0) (port requests : ℕ) (output_old output_new : Stream) where
  listened_day : (old new : StoreAndClock S C) (failures : Option Failures) (result : Result Unit PortFault) (served : IsPortServedWithCache status users may_give port requests output_old output_new old new failures result)
      → IsDay users (status old.store) (status new.store) (messages_listened status users may_give port requests output_old output_new old new failures result served)
  listened_day old new failures result (inl is) =
      day_uncovered status users is.began is.ended old.store new.store _ is.over is.uncovered is.empty is.unread
      (port_day (cached_status status) users may_give port requests output_old output_new
      (record { store = is.began; clock = old.clock }) (record { store = is.ended; clock = new.clock }) failures result is.served)
  listened_day old new failures result (inr is) = subst (λ (at : StoreAndClock S C). IsDay users (status old.store) (status at.store) []) (sym is.1) (day_of_none users (status old.store))

  listened_replied : (old new : StoreAndClock S C) (failures : Option Failures) (result : Result Unit PortFault) (served : IsPortServedWithCache status users may_give port requests output_old output_new old new failures result)
      → Tells (status old.store) (status new.store) (AreListenedReplied status users may_give port requests output_old output_new old new failures result served)
  listened_replied old new failures result (inl is) =
      tells_below status is.began is.ended old.store new.store is.over is.uncovered is.empty is.unread _
      (port_replied (cached_status status) users may_give port requests output_old output_new
      (record { store = is.began; clock = old.clock }) (record { store = is.ended; clock = new.clock }) failures result is.served)
  listened_replied old new failures result (inr is) = λ clean w held. tt

-- ---- over a file

pub over_stream : {D : Type 0} (g : Ghosts D) (users : List ℕ → Option ℕ) (opened : Held (FileStore D g)) (moment : ℕ) (old new : Streams) (begun ended : BankStore D g) (result : Result Served ServeFault)
    → IsFound opened begun → IsServedWithCache file_status users begun moment old new ended result → IsServedOverFile g users opened moment old new ended result
over_stream g users opened moment old new begun ended result found served = record {
  begun = begun;
  found = found;
  served = served;
  day = bank_day users opened begun ended _ found (stream_day file_status users begun moment old new ended result served) _ (stream_replied file_status users begun moment old new ended result served);
  moments = λ image w of opens clean. stream_moments users opened begun ended found image w of opens clean moment old new result served;
}

pub over_port : {D C : Type 0} (g : Ghosts D) (users : List ℕ → Option ℕ) (may_give : C → ℕ → C → Type 0) (opened : Held (FileStore D g)) (port requests : ℕ) (output_old output_new : Stream) (from to : C)
    (begun ended : BankStore D g) (failures : Option Failures) (result : Result Unit PortFault) → IsFound opened begun
    → IsPortServedWithCache file_status users may_give port requests output_old output_new (record { store = begun; clock = from }) (record { store = ended; clock = to }) failures result
    → IsListenedOverFile g users may_give opened port requests output_old output_new from to failures ended result
over_port g users may_give opened port requests output_old output_new from to begun ended failures result found served = record {
  begun = begun;
  found = found;
  served = served;
  day = bank_day users opened begun ended _ found
      (listened_day file_status users may_give port requests output_old output_new (record { store = begun; clock = from }) (record { store = ended; clock = to }) failures result served) _
      (listened_replied file_status users may_give port requests output_old output_new (record { store = begun; clock = from }) (record { store = ended; clock = to }) failures result served);
  moments = λ image w of opens clean. port_moments users opened begun ended found image w of opens clean may_give port requests output_old output_new from to failures result served;
}

-- ---- closed

module _ {D : Type 0} (g : Ghosts D) (opened : Held (FileStore D g)) (files : Files D) where
  pub stream_closed : (users : List ℕ → Option ℕ) (moment : ℕ) (old new : Streams) (ended : BankStore D g) (exit : Result Served ServeFault) (result : Result Unit ActionFault)
      → IsServedOverFile g users opened moment old new ended exit → IsClosed g ended files → result ≡ end_of exit None → IsServedAndClosed g users opened moment old new files result
  stream_closed users moment old new ended exit result over closed reported = record {
    ended = ended;
    exit = exit;
    over = over;
    closed = closed;
    bank = λ image w of opens reads. closed.bank _ (over.day image w of opens (closed.copied reads).was_clean).holds reads;
    reported = reported;
  }

  pub port_closed : {C : Type 0} (users : List ℕ → Option ℕ) (may_give : C → ℕ → C → Type 0) (port requests : ℕ) (output_old output_new : Stream) (from to : C) (failures : Option Failures) (ended : BankStore D g) (exit : Result Unit PortFault)
      (result : Result Unit ActionFault) → IsListenedOverFile g users may_give opened port requests output_old output_new from to failures ended exit → IsClosed g ended files → result ≡ end_of_port exit None
      → IsListenedAndClosed g users may_give opened port requests output_old output_new from to failures files result
  port_closed users may_give port requests output_old output_new from to failures ended exit result over closed reported = record {
    ended = ended;
    exit = exit;
    over = over;
    closed = closed;
    bank = λ image w of opens reads. closed.bank _ (over.day image w of opens (closed.copied reads).was_clean).holds reads;
    reported = reported;
  }

-- ---- not closed

module _ {D : Type 0} (g : Ghosts D) (opened : Held (FileStore D g)) (rest : FileStore D g) where
  pub stream_unclosed : (users : List ℕ → Option ℕ) (moment : ℕ) (old new : Streams) (ended : BankStore D g) (exit : Result Served ServeFault) (result : Result Unit ActionFault) (stated : ActionFault)
      → IsServedOverFile g users opened moment old new ended exit → IsNotClosed ended stated rest → result ≡ end_of exit (Some stated) → IsServedAndUnclosed g users opened moment old new rest result
  stream_unclosed users moment old new ended exit result stated over unclosed reported = record {
    ended = ended;
    exit = exit;
    stated = stated;
    over = over;
    unclosed = unclosed;
    bank = λ image w of opens. unclosed_leaves ended stated rest _ unclosed (λ clean. let day = over.day image w of opens clean in (day.whole, day.leaves));
    reported = reported;
  }

  pub port_unclosed : {C : Type 0} (users : List ℕ → Option ℕ) (may_give : C → ℕ → C → Type 0) (port requests : ℕ) (output_old output_new : Stream) (from to : C) (failures : Option Failures) (ended : BankStore D g) (exit : Result Unit PortFault)
      (result : Result Unit ActionFault) (stated : ActionFault) → IsListenedOverFile g users may_give opened port requests output_old output_new from to failures ended exit → IsNotClosed ended stated rest
      → result ≡ end_of_port exit (Some stated) → IsListenedAndUnclosed g users may_give opened port requests output_old output_new from to failures rest result
  port_unclosed users may_give port requests output_old output_new from to failures ended exit result stated over unclosed reported = record {
    ended = ended;
    exit = exit;
    stated = stated;
    over = over;
    unclosed = unclosed;
    bank = λ image w of opens. unclosed_leaves ended stated rest _ unclosed (λ clean. let day = over.day image w of opens clean in (day.whole, day.leaves));
    reported = reported;
  }

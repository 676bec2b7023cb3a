-- A port that was served over a cache, by the store below the cache.
use Rattle.std.proofs.Common.{◌≡◌, ◌∙◌, ℕ, List, [], Option, Some, None, Result, Ok, Err, ap, ap₂, inl, inr, subst, sym}
use Rattle.store_rows.specs.Status.{Status, Tells}
use Rattle.store_cached.specs.Standing.{below, cached_status, known_version, remembered}
use Rattle.store_cached.specs.declared.cached.Cached.{Cached}
use Rattle.counter_api.specs.Day.{IsDay}
use Rattle.counter_api.proofs.DayLemmas.{day_of_none}
use Rattle.counter_service.proofs.Below.{day_uncovered, tells_uncovered}
use Rattle.exit_lines.specs.Streams.{Stream}
use Rattle.http_messages.specs.declared.serving.ServeFault.{ServeFault}
use Rattle.http_messages.specs.declared.serving.Served.{Served}
use Rattle.money.specs.Counted.{counted_once_more}
use Rattle.counter_connections.specs.Connections.{AreAllServed, StoreAndClock}
use Rattle.counter_connections.specs.Failed.{CountEnds, no_call_failed, none_failed}
use Rattle.counter_connections.specs.Port.{IsListenedTo, IsPortAnswered, IsPortServed, IsPortServedThroughCache, port_messages}
use Rattle.counter_connections.specs.declared.fault.PortFault.{PortFault}
use Rattle.counter_connections.specs.declared.fault.PortFault.TheVariants.{Broken}
use Rattle.counter_connections.specs.declared.listener.Failures.{Failures}

module _ {S C : Type 0} (status : S → Status) (users : List ℕ → Option ℕ) (may_give : C → ℕ → C → Type 0) (requests : ℕ) (old new : StoreAndClock S C) (from to shown : Failures) (none : from ≡ none_failed) (shows : shown ≡ to) where
  counts_from : (exits : List (Result Served ServeFault)) → CountEnds from.calls to.calls exits → CountEnds no_call_failed to.calls exits
  counts_from exits calls = subst (λ (x : Failures). CountEnds x.calls to.calls exits) none calls

  -- all messages were counted at a listener that began
  pub listened : {E : Type 0} (done : Unit) → AreAllServed status users may_give {E = E} requests old new from to (Ok done) → IsListenedTo status users may_give requests old new (Some shown) (Ok tt)
  listened done all = record {
    failed = to;
    counted = ap (λ (x : Failures). Some x) shows;
    served = record {
      exits = all.exits;
      served = all.served;
      day = all.day;
      replied = all.replied;
      calls = counts_from all.exits all.calls;
      ends = (all.ends.0, all.ends.1 ∙ ap (λ (x : Failures). x.accepts) none);
    };
    fault = λ fault is. cc;
  }

  -- or one connection could not be accepted there
  pub listened_until : {E : Type 0} (error : E) → AreAllServed status users may_give {E = E} requests old new from to (Err error) → IsListenedTo status users may_give requests old new (Some shown) (Err Broken)
  listened_until error all = record {
    failed = to;
    counted = ap (λ (x : Failures). Some x) shows;
    served = record {
      exits = all.exits;
      served = all.served;
      day = all.day;
      replied = all.replied;
      calls = counts_from all.exits all.calls;
      ends = (all.ends.0, all.ends.1 ∙ ap (λ (x : Failures). counted_once_more x.accepts) none);
    };
    fault = λ fault is. cc;
  }

module _ {S C : Type 0} (status : S → Status) (users : List ℕ → Option ℕ) (may_give : C → ℕ → C → Type 0) (port requests : ℕ) (output_old output_new : Stream) where
  port_day : (old new : StoreAndClock S C) (failures : Option Failures) (result : Result Unit PortFault) (served : IsPortServed status users may_give port requests output_old output_new old new failures result)
      → IsDay users (status old.store) (status new.store) (port_messages status users may_give port requests output_old output_new old new failures result served)
  port_day old new failures result (inl is) = is.1.served.day
  port_day old new failures result (inr is) = subst (λ (at : StoreAndClock S C). IsDay users (status old.store) (status at.store) []) (sym is.1) (day_of_none users (status old.store))

  port_replied : (old new : StoreAndClock S C) (failures : Option Failures) (result : Result Unit PortFault) (served : IsPortServed status users may_give port requests output_old output_new old new failures result)
      → Tells (status old.store) (status new.store) (IsPortAnswered status users may_give port requests output_old output_new old new failures result served)
  port_replied old new failures result (inl is) = is.1.served.replied
  port_replied old new failures result (inr is) = λ clean w held. tt

module _ {S C : Type 0} (status : S → Status) (users : List ℕ → Option ℕ) (may_give : C → ℕ → C → Type 0) (port requests : ℕ) (output_old output_new : Stream) where
  pub port_through : (began ended : Cached S) (old new : StoreAndClock S C) (failures : Option Failures) (result : Result Unit PortFault) → below began ≡ old.store → new.store ≡ below ended → remembered began ≡ [] → known_version began ≡ None
      → IsPortServed (cached_status status) users may_give port requests output_old output_new (record { store = began; clock = old.clock }) (record { store = ended; clock = new.clock }) failures result
      → IsPortServedThroughCache status users may_give port requests output_old output_new old new failures result
  port_through began ended old new failures result over uncovered empty unread served = record {
    began = began;
    ended = ended;
    over = over;
    empty = empty;
    unread = unread;
    served = served;
    uncovered = uncovered;
    day = day_uncovered status users began ended old.store new.store _ over uncovered empty unread
        (port_day (cached_status status) users may_give port requests output_old output_new
        (record { store = began; clock = old.clock }) (record { store = ended; clock = new.clock }) failures result served);
    replied = tells_uncovered status began ended old.store new.store over uncovered empty unread _
        (port_replied (cached_status status) users may_give port requests output_old output_new
        (record { store = began; clock = old.clock }) (record { store = ended; clock = new.clock }) failures result served);
  }

-- a store and a clock, as a connection takes them over
abbrev pub at : {S C : Type 0} → S → C → StoreAndClock S C
at store clock = record { store = store; clock = clock }

-- the same of a counter, by the parts that it was made of, and those that it left
pub by_parts : {S C : Type 0} (status : S → Status) (may_give : C → ℕ → C → Type 0) (port requests : ℕ) (output_old output_new : Stream) (known users : List ℕ → Option ℕ)
    (begun opened ended left : S) (began standing stopped to : C) (failures : Option Failures) (result : Result Unit PortFault)
    → known ≡ users → begun ≡ opened → began ≡ standing → left ≡ ended → to ≡ stopped
    → IsPortServed status known may_give port requests output_old output_new (at begun began) (at ended stopped) failures result
    → IsPortServed status users may_give port requests output_old output_new (at opened standing) (at left to) failures result
by_parts status may_give port requests output_old output_new known users begun opened ended left began standing stopped to failures result same over stands is_left stops is =
    subst (λ to. IsPortServed status users may_give port requests output_old output_new (at opened standing) to failures result) (sym (ap₂ at is_left stops))
    (subst (λ from. IsPortServed status users may_give port requests output_old output_new from (at ended stopped) failures result) (ap₂ at over stands)
    (subst (λ known. IsPortServed status known may_give port requests output_old output_new (at begun began) (at ended stopped) failures result) same is))

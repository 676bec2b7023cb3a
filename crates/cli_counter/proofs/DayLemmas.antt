-- Connections served at once over the bank that was found in a file.
use Rattle.std.proofs.Common.{◌≡◌, ℕ, List, [], Option, Some, None, Result, inl, inr, sym, subst}
use Rattle.sqlite_disk.specs.declared.Disk.{Ghosts}
use Rattle.sqlite_disk.specs.declared.Files.{Files}
use Rattle.sqlite.specs.declared.FileStore.{FileStore}
use Rattle.sqlite.specs.Held.{Held}
use Rattle.store_rows.specs.Status.{Status, Tells}
use Rattle.store_cached.specs.Standing.{cached_status}
use Rattle.counter_api.specs.Day.{IsDay}
use Rattle.counter_api.proofs.DayLemmas.{day_of_none}
use Rattle.counter_loop.specs.Turns.{StoreAndClock}
use Rattle.counter_places.specs.declared.place.Place.{Place}
use Rattle.exit_lines.specs.Streams.{Stream}
use Rattle.cli_file.specs.Files.{BankStore, IsClosed, IsFound, IsNotClosed, file_status}
use Rattle.cli_file.specs.declared.fault.ActionFault.{ActionFault}
use Rattle.cli_file.proofs.DayLemmas.{bank_day, day_uncovered, tells_below}
use Rattle.cli_file.proofs.OpenedLemmas.{unclosed_leaves}
use Rattle.cli_counter.specs.Attending.{AreReplied, AreRepliedAt, IsAttendedAt, IsAttendedWithCache, messages_at, messages_taken}
use Rattle.cli_counter.proofs.MomentLemmas.{moments_taken}
use Rattle.cli_file.specs.declared.left.PathLeft.{PathLeft}
use Rattle.cli_counter.specs.Places.{Kind}
use Rattle.cli_counter.specs.declared.places.Visited.{Visited}
use Rattle.cli_counter.specs.InFile.{IsAttendedAndClosed, IsAttendedAndUnclosed, IsAttendedOverFile, end_of_counter}

module _ {P E R T S C : Type 0} (kind : Kind E R T) (status : S → Status) (users : List ℕ → Option ℕ) (may_give : C → ℕ → C → Type 0) (places : P) (place : Place) (visits : PathLeft P (Visited E R T)) (output_old output_new : Stream) where
  day_at : (old new : StoreAndClock S C) (result : Result Unit ActionFault) (is : IsAttendedAt kind status users may_give places place visits output_old output_new old new result)
      → IsDay users (status old.store) (status new.store) (messages_at kind status users may_give places place visits output_old output_new old new result is)
  day_at old new result (inl is) = is.1.served.attended.day
  day_at old new result (inr is) = subst (λ (at : StoreAndClock S C). IsDay users (status old.store) (status at.store) []) (sym is.2) (day_of_none users (status old.store))

  replied_at : (old new : StoreAndClock S C) (result : Result Unit ActionFault) (is : IsAttendedAt kind status users may_give places place visits output_old output_new old new result)
      → Tells (status old.store) (status new.store) (AreRepliedAt kind status users may_give places place visits output_old output_new old new result is)
  replied_at old new result (inl is) = is.1.served.attended.replied
  replied_at old new result (inr is) = λ clean w held. tt

module _ {P E R T S C : Type 0} (kind : Kind E R T) (status : S → Status) (users : List ℕ → Option ℕ) (may_give : C → ℕ → C → Type 0) (places : P) (place : Place) (visits : PathLeft P (Visited E R T)) (output_old output_new : Stream) where
  day_taken : (old new : StoreAndClock S C) (result : Result Unit ActionFault) (is : IsAttendedWithCache kind status users may_give places place visits output_old output_new old new result)
      → IsDay users (status old.store) (status new.store) (messages_taken kind status users may_give places place visits output_old output_new old new result is)
  day_taken old new result (inl is) =
      day_uncovered status users is.began is.ended old.store new.store _ is.over is.uncovered is.empty is.unread
      (day_at kind (cached_status status) users may_give places place visits output_old output_new
      (record { store = is.began; clock = old.clock }) (record { store = is.ended; clock = new.clock }) result is.attended)
  day_taken old new result (inr is) = subst (λ (at : StoreAndClock S C). IsDay users (status old.store) (status at.store) []) (sym is.2) (day_of_none users (status old.store))

  replied_taken : (old new : StoreAndClock S C) (result : Result Unit ActionFault) (is : IsAttendedWithCache kind status users may_give places place visits output_old output_new old new result)
      → Tells (status old.store) (status new.store) (AreReplied kind status users may_give places place visits output_old output_new old new result is)
  replied_taken old new result (inl is) =
      tells_below status is.began is.ended old.store new.store is.over is.uncovered is.empty is.unread _
      (replied_at kind (cached_status status) users may_give places place visits output_old output_new
      (record { store = is.began; clock = old.clock }) (record { store = is.ended; clock = new.clock }) result is.attended)
  replied_taken old new result (inr is) = λ clean w held. tt

module _ {D P E R T C : Type 0} (g : Ghosts D) (kind : Kind E R T) (users : List ℕ → Option ℕ) (may_give : C → ℕ → C → Type 0) (opened : Held (FileStore D g)) (places : P) (place : Place) (visits : PathLeft P (Visited E R T)) (output_old output_new : Stream) (from to : C) where
  pub over_file : (begun ended : BankStore D g) (result : Result Unit ActionFault) → IsFound opened begun
      → IsAttendedWithCache kind file_status users may_give places place visits output_old output_new (record { store = begun; clock = from }) (record { store = ended; clock = to }) result
      → IsAttendedOverFile g kind users may_give opened places place visits output_old output_new from to ended result
  over_file begun ended result found attended = record {
    begun = begun;
    found = found;
    attended = attended;
    day = bank_day users opened begun ended _ found
        (day_taken kind file_status users may_give places place visits output_old output_new (record { store = begun; clock = from }) (record { store = ended; clock = to }) result attended) _
        (replied_taken kind file_status users may_give places place visits output_old output_new (record { store = begun; clock = from }) (record { store = ended; clock = to }) result attended);
    moments = moments_taken kind users may_give opened begun ended found places place visits output_old output_new from to result attended;
  }

  pub and_closed : (files : Files D) (ended : BankStore D g) (exit result : Result Unit ActionFault) → IsAttendedOverFile g kind users may_give opened places place visits output_old output_new from to ended exit
      → IsClosed g ended files → result ≡ end_of_counter exit None → IsAttendedAndClosed g kind users may_give opened places place visits output_old output_new from to files result
  and_closed files ended exit result over closed reported = record {
    ended = ended;
    exit = exit;
    over = over;
    closed = closed;
    bank = λ image w of opens reads. closed.bank _ (over.day image w of opens (closed.copied reads).was_clean).holds reads;
    reported = reported;
  }

  pub and_unclosed : (rest : FileStore D g) (ended : BankStore D g) (exit result : Result Unit ActionFault) (stated : ActionFault) → IsAttendedOverFile g kind users may_give opened places place visits output_old output_new from to ended exit
      → IsNotClosed ended stated rest → result ≡ end_of_counter exit (Some stated) → IsAttendedAndUnclosed g kind users may_give opened places place visits output_old output_new from to rest result
  and_unclosed rest ended exit result stated over unclosed reported = record {
    ended = ended;
    exit = exit;
    stated = stated;
    over = over;
    unclosed = unclosed;
    bank = λ image w of opens. unclosed_leaves ended stated rest _ unclosed (λ clean. let day = over.day image w of opens clean in (day.whole, day.leaves));
    reported = reported;
  }

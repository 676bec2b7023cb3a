-- The moments of a day on which many connections were served at once: after each of its turns, and while one is under way.
use Rattle.std.specs.Prelude.{◌≡◌, ⊤, ℕ, zero, suc, Bool, List, [], ◌∷◌, take, Option, Some, slice_get, Result}
use Rattle.std.proofs.Common.{inl, inr}
use Rattle.sqlite_disk.specs.declared.Disk.{Ghosts}
use Rattle.bank_books.specs.WorldLists.{WorldLists}
use Rattle.store_rows.specs.Status.{Status}
use Rattle.store_cached.specs.Standing.{below, cached_status}
use Rattle.store_cached.specs.declared.cached.Cached.{Cached}
use Rattle.exit_lines.specs.Streams.{Stream}
use Rattle.counter_loop.specs.Attended.{AreAnswered, AreAttended, AreSentBefore}
use Rattle.counter_loop.specs.Turns.{AreTurns, StoreAndClock, Boxes, Turn, nothing_yet, one_list, with_box}
use Rattle.counter_door.specs.Ways.{Ways, is_new}
use Rattle.counter_places.specs.declared.place.Place.{Place}
use Rattle.cli_file.specs.BankDay.{IsBankDay}
use Rattle.cli_file.specs.Files.{BankStore, file_status}
use Rattle.cli_file.specs.Moments.{IsUnderWay}
use Rattle.cli_file.specs.declared.fault.ActionFault.{ActionFault}
use Rattle.cli_file.specs.declared.left.PathLeft.{PathLeft}
use Rattle.cli_counter.specs.Attending.{IsAttendedAt, IsAttendedWithCache}
use Rattle.cli_counter.specs.Places.{Kind}
use Rattle.cli_counter.specs.declared.places.Visited.{Visited}

module _ {S C : Type 0} (begins : Option Ways → Bool) (status : S → Status) (users : List ℕ → Option ℕ) (may_give : C → ℕ → C → Type 0) where
  -- the store and the clock after the first n turns
  abbrev pub state_after : (n : ℕ) (boxes : Boxes) (old : StoreAndClock S C) (turns : List Turn) (after : Boxes) (new : StoreAndClock S C) → AreTurns begins status users may_give boxes old turns after new → StoreAndClock S C
  state_after zero boxes old turns after new are_turns = old
  state_after (suc n) boxes old [] after new are_turns = new
  state_after (suc n) boxes old (t ∷ ts) after new (before, there, next, mid, turn, rest) = state_after n (with_box boxes t.who next) mid ts after new rest

module _ {D E R T C : Type 0} (g : Ghosts D) (kind : Kind E R T) (users : List ℕ → Option ℕ) (may_give : C → ℕ → C → Type 0) where
  -- The first n turns are over. All that is said of connections served at once is said of these alone: their messages are a day of the file,
  -- with what a crash leaves after them; and each outbox got the replies to its own, of which a beginning has gone out to its stream. While the next turn is
  -- under way, a crash leaves the same, or the World with the request of that turn carried out.
  pub record IsMoment (w : WorldLists) (turns : List Turn) (n : ℕ) (old now next : StoreAndClock (Cached (BankStore D g)) C) : Type 0 where
    pub attended : AreAttended is_new (cached_status file_status) users may_give old now
    pub first : attended.turns ≡ take n turns
    pub day : IsBankDay users w (one_list (take n turns)) (AreAnswered users (take n turns)) (file_status (below now.store))
    -- What has gone out as the next turn begins is of the replies to these messages: of requests whose effect a crash keeps.
    pub gone_out : AreSentBefore users turns n w
    pub under_way : (t : Turn) → slice_get turns n ≡ Some t → IsUnderWay users w (one_list (take n turns)) t.run (file_status (below next.store))

  -- each moment, from this World on
  abbrev pub AreMomentsAt : {P : Type 0} (places : P) (place : Place) (visits : PathLeft P (Visited E R T)) (output_old output_new : Stream) (old new : StoreAndClock (Cached (BankStore D g)) C) (result : Result Unit ActionFault)
      → IsAttendedAt kind (cached_status file_status) users may_give places place visits output_old output_new old new result → WorldLists → Type 0
  AreMomentsAt places place visits output_old output_new old new result (inl is) w =
      (n : ℕ) → IsMoment w is.1.served.attended.turns n old
      (state_after is_new (cached_status file_status) users may_give n nothing_yet old is.1.served.attended.turns is.1.served.attended.after new is.1.served.attended.are_turns)
      (state_after is_new (cached_status file_status) users may_give (suc n) nothing_yet old is.1.served.attended.turns is.1.served.attended.after new is.1.served.attended.are_turns)
  AreMomentsAt places place visits output_old output_new old new result (inr is) w = ⊤

  abbrev pub AreMoments : {P : Type 0} (places : P) (place : Place) (visits : PathLeft P (Visited E R T)) (output_old output_new : Stream) (old new : StoreAndClock (BankStore D g) C) (result : Result Unit ActionFault)
      → IsAttendedWithCache kind file_status users may_give places place visits output_old output_new old new result → WorldLists → Type 0
  AreMoments places place visits output_old output_new old new result (inl is) w =
      AreMomentsAt places place visits output_old output_new (record { store = is.began; clock = old.clock }) (record { store = is.ended; clock = new.clock }) result is.attended w
  AreMoments places place visits output_old output_new old new result (inr is) w = ⊤

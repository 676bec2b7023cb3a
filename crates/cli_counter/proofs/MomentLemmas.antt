-- The moments of a day, from its turns.
use Rattle.std.proofs.Common.{◌≡◌, ℕ, zero, suc, Bool, inl, inr, List, [], ◌∷◌, ◌++◌, append-nil, append_assoc, drop, take, Option, Some, None, Result, refl, sym, ap, subst, ◌∙◌}
use Rattle.std.specs.Prelude.{slice_get}
use Rattle.sqlite_disk.specs.declared.Disk.{Ghosts}
use Rattle.sqlite_wal.specs.Recovery.{Image}
use Rattle.sqlite.specs.declared.FileStore.{FileStore}
use Rattle.sqlite.specs.Files.{file_state}
use Rattle.sqlite.specs.Held.{Held}
use Rattle.sqlite.specs.State.{HasCleanDisk}
use Rattle.bank_books.specs.WorldLists.{WorldLists}
use Rattle.store_rows.specs.Status.{Status, Tells}
use Rattle.store_cached.specs.Standing.{below, cached_status, known_version, remembered}
use Rattle.store_cached.specs.declared.cached.Cached.{Cached}
use Rattle.exit_lines.specs.Streams.{Stream}
use Rattle.counter_api.specs.Run.{AreInRange, requests_of}
use Rattle.counter_loop.specs.Attended.{AreAnswered, AreAttended, AreSentBefore}
use Rattle.counter_loop.specs.Turns.{AreTurns, StoreAndClock, Boxes, Turn, due_to, nothing_yet, one_list, with_box}
use Rattle.counter_door.specs.Ways.{Ways, is_new}
use Rattle.counter_loop.proofs.DueLemmas.{its_replies}
use Rattle.counter_loop.proofs.AttendedLemmas.{since_now}
use Rattle.counter_loop.proofs.BeforeLemmas.{before_turn, begins_then}
use Rattle.counter_loop.proofs.HandedLemmas.{its_bytes, its_stream}
use Rattle.counter_loop.proofs.ListLemmas.{all_on}
use Rattle.counter_loop.proofs.PartLemmas.{its_messages}
use Rattle.counter_loop.proofs.StepLemmas.{IsMade, as_steps, made_by}
use Rattle.counter_places.specs.declared.place.Place.{Place}
use Rattle.cli_file.specs.BankDay.{IsBankDay}
use Rattle.cli_file.specs.Crash.{IsLeftByCrash}
use Rattle.cli_file.specs.Files.{BankStore, IsFound, file_status}
use Rattle.cli_file.specs.Opened.{IsBankImage, IsOpenedFrom}
use Rattle.cli_file.specs.declared.fault.ActionFault.{ActionFault}
use Rattle.cli_file.proofs.DayLemmas.{bank_day, day_uncovered, tells_below}
use Rattle.cli_file.proofs.MomentLemmas.{IsOneAtMost, under_way}
use Rattle.cli_counter.specs.Attending.{IsAttendedAt, IsAttendedWithCache}
use Rattle.cli_file.specs.declared.left.PathLeft.{PathLeft}
use Rattle.cli_counter.specs.Places.{Kind}
use Rattle.cli_counter.specs.declared.places.Visited.{Visited}
use Rattle.cli_counter.specs.Moments.{AreMoments, AreMomentsAt, IsMoment, state_after}

module _ {S C : Type 0} (begins : Option Ways → Bool) (status : S → Status) (users : List ℕ → Option ℕ) (may_give : C → ℕ → C → Type 0) where
  -- the first turns, and those after them
  pub divided : (n : ℕ) (boxes : Boxes) (old : StoreAndClock S C) (turns : List Turn) (after : Boxes) (new : StoreAndClock S C) (are_turns : AreTurns begins status users may_give boxes old turns after new)
      → (between : Boxes) × AreTurns begins status users may_give boxes old (take n turns) between (state_after begins status users may_give n boxes old turns after new are_turns)
      × AreTurns begins status users may_give between (state_after begins status users may_give n boxes old turns after new are_turns) (drop n turns) after new
  divided zero boxes old [] after new are_turns = (boxes, (refl, refl), are_turns)
  divided zero boxes old (t ∷ ts) after new are_turns = (boxes, (refl, refl), are_turns)
  divided (suc n) boxes old [] after new are_turns = (after, are_turns, (refl, refl))
  divided (suc n) boxes old (t ∷ ts) after new (before, there, next, mid, turn, rest) =
      let parts = divided n (with_box boxes t.who next) mid ts after new rest in
      (parts.0, (before, there, next, mid, turn, parts.1), parts.2)

  -- a turn has one message at most
  one_run : (before : List ℕ) (old new : StoreAndClock S C) (t : Turn) → IsMade status users may_give before old new t → IsOneAtMost t.run
  one_run before old new t (inl (quiet, begun)) = inl quiet.no_run
  one_run before old new t (inr (inl a)) = inr (_, a.run)
  one_run before old new t (inr (inr b)) = inl b.no_run

  pub one_at_most : (n : ℕ) (boxes : Boxes) (old : StoreAndClock S C) (turns : List Turn) (after : Boxes) (new : StoreAndClock S C) → AreTurns begins status users may_give boxes old turns after new
      → (t : Turn) → slice_get turns n ≡ Some t → IsOneAtMost t.run
  one_at_most n boxes old [] after new are_turns t is = absurd cc
  one_at_most zero boxes old (x ∷ ts) after new (before, there, next, mid, turn, rest) t is =
      let same : x ≡ t = cc in subst (λ (y : Turn). IsOneAtMost y.run) same (one_run before.held old mid x (made_by begins status users may_give before next old mid x turn))
  one_at_most (suc n) boxes old (x ∷ ts) after new (before, there, next, mid, turn, rest) t is = one_at_most n (with_box boxes x.who next) mid ts after new rest t is

one_alone : (ts : List Turn) (x : Turn) → x.run ++ one_list (take zero ts) ≡ x.run
one_alone [] x = append-nil x.run
one_alone (y ∷ ys) x = append-nil x.run

-- the messages of one turn more
one_more_turn : (n : ℕ) (turns : List Turn) (t : Turn) → slice_get turns n ≡ Some t → one_list (take (suc n) turns) ≡ one_list (take n turns) ++ t.run
one_more_turn n [] t is = absurd cc
one_more_turn zero (x ∷ ts) t is = let same : x ≡ t = cc in one_alone ts x ∙ ap (λ (y : Turn). y.run) same
one_more_turn (suc n) (x ∷ ts) t is = ap (λ ms. x.run ++ ms) (one_more_turn n ts t is) ∙ sym (append_assoc x.run (one_list (take n ts)) t.run)

module _ {D E R T C : Type 0} {g : Ghosts D} (kind : Kind E R T) (users : List ℕ → Option ℕ) (may_give : C → ℕ → C → Type 0) (opened : Held (FileStore D g)) (begun : BankStore D g) (found : IsFound opened begun)
    (began : Cached (BankStore D g)) (over : below began ≡ begun) (empty : remembered began ≡ []) (unread : known_version began ≡ None) (image : Image) (w : WorldLists) (of : IsBankImage image w) (from : IsOpenedFrom image opened) where
  -- the turns so far, as a day of the file, of whatever they say of the World
  day_so_far : (Says : WorldLists → Type 0) (clock : C) (turns : List Turn) (between : Boxes) (now : StoreAndClock (Cached (BankStore D g)) C)
      → AreTurns is_new (cached_status file_status) users may_give nothing_yet (record { store = began; clock = clock }) turns between now
      → Tells (cached_status file_status began) (cached_status file_status now.store) Says
      → HasCleanDisk (file_state (below now.store).conn) → IsBankDay users w (one_list turns) Says (file_status (below now.store))
  day_so_far Says clock turns between now are_turns says clean =
      let old : StoreAndClock (Cached (BankStore D g)) C = record { store = began; clock = clock } in
      let day = (all_on (cached_status file_status) users may_give old now turns (as_steps is_new (cached_status file_status) users may_give nothing_yet old now between turns are_turns)).day in
      bank_day users opened begun (below now.store) (one_list turns) found
      (day_uncovered file_status users began now.store begun (below now.store) (one_list turns) over refl empty unread day)
      Says
      (tells_below file_status began now.store begun (below now.store) over refl empty unread Says says)
      image w of from clean

  module _ (clock : C) (turns : List Turn) (after : Boxes) (new : StoreAndClock (Cached (BankStore D g)) C) (are_turns : AreTurns is_new (cached_status file_status) users may_give nothing_yet (record { store = began; clock = clock }) turns after new)
      (clean : HasCleanDisk (file_state (below new.store).conn)) where
    -- the first n turns
    day_of : (n : ℕ) (Says : WorldLists → Type 0)
        → Tells (cached_status file_status began) (cached_status file_status (state_after is_new (cached_status file_status) users may_give n nothing_yet (record { store = began; clock = clock }) turns after new are_turns).store) Says
        → IsBankDay users w (one_list (take n turns)) Says
        (file_status (below (state_after is_new (cached_status file_status) users may_give n nothing_yet (record { store = began; clock = clock }) turns after new are_turns).store))
    day_of n Says says =
        let old : StoreAndClock (Cached (BankStore D g)) C = record { store = began; clock = clock } in
        let now = state_after is_new (cached_status file_status) users may_give n nothing_yet old turns after new are_turns in
        let parts = divided is_new (cached_status file_status) users may_give n nothing_yet old turns after new are_turns in
        let rest = all_on (cached_status file_status) users may_give now new (drop n turns) (as_steps is_new (cached_status file_status) users may_give parts.0 now new after (drop n turns) parts.2) in
        day_so_far Says clock (take n turns) parts.0 now parts.1 says (rest.day.honest clean)

    answered_so_far : (n : ℕ)
        → Tells (cached_status file_status began) (cached_status file_status (state_after is_new (cached_status file_status) users may_give n nothing_yet (record { store = began; clock = clock }) turns after new are_turns).store)
        (AreAnswered users (take n turns))
    answered_so_far n h v held k =
        let old : StoreAndClock (Cached (BankStore D g)) C = record { store = began; clock = clock } in
        let parts = divided is_new (cached_status file_status) users may_give n nothing_yet old turns after new are_turns in
        its_replies is_new (cached_status file_status) users may_give k nothing_yet old (state_after is_new (cached_status file_status) users may_give n nothing_yet old turns after new are_turns) parts.0 (take n turns) parts.1 h v held

    day_after : (n : ℕ) → IsBankDay users w (one_list (take n turns)) (AreAnswered users (take n turns))
        (file_status (below (state_after is_new (cached_status file_status) users may_give n nothing_yet (record { store = began; clock = clock }) turns after new are_turns).store))
    day_after n = day_of n (AreAnswered users (take n turns)) (answered_so_far n)

    sent_before : (n : ℕ) → AreSentBefore users turns n w
    sent_before n =
        let old : StoreAndClock (Cached (BankStore D g)) C = record { store = began; clock = clock } in
        (day_of n (AreSentBefore users turns n)
        (λ h v held k. begins_then (due_to users k v (take n turns)) _ _ (answered_so_far n h v held k)
        (before_turn is_new (cached_status file_status) users may_give n k [] nothing_yet old new after turns refl are_turns))).replied

    pub moment_of : (n : ℕ) → IsMoment g kind users may_give w turns n (record { store = began; clock = clock })
        (state_after is_new (cached_status file_status) users may_give n nothing_yet (record { store = began; clock = clock }) turns after new are_turns)
        (state_after is_new (cached_status file_status) users may_give (suc n) nothing_yet (record { store = began; clock = clock }) turns after new are_turns)
    moment_of n =
        let old : StoreAndClock (Cached (BankStore D g)) C = record { store = began; clock = clock } in
        let now = state_after is_new (cached_status file_status) users may_give n nothing_yet old turns after new are_turns in
        let next = state_after is_new (cached_status file_status) users may_give (suc n) nothing_yet old turns after new are_turns in
        let parts = divided is_new (cached_status file_status) users may_give n nothing_yet old turns after new are_turns in
        let so_far : AreAttended is_new (cached_status file_status) users may_give old now = record {
          turns = take n turns;
          after = parts.0;
          are_turns = parts.1;
          day = (all_on (cached_status file_status) users may_give old now (take n turns) (as_steps is_new (cached_status file_status) users may_give nothing_yet old now parts.0 (take n turns) parts.1)).day;
          messages = λ k. its_messages is_new (cached_status file_status) users may_give k [] nothing_yet old now parts.0 (take n turns) refl parts.1;
          replied = λ h v held k. its_replies is_new (cached_status file_status) users may_give k nothing_yet old now parts.0 (take n turns) parts.1 h v held;
          handed = λ k. its_bytes is_new (cached_status file_status) users may_give k [] nothing_yet old now parts.0 (take n turns) refl parts.1;
          streams = λ k box is. its_stream is_new (cached_status file_status) users may_give k box box.ways box.waits old now parts.0 (take n turns) is (since_now box) parts.1;
        } in
        record {
          attended = so_far;
          first = refl;
          day = day_after n;
          gone_out = sent_before n;
          under_way = λ t is. under_way users w (one_list (take n turns)) t.run (file_status (below next.store))
              (one_at_most is_new (cached_status file_status) users may_give n nothing_yet old turns after new are_turns t is)
              (λ left may. subst (λ ms. IsLeftByCrash w (requests_of users ms) left) (one_more_turn n turns t is) ((day_after (suc n)).leaves left may)) (day_after (suc n)).whole
              (subst (λ ms. AreInRange (requests_of users ms)) (one_more_turn n turns t is) (day_after (suc n)).in_range);
        }

  moments_at : {P : Type 0} (places : P) (place : Place) (visits : PathLeft P (Visited E R T)) (output_old output_new : Stream) (clock : C) (new : StoreAndClock (Cached (BankStore D g)) C) (result : Result Unit ActionFault)
      → (is : IsAttendedAt kind (cached_status file_status) users may_give places place visits output_old output_new (record { store = began; clock = clock }) new result)
      → HasCleanDisk (file_state (below new.store).conn) → AreMomentsAt g kind users may_give places place visits output_old output_new (record { store = began; clock = clock }) new result is w
  moments_at places place visits output_old output_new clock new result (inl is) clean = λ n. moment_of clock is.1.served.attended.turns is.1.served.attended.after new is.1.served.attended.are_turns clean n
  moments_at places place visits output_old output_new clock new result (inr is) clean = tt

pub moments_taken : {D P E R T C : Type 0} {g : Ghosts D} (kind : Kind E R T) (users : List ℕ → Option ℕ) (may_give : C → ℕ → C → Type 0) (opened : Held (FileStore D g)) (begun ended : BankStore D g) (found : IsFound opened begun)
    (places : P) (place : Place) (visits : PathLeft P (Visited E R T)) (output_old output_new : Stream) (from to : C) (result : Result Unit ActionFault)
    (is : IsAttendedWithCache kind file_status users may_give places place visits output_old output_new (record { store = begun; clock = from }) (record { store = ended; clock = to }) result)
    → (image : Image) (w : WorldLists) → IsBankImage image w → IsOpenedFrom image opened → HasCleanDisk (file_state ended.conn)
    → AreMoments g kind users may_give places place visits output_old output_new (record { store = begun; clock = from }) (record { store = ended; clock = to }) result is w
moments_taken kind users may_give opened begun ended found places place visits output_old output_new from to result (inl is) image w of opens clean =
    moments_at kind users may_give opened begun found is.began is.over is.empty is.unread image w of opens places place visits output_old output_new from (record { store = is.ended; clock = to }) result is.attended
    (subst (λ s. (file_status s).is_honest) is.uncovered clean)
moments_taken kind users may_give opened begun ended found places place visits output_old output_new from to result (inr is) image w of opens clean = tt

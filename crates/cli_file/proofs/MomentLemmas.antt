-- What a crash leaves while a message is under way, from what it leaves after that.
use Rattle.std.proofs.Common.{◌≡◌, ◌⊎◌, ℕ, zero, suc, inl, inr, List, [], ◌∷◌, ◌++◌, append-nil, drop, take, Option, Some, None, Result, Ok, Err, refl, sym, ap, subst, ◌∙◌}
use Rattle.std.specs.Prelude.{⊤, length, slice_get}
use Rattle.std.proofs.lemmas.List.Elements.{All-tail}
use Rattle.sqlite_disk.specs.declared.Disk.{Ghosts}
use Rattle.sqlite_wal.specs.Recovery.{Image}
use Rattle.sqlite.specs.declared.FileStore.{FileStore}
use Rattle.sqlite.specs.Files.{file_state}
use Rattle.sqlite.specs.Held.{Held}
use Rattle.sqlite.specs.State.{HasCleanDisk}
use Rattle.money.specs.declared.fault.Fault.{Fault}
use Rattle.bank_books.specs.WorldLists.{WorldLists}
use Rattle.bank_meaning.specs.Run.{Marked}
use Rattle.bank_meaning.specs.Sums.{IsProper}
use Rattle.bank_meaning.specs.declared.request.Request.{Request}
use Rattle.http_heads.specs.declared.fault.MessageFault.{MessageFault}
use Rattle.store_rows.specs.Status.{Status}
use Rattle.store_cached.specs.Standing.{below, cached_status, known_version, remembered}
use Rattle.store_cached.specs.declared.cached.Cached.{Cached}
use Rattle.counter_api.specs.Day.{IsDay}
use Rattle.counter_api.proofs.DayLemmas.{day_joined, day_kept, day_of_none, day_of_run}
use Rattle.counter_api.proofs.RunLemmas.{none_ran, one_more}
use Rattle.counter_api.specs.Run.{AreInRange, MarkedMessage, marked, requests_of, stated_by}
use Rattle.cli_file.specs.Crash.{ActsOnceOverCrash, IsLeftByCrash}
use Rattle.cli_file.specs.BankDay.{IsBankDay}
use Rattle.cli_file.specs.Files.{BankStore, IsFound, file_status}
use Rattle.cli_file.specs.Moments.{AreKept, AreMoments, IsLeftWithin, IsNext, IsUnderWay}
use Rattle.cli_file.specs.Opened.{IsBankImage, IsOpenedFrom}
use Rattle.cli_file.proofs.CrashLemmas.{acts_once_over_crash, acts_once_within, left_within}
use Rattle.cli_file.proofs.DayLemmas.{bank_day, day_uncovered}

-- ---- the requests of messages, and of one more

marked_joined : (stated : Result Request MessageFault) (mark : Option Fault) (a b : List Marked) → marked stated mark (a ++ b) ≡ marked stated mark a ++ b
marked_joined (Ok r) mark a b = refl
marked_joined (Err fault) mark a b = refl

requests_joined : (users : List ℕ → Option ℕ) (ms ns : List MarkedMessage) → requests_of users (ms ++ ns) ≡ requests_of users ms ++ requests_of users ns
requests_joined users [] ns = refl
requests_joined users (m ∷ ms) ns =
    ap (marked (stated_by users m) m.mark) (requests_joined users ms ns) ∙ marked_joined (stated_by users m) m.mark (requests_of users ms) (requests_of users ns)

-- these are none, or one
abbrev pub IsOneAtMost : {A : Type 0} → List A → Type 0
IsOneAtMost {A} items = (items ≡ []) ⊎ ((m : A) × (items ≡ m ∷ []))

one_stated : (stated : Result Request MessageFault) (mark : Option Fault) → IsOneAtMost (marked stated mark [])
one_stated (Ok r) mark = inr (record { request = r; mark = mark }, refl)
one_stated (Err fault) mark = inl refl

one_request : (users : List ℕ → Option ℕ) (ms : List MarkedMessage) → IsOneAtMost ms → IsOneAtMost (requests_of users ms)
one_request users ms (inl none) = inl (ap (requests_of users) none)
one_request users ms (inr (m, one)) = subst (λ ns. IsOneAtMost (requests_of users ns)) (sym one) (one_stated (stated_by users m) m.mark)

-- ---- what is left

within_requests : (w : WorldLists) (over more : List Marked) (left : WorldLists) → IsOneAtMost more → IsLeftByCrash w (over ++ more) left → IsLeftWithin w over more left
within_requests w over more left (inl none) is = inl (subst (λ l. IsLeftByCrash w l left) (ap (λ ms. over ++ ms) none ∙ append-nil over) is)
within_requests w over more left (inr (m, one)) is =
    elim (left_within w over m.request m.mark left (subst (λ ms. IsLeftByCrash w (over ++ ms) left) one is)) [
      | inl before ↦ inl before
      | inr with_it ↦ inr (m, one, with_it)
    ]

once_within : (w : WorldLists) (over more : List Marked) (left : WorldLists) → IsLeftWithin w over more left → ActsOnceOverCrash w over left
once_within w over more left (inl is) = acts_once_over_crash w over left is
once_within w over more left (inr (m, one, is)) = acts_once_within w over m.request left is

-- the requests of one that is under way are in range, as those of it after the others are
more_in_range : (over more : List Marked) → AreInRange (over ++ more) → AreInRange more
more_in_range [] more in_range = in_range
more_in_range (m ∷ over) more in_range = more_in_range over more (All-tail (λ m. IsProper m.request) m (over ++ more) in_range)

-- from what a crash leaves after the message that is under way
pub under_way : (users : List ℕ → Option ℕ) (w : WorldLists) (over more : List MarkedMessage) (next : Status) → IsOneAtMost more
    → ((left : WorldLists) → next.may_leave left → IsLeftByCrash w (requests_of users (over ++ more)) left) → next.leaves_a_world → AreInRange (requests_of users (over ++ more))
    → IsUnderWay users w over more next
under_way users w over more next one after whole in_range =
    let within : (left : WorldLists) → next.may_leave left → IsLeftWithin w (requests_of users over) (requests_of users more) left =
    λ left may. within_requests w (requests_of users over) (requests_of users more) left (one_request users more one)
    (subst (λ rs. IsLeftByCrash w rs left) (requests_joined users over more) (after left may)) in
    record {
      leaves = within;
      sent_again = λ left may. once_within w (requests_of users over) (requests_of users more) left (within left may);
      whole = whole;
      in_range = more_in_range (requests_of users over) (requests_of users more) (subst AreInRange (requests_joined users over more) in_range);
    }

-- whatever bytes went out
abbrev any_bytes : List ℕ → List ℕ → Type 0
any_bytes replies out = ⊤

-- ---- messages one after another

module _ {S : Type 0} (status : S → Status) (users : List ℕ → Option ℕ) where
  -- a state of the store after each of these messages, and after what broke since the last
  abbrev pub PassesBy : S → List MarkedMessage → S → Type 0
  PassesBy old [] new = (faults : List Fault) × AreKept status users old faults new
  PassesBy old (m ∷ ms) new = (mid : S) × IsNext status users old m mid × PassesBy mid ms new

  -- that after the first n of them
  abbrev pub state_after : (n : ℕ) (old : S) (ms : List MarkedMessage) (new : S) → PassesBy old ms new → S
  state_after zero old ms new is = old
  state_after (suc n) old [] new is = new
  state_after (suc n) old (m ∷ ms) new is = state_after n is.0 ms new is.2

  -- ---- what broke

  kept_joined : (old : S) (faults : List Fault) (mid : S) (more : List Fault) (new : S) → AreKept status users old faults mid → AreKept status users mid more new → AreKept status users old (faults ++ more) new
  kept_joined old [] mid more new same is = subst (λ s. AreKept status users s more new) same is
  kept_joined old (fault ∷ faults) mid more new (next, here, rest) is = (next, here, kept_joined next faults mid more new rest is)

  pub passes_then : (old : S) (ms : List MarkedMessage) (mid : S) (faults : List Fault) (new : S) → PassesBy old ms mid → AreKept status users mid faults new → PassesBy old ms new
  passes_then old [] mid faults new (broke, is) kept = (broke ++ faults, kept_joined old broke mid faults new is kept)
  passes_then old (m ∷ ms) mid faults new is kept = (is.0, is.1, passes_then is.0 ms mid faults new is.2 kept)

  -- what broke before them
  kept_then : (old : S) (faults : List Fault) (mid : S) (ms : List MarkedMessage) (new : S) → AreKept status users old faults mid → PassesBy mid ms new → PassesBy old ms new
  kept_then old faults mid [] new kept (broke, is) = (faults ++ broke, kept_joined old faults mid broke new kept is)
  kept_then old faults mid (m ∷ ms) new kept (next, step, rest) =
      (next, record { broke = faults ++ step.broke; mid = step.mid; kept = kept_joined old faults mid step.broke step.mid kept step.kept; handled = step.handled }, rest)

  pub passes_joined : (old : S) (ms : List MarkedMessage) (mid : S) (ns : List MarkedMessage) (new : S) → PassesBy old ms mid → PassesBy mid ns new → PassesBy old (ms ++ ns) new
  passes_joined old [] mid ns new (broke, kept) more = kept_then old broke mid ns new kept more
  passes_joined old (m ∷ ms) mid ns new is more = (is.0, is.1, passes_joined is.0 ms mid ns new is.2 more)

  -- ---- each is a day of its own

  day_of_broken : (old : S) (faults : List Fault) (new : S) → AreKept status users old faults new → IsDay users (status old) (status new) []
  day_of_broken old [] new same = subst (λ s. IsDay users (status old) (status s) []) (sym same) (day_of_none users (status old))
  day_of_broken old (fault ∷ faults) new (mid, here, rest) =
      day_joined users (status old) (status mid) (status new) [] [] (day_kept users (status old) (status old) (status mid) [] (Some fault) (day_of_none users (status old)) here)
      (day_of_broken mid faults new rest)

  day_of_next : (old : S) (m : MarkedMessage) (new : S) → IsNext status users old m new → IsDay users (status old) (status new) (m ∷ [])
  day_of_next old m new is =
      day_joined users (status old) (status is.mid) (status new) [] (m ∷ []) (day_of_broken old is.broke is.mid is.kept)
      (day_of_run any_bytes users (status is.mid) (status new) (m ∷ []) []
      (one_more any_bytes users (status is.mid) (status new) (status new) m [] (λ response. ⊤) [] [] (λ response replies said none. tt) is.handled (none_ran any_bytes tt users (status new))))

  all_of_it : (old : S) (ms : List MarkedMessage) (new : S) → PassesBy old ms new → IsDay users (status old) (status new) ms
  all_of_it old [] new (broke, is) = day_of_broken old broke new is
  all_of_it old (m ∷ ms) new is = day_joined users (status old) (status is.0) (status new) (m ∷ []) ms (day_of_next old m is.0 is.1) (all_of_it is.0 ms new is.2)

  first_of_it : (n : ℕ) (old : S) (ms : List MarkedMessage) (new : S) (is : PassesBy old ms new) → IsDay users (status old) (status (state_after n old ms new is)) (take n ms)
  first_of_it zero old [] new is = day_of_none users (status old)
  first_of_it zero old (m ∷ ms) new is = day_of_none users (status old)
  first_of_it (suc n) old [] new (broke, is) = day_of_broken old broke new is
  first_of_it (suc n) old (m ∷ ms) new is =
      day_joined users (status old) (status is.0) (status (state_after n is.0 ms new is.2)) (m ∷ []) (take n ms) (day_of_next old m is.0 is.1) (first_of_it n is.0 ms new is.2)

  rest_of_it : (n : ℕ) (old : S) (ms : List MarkedMessage) (new : S) (is : PassesBy old ms new) → IsDay users (status (state_after n old ms new is)) (status new) (drop n ms)
  rest_of_it zero old [] new (broke, is) = day_of_broken old broke new is
  rest_of_it zero old (m ∷ ms) new is = all_of_it old (m ∷ ms) new is
  rest_of_it (suc n) old [] new is = day_of_none users (status new)
  rest_of_it (suc n) old (m ∷ ms) new is = rest_of_it n is.0 ms new is.2

  -- ---- from each to the next

  step_at : (n : ℕ) (old : S) (ms : List MarkedMessage) (new : S) (is : PassesBy old ms new) (m : MarkedMessage) → slice_get ms n ≡ Some m
      → IsNext status users (state_after n old ms new is) m (state_after (suc n) old ms new is)
  step_at n old [] new is m at = absurd cc
  step_at zero old (x ∷ ms) new is m at = let same : x ≡ m = cc in subst (λ (y : MarkedMessage). IsNext status users old y is.0) same is.1
  step_at (suc n) old (x ∷ ms) new is m at = step_at n is.0 ms new is.2 m at

  at_end : (old : S) (ms : List MarkedMessage) (new : S) (is : PassesBy old ms new) → (faults : List Fault) × AreKept status users (state_after (length ms) old ms new is) faults new
  at_end old [] new is = is
  at_end old (m ∷ ms) new is = at_end is.0 ms new is.2

none_taken : (n : ℕ) → ◌≡◌ {A = List MarkedMessage} (take n []) []
none_taken zero = refl
none_taken (suc n) = refl

one_more_message : (n : ℕ) (ms : List MarkedMessage) (m : MarkedMessage) → slice_get ms n ≡ Some m → take (suc n) ms ≡ take n ms ++ m ∷ []
one_more_message n [] m is = absurd cc
one_more_message zero (x ∷ []) m is = let same : x ≡ m = cc in ap (λ y. y ∷ []) same
one_more_message zero (x ∷ (y ∷ ms)) m is = let same : x ≡ m = cc in ap (λ y. y ∷ []) same
one_more_message (suc n) (x ∷ ms) m is = ap (λ xs. x ∷ xs) (one_more_message n ms m is)

module _ {D : Type 0} {g : Ghosts D} (users : List ℕ → Option ℕ) (opened : Held (FileStore D g)) (begun : BankStore D g) (found : IsFound opened begun) (image : Image) (w : WorldLists) (of : IsBankImage image w)
    (from : IsOpenedFrom image opened) where
  module _ (began ended : Cached (BankStore D g)) (over : below began ≡ begun) (empty : remembered began ≡ []) (unread : known_version began ≡ None) (ms : List MarkedMessage)
      (is : PassesBy (cached_status file_status) users began ms ended) (clean : HasCleanDisk (file_state (below ended).conn)) where
    day_after : (n : ℕ) → IsBankDay users w (take n ms) (λ v. ⊤) (file_status (below (state_after (cached_status file_status) users n began ms ended is)))
    day_after n =
        let now = state_after (cached_status file_status) users n began ms ended is in
        bank_day users opened begun (below now) (take n ms) found
        (day_uncovered file_status users began now begun (below now) (take n ms) over refl empty unread (first_of_it (cached_status file_status) users n began ms ended is))
        (λ v. ⊤) (λ h v held. tt) image w of from ((rest_of_it (cached_status file_status) users n began ms ended is).honest clean)

    -- the moments of messages that were answered over a cache that kept nothing as it began
    pub moments_through : AreMoments (cached_status file_status) (λ c. file_status (below c)) users w ms began ended
    moments_through = record {
      after = λ n. state_after (cached_status file_status) users n began ms ended is;
      begins = refl;
      steps = λ n m at. step_at (cached_status file_status) users n began ms ended is m at;
      ends = at_end (cached_status file_status) users began ms ended is;
      day = day_after;
      under_way = λ n m at. under_way users w (take n ms) (m ∷ []) (file_status (below (state_after (cached_status file_status) users (suc n) began ms ended is))) (inr (m, refl))
          (λ left may. subst (λ ns. IsLeftByCrash w (requests_of users ns) left) (one_more_message n ms m at) ((day_after (suc n)).leaves left may)) (day_after (suc n)).whole
          (subst (λ ns. AreInRange (requests_of users ns)) (one_more_message n ms m at) (day_after (suc n)).in_range);
    }

  -- there were none
  pub no_moments : (ended : BankStore D g) → ended ≡ begun → HasCleanDisk (file_state begun.conn) → AreMoments file_status file_status users w [] begun ended
  no_moments ended same clean = record {
    after = λ n. begun;
    begins = refl;
    steps = λ n m at. absurd cc;
    ends = ([], same);
    day = λ n. subst (λ ms. IsBankDay users w ms (λ v. ⊤) (file_status begun)) (sym (none_taken n))
        (bank_day users opened begun begun [] found (day_of_none users (file_status begun)) (λ v. ⊤) (λ h v held. tt) image w of from clean);
    under_way = λ n m at. absurd cc;
  }

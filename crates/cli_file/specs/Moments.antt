-- A crash at any moment of a day: between its messages, or while one of them is under way.
use Rattle.std.specs.Prelude.{◌≡◌, ◌⊎◌, ◌∷◌, [], ⊤, ℕ, suc, List, length, Option, Some, slice_get, take}
use Rattle.money.specs.declared.fault.Fault.{Fault}
use Rattle.bank_books.specs.WorldLists.{WorldLists}
use Rattle.bank_meaning.specs.Run.{Marked, step, world_after}
use Rattle.store_rows.specs.Status.{Keeps, Status}
use Rattle.counter_api.specs.Run.{AreInRange, IsHandled, MarkedMessage, requests_of}
use Rattle.cli_file.specs.BankDay.{IsBankDay}
use Rattle.cli_file.specs.Crash.{ActsOnceOverCrash, IsLeftByCrash}

-- What a crash leaves while at most one request is under way: what it leaves after those that are over; or the World after those, with the
-- one under way carried out, whatever its answer.
abbrev pub IsLeftWithin : WorldLists → List Marked → List Marked → WorldLists → Type 0
IsLeftWithin w over under_way left =
    IsLeftByCrash w over left ⊎ ((m : Marked) × (under_way ≡ m ∷ []) × (left ≡ step (world_after w over) m.request))

-- Messages that are over, from this World on, and at most one that is under way, which leads to the state `next`. Of that state only what a
-- crash may leave is named; so the clauses speak of a machine that stops within the message, too, as one on whose disk each later call fails
-- and changes nothing.
pub record IsUnderWay (users : List ℕ → Option ℕ) (w : WorldLists) (over under_way : List MarkedMessage) (next : Status) : Type 0 where
  pub leaves : (left : WorldLists) → next.may_leave left → IsLeftWithin w (requests_of users over) (requests_of users under_way) left
  -- What bears a slip acts once, also where it is sent again to that.
  pub sent_again : (left : WorldLists) → next.may_leave left → ActsOnceOverCrash w (requests_of users over) left
  -- Whatever it leaves is a World, and no part of one.
  pub whole : next.leaves_a_world
  -- The request that is under way is in range.
  pub in_range : AreInRange (requests_of users under_way)

module _ {S : Type 0} (status : S → Status) (users : List ℕ → Option ℕ) where
  -- Reports broke by these faults, one after another, each of which kept the store as it was, and nothing else was done.
  abbrev pub AreKept : S → List Fault → S → Type 0
  AreKept old [] new = new ≡ old
  AreKept old (fault ∷ faults) new = (mid : S) × Keeps (status old) (status mid) (Some fault) × AreKept mid faults new

  -- One message was answered, after reports that broke.
  pub record IsNext (old : S) (m : MarkedMessage) (new : S) : Type 0 where
    pub broke : List Fault
    pub mid : S
    pub kept : AreKept old broke mid
    pub handled : IsHandled users (status mid) (status new) m (λ response. ⊤)

-- The moments of a day whose messages were answered one after another, from this World on: the states of the store that answered them, each with
-- the status of the file below it.
pub record AreMoments {S : Type 0} (status file : S → Status) (users : List ℕ → Option ℕ) (w : WorldLists) (ms : List MarkedMessage) (first last : S) : Type 0 where
  -- the store after the first n of the messages: from the first, by each message to the next, and up to the last
  pub after : ℕ → S
  pub begins : after 0 ≡ first
  pub steps : (n : ℕ) (m : MarkedMessage) → slice_get ms n ≡ Some m → IsNext status users (after n) m (after (suc n))
  pub ends : (faults : List Fault) × AreKept status users (after (length ms)) faults last
  -- These are a day of their own, with what a crash leaves after them.
  pub day : (n : ℕ) → IsBankDay users w (take n ms) (λ v. ⊤) (file (after n))
  -- While the next is under way, a crash leaves the same, or the World with its request carried out.
  pub under_way : (n : ℕ) (m : MarkedMessage) → slice_get ms n ≡ Some m → IsUnderWay users w (take n ms) (m ∷ []) (file (after (suc n)))

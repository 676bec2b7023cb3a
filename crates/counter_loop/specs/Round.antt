-- One round of the loop, and what holds from one to another.
use Rattle.std.specs.Prelude.{◌≡◌, ◌≢◌, ℕ, List, [], ◌∷◌, ◌++◌, All, Bool, Option, Some, ⊤}
use Rattle.std.specs.declared.time.Instant.{Instant}
use Rattle.reports.specs.Report.{BeginsWith}
use Rattle.counter_loop.specs.Ends.{HasPassed, max_wait}
use Rattle.counter_door.specs.Readiness.{IsReadAt, with_reports}
use Rattle.counter_loop.specs.Turns.{Box, Boxes, Turn}
use Rattle.counter_door.specs.Ways.{Ways}
use Rattle.counter_door.specs.declared.readiness.Ready.{Ready}

-- A connection as a round begins: its number, and what its stream reports.
pub record Standing : Type 0 where
  pub who : ℕ
  pub ways : Option Ways

-- One round: what was reported as it began, and what the clock showed then; the connections that were held, under the keys by which they are reported;
-- the turns that were taken in it; and what there is of each connection after them.
pub record Round : Type 0 where
  pub ready : List Ready
  pub now : Instant
  pub there : ℕ → Option Standing
  pub turns : List Turn
  pub after : Boxes

-- the turns of rounds, one after another
abbrev pub joined : List Round → List Turn
joined [] = []
joined (r ∷ rounds) = r.turns ++ joined rounds

-- and their reports
abbrev pub reports_of : List Round → List (List Ready)
reports_of [] = []
reports_of (r ∷ rounds) = r.ready ∷ reports_of rounds

-- each was at a reading of the clock from about its wait, from what was reported by then on
abbrev pub AreRead : (Option (List (List Ready)) → Instant → Bool) → Option (List (List Ready)) → List Round → Type 0
AreRead shows kept [] = ⊤
AreRead shows kept (r ∷ rounds) = IsReadAt shows kept r.ready r.now × AreRead shows (with_reports kept (r.ready ∷ [])) rounds

-- the last of rounds was at this reading
abbrev pub IsAt : List Round → Instant → Type 0
IsAt rounds now = (before : List Round) × (last : Round) × (rounds ≡ before ++ last ∷ []) × (last.now ≡ now)

-- this holds after each of them from one on, which was at this reading
pub record LastsSince (rounds : List Round) (since : Instant) (holds : Boxes → Type 0) : Type 0 where
  pub before : List Round
  pub first : Round
  pub later : List Round
  pub is : rounds ≡ before ++ first ∷ later
  pub at : first.now ≡ since
  pub all : All (λ (r : Round). holds r.after) (first ∷ later)

-- This was so too long: after each of some rounds, between whose first and last reading lie the seconds that a client may take.
pub record IsLate (rounds : List Round) (holds : Boxes → Type 0) : Type 0 where
  pub some : List Round
  pub more : List Round
  pub is : rounds ≡ some ++ more
  pub since : Instant
  pub now : Instant
  pub lasts : LastsSince some since holds
  pub at : IsAt some now
  pub passed : HasPassed max_wait since now

-- of one these bytes are held, and what came after them
abbrev pub HoldsFrom : List ℕ → ℕ → Boxes → Type 0
HoldsFrom part k boxes = (box : Box) × (boxes k ≡ Some box) × BeginsWith box.held part

-- of one the same bytes were held too long, with no more than others after them
abbrev pub IsLatePart : List Round → ℕ → List ℕ → Type 0
IsLatePart rounds k held = (part : List ℕ) × (part ≢ []) × BeginsWith held part × IsLate rounds (HoldsFrom part k)

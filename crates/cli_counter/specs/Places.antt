-- The places where connections come, by what their doors, their systems and the streams that were let in report.
use Rattle.std.specs.Prelude.{◌≡◌, ℕ, Bool, List, [], Option, ⊤}
use Rattle.std.specs.declared.time.Instant.{Instant}
use Rattle.counter_door.specs.Ways.{Ways}
use Rattle.counter_door.specs.declared.readiness.Ready.{Ready}
use Rattle.cli_file.specs.declared.left.PathLeft.{PathLeft}
use Rattle.cli_file.specs.declared.left.PathLeft.TheVariants as path
use Rattle.cli_counter.specs.declared.places.Visited.{Visited}

-- What is known of places of one kind, by their doors, systems and streams.
pub record Kind (E R T : Type 0) : Type 1 where
  -- how many connections a door gave
  pub given : E → ℕ
  -- what a stream reports of what was done with it, and that its last write took no more, or failed
  pub ways : T → Option Ways
  pub full : T → Type 0
  pub failed : T → Type 0
  -- what a system has reported, wait after wait, as it begins and by now; and whether its clock showed this after it had reported this much
  pub begun : Option (List (List Ready))
  pub reported : R → Option (List (List Ready))
  pub shows : Option (List (List Ready)) → Instant → Bool

-- No connection came to a place: what acquires places is as it was; or it was used, and acquired none; or the door of the place gave nobody.
abbrev pub IsUnvisited : {P E R T : Type 0} → Kind E R T → P → PathLeft P (Visited E R T) → Type 0
IsUnvisited kind places (path.Unopened p) = p ≡ places
IsUnvisited kind places path.Refused = ⊤
IsUnvisited kind places (path.Opened visited) = (kind.given visited.door ≡ 0) × (visited.parted.log.items ≡ [])

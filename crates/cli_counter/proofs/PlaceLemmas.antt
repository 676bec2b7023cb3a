-- The connections of a door that was acquired are those of the place that is left.
use Rattle.std.proofs.Common.{◌≡◌, ℕ, Bool, List, Option, Result, inl, inr, refl, subst}
use Rattle.std.specs.declared.time.Instant.{Instant}
use Rattle.store_rows.specs.Status.{Status}
use Rattle.counter_places.specs.declared.place.Place.{Place}
use Rattle.exit_lines.specs.Streams.{Stream}
use Rattle.counter_loop.specs.Turns.{StoreAndClock}
use Rattle.counter_door.specs.Ways.{Ways, is_new}
use Rattle.counter_door.specs.declared.readiness.Ready.{Ready}
use Rattle.cli_file.specs.declared.fault.ActionFault.{ActionFault}
use Rattle.cli_file.specs.declared.left.PathLeft.TheVariants as path
use Rattle.cli_counter.specs.Attending.{IsAttendedAt, IsAttendedAtDoor}
use Rattle.cli_counter.specs.Places.{Kind}
use Rattle.cli_counter.specs.declared.places.Visited.{Visited}

module _ {P E R T S C : Type 0} (kind : Kind E R T) (status : S → Status) (users : List ℕ → Option ℕ) (may_give : C → ℕ → C → Type 0) where
  left_there : (places : P) (place : Place) (visited : Visited E R T) (output_old output_new : Stream) (old new : StoreAndClock S C) (result : Result Unit ActionFault)
      → IsAttendedAtDoor is_new kind.ways kind.full kind.failed status users may_give kind.shows kind.begun (kind.reported visited.system) 0 (kind.given visited.door) visited.parted place output_old output_new old new result
      → IsAttendedAt kind status users may_give places place (path.Opened visited) output_old output_new old new result
  left_there places place visited output_old output_new old new result (inl (stated, at, ended, fault)) =
      inl (stated, record { visited = visited; left = refl; served = at.served; at_door = at.at_door; ended = ended; fault = fault })
  left_there places place visited output_old output_new old new result (inr (stated, given, parted, same, fault)) = inr (inr stated, (given, parted), same, fault)

  pub at_place : (places : P) (place : Place) (visited : Visited E R T) (begins : Option Ways → Bool) (shows : Option (List (List Ready)) → Instant → Bool) (begun : Option (List (List Ready))) (given : ℕ)
      (output_old output_new : Stream) (old new : StoreAndClock S C) (result : Result Unit ActionFault)
      → given ≡ 0 → begins ≡ is_new → begun ≡ kind.begun → shows ≡ kind.shows
      → IsAttendedAtDoor begins kind.ways kind.full kind.failed status users may_give shows begun (kind.reported visited.system) given (kind.given visited.door) visited.parted place output_old output_new old new result
      → IsAttendedAt kind status users may_give places place (path.Opened visited) output_old output_new old new result
  at_place places place visited begins shows begun given output_old output_new old new result none new_ones starts stands is =
      left_there places place visited output_old output_new old new result
      (subst (λ (n : ℕ). IsAttendedAtDoor is_new kind.ways kind.full kind.failed status users may_give kind.shows kind.begun (kind.reported visited.system) n (kind.given visited.door) visited.parted place output_old output_new old new result) none
      (subst (λ (reported : Option (List (List Ready))). IsAttendedAtDoor is_new kind.ways kind.full kind.failed status users may_give kind.shows reported (kind.reported visited.system) given (kind.given visited.door) visited.parted place output_old output_new old new result) starts
      (subst (λ (showing : Option (List (List Ready)) → Instant → Bool). IsAttendedAtDoor is_new kind.ways kind.full kind.failed status users may_give showing begun (kind.reported visited.system) given (kind.given visited.door) visited.parted place output_old output_new old new result) stands
      (subst (λ (first : Option Ways → Bool). IsAttendedAtDoor first kind.ways kind.full kind.failed status users may_give shows begun (kind.reported visited.system) given (kind.given visited.door) visited.parted place output_old output_new old new result) new_ones is))))

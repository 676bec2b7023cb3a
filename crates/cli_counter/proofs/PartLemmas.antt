-- A place that a counter served, by the parts that it was made of, and those that it left.
use Rattle.std.proofs.Common.{◌≡◌, ℕ, List, Option, Result, ap₂, subst, sym}
use Rattle.store_rows.specs.Status.{Status}
use Rattle.counter_places.specs.declared.place.Place.{Place}
use Rattle.exit_lines.specs.Streams.{Stream}
use Rattle.counter_loop.specs.Turns.{StoreAndClock}
use Rattle.cli_file.specs.declared.left.PathLeft.{PathLeft}
use Rattle.cli_counter.specs.Places.{Kind}
use Rattle.cli_counter.specs.declared.places.Visited.{Visited}
use Rattle.cli_file.specs.declared.fault.ActionFault.{ActionFault}
use Rattle.cli_counter.specs.Attending.{IsAttendedAt}

-- a store and a clock, as turns take them over
abbrev pub at : {S C : Type 0} → S → C → StoreAndClock S C
at store clock = record { store = store; clock = clock }

pub by_parts : {P E R T S C : Type 0} (kind : Kind E R T) (status : S → Status) (may_give : C → ℕ → C → Type 0) (places : P) (place : Place) (visits : PathLeft P (Visited E R T)) (output_old output_new : Stream) (known users : List ℕ → Option ℕ)
    (begun opened ended left : S) (began standing stopped to : C) (result : Result Unit ActionFault)
    → known ≡ users → begun ≡ opened → began ≡ standing → left ≡ ended → to ≡ stopped
    → IsAttendedAt kind status known may_give places place visits output_old output_new (at begun began) (at ended stopped) result
    → IsAttendedAt kind status users may_give places place visits output_old output_new (at opened standing) (at left to) result
by_parts kind status may_give places place visits output_old output_new known users begun opened ended left began standing stopped to result same over stands is_left stops is =
    subst (λ to. IsAttendedAt kind status users may_give places place visits output_old output_new (at opened standing) to result) (sym (ap₂ at is_left stops))
    (subst (λ from. IsAttendedAt kind status users may_give places place visits output_old output_new from (at ended stopped) result) (ap₂ at over stands)
    (subst (λ known. IsAttendedAt kind status known may_give places place visits output_old output_new (at begun began) (at ended stopped) result) same is))

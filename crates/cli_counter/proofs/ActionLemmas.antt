-- What an action answers if its file is not opened.
use Rattle.std.proofs.Common.{ℕ, List, Option, Err, inr, refl}
use Rattle.sqlite_disk.specs.declared.Disk.{Ghosts}
use Rattle.sqlite_wal.specs.Recovery.{Image}
use Rattle.counter_places.specs.declared.place.Place.{Place}
use Rattle.exit_lines.specs.Streams.{Stream}
use Rattle.cli_file.specs.Unopened.{IsUnopenedFor}
use Rattle.cli_file.specs.declared.fault.ActionFault.{ActionFault}
use Rattle.cli_file.specs.declared.left.FileLeft.{FileLeft}
use Rattle.cli_file.specs.declared.left.PathLeft.{PathLeft}
use Rattle.cli_file.specs.declared.left.PathLeft.TheVariants as path
use Rattle.cli_counter.specs.Actions.{IsAttended}
use Rattle.cli_counter.specs.Places.{Kind}

module _ {D O P E R T C : Type 0} (g : Ghosts D) (kind : Kind E R T) (image : Image) (text : List ℕ → Option (List ℕ)) (opener : O) (places : P) where
  pub not_attended : (list : List ℕ) (may_give : C → ℕ → C → Type 0) (place : Place) (output : Stream) (clock : C) (left : PathLeft O (FileLeft D g)) (stated : ActionFault)
      → IsUnopenedFor opener left stated → IsAttended g kind image text list may_give opener places place (path.Unopened places) output output clock clock left (Err stated)
  not_attended list may_give place output clock (path.Unopened o) stated is = (is.0, inr is.1, refl, refl, refl)
  not_attended list may_give place output clock path.Refused stated is = (is, refl, refl, refl)
  not_attended list may_give place output clock (path.Opened left) stated is = absurd is

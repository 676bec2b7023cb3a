-- What an action answers if its file is not opened.
use Rattle.std.proofs.Common.{ℕ, List, Option, None, Err, inr, refl}
use Rattle.sqlite_disk.specs.declared.Disk.{Ghosts}
use Rattle.sqlite_wal.specs.Recovery.{Image}
use Rattle.exit_lines.specs.Streams.{Stream, Streams}
use Rattle.cli_file.specs.Unopened.{IsUnopenedFor}
use Rattle.cli_file.specs.declared.fault.ActionFault.{ActionFault}
use Rattle.cli_file.specs.declared.left.FileLeft.{FileLeft}
use Rattle.cli_file.specs.declared.left.PathLeft.{PathLeft}
use Rattle.cli_file.specs.declared.left.PathLeft.TheVariants as path
use Rattle.cli_serve.specs.Actions.{IsListened, IsRun}

module _ {D O : Type 0} (g : Ghosts D) (image : Image) (text : List ℕ → Option (List ℕ)) (opener : O) where
  pub not_run : (list : List ℕ) (moment : ℕ) (at : Streams) (left : PathLeft O (FileLeft D g)) (stated : ActionFault) → IsUnopenedFor opener left stated → IsRun g image text opener list moment at at left (Err stated)
  not_run list moment at (path.Unopened o) stated is = (is.0, inr is.1, refl)
  not_run list moment at path.Refused stated is = (is, refl)
  not_run list moment at (path.Opened left) stated is = absurd is

  pub not_listened : {C : Type 0} (list : List ℕ) (may_give : C → ℕ → C → Type 0) (port requests : ℕ) (output : Stream) (clock : C) (left : PathLeft O (FileLeft D g)) (stated : ActionFault)
      → IsUnopenedFor opener left stated → IsListened g image text list may_give opener port requests output output clock clock None left (Err stated)
  not_listened list may_give port requests output clock (path.Unopened o) stated is = (is.0, inr is.1, refl, refl, refl)
  not_listened list may_give port requests output clock path.Refused stated is = (is, refl, refl, refl)
  not_listened list may_give port requests output clock (path.Opened left) stated is = absurd is

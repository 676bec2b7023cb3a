-- What an action answers if its file is not opened.
use Rattle.std.proofs.Common.{Err}
use Rattle.sqlite_disk.specs.declared.Disk.{Ghosts}
use Rattle.sqlite_wal.specs.Recovery.{Image}
use Rattle.cli_file.specs.Checking.{IsChecked}
use Rattle.cli_file.specs.Unopened.{IsUnopenedFor}
use Rattle.cli_file.specs.declared.fault.ActionFault.{ActionFault}
use Rattle.cli_file.specs.declared.left.FileLeft.{FileLeft}
use Rattle.cli_file.specs.declared.left.PathLeft.{PathLeft}
use Rattle.cli_file.specs.declared.left.PathLeft.TheVariants as path

module _ {D O : Type 0} (g : Ghosts D) (image : Image) (opener : O) where
  pub not_checked : (left : PathLeft O (FileLeft D g)) (stated : ActionFault) → IsUnopenedFor opener left stated → IsChecked g image opener left (Err stated)
  not_checked (path.Unopened o) stated is = is
  not_checked path.Refused stated is = is
  not_checked (path.Opened left) stated is = absurd is

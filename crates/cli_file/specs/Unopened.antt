-- Why a file that is to be there was not opened.
use Rattle.std.specs.Prelude.{◌≡◌}
use Rattle.sqlite_disk.specs.declared.Disk.{Ghosts}
use Rattle.cli_file.specs.Faults.{IsOfFile, IsUnopened}
use Rattle.cli_file.specs.declared.fault.ActionFault.{ActionFault}
use Rattle.cli_file.specs.declared.left.FileLeft.{FileLeft}
use Rattle.cli_file.specs.declared.left.PathLeft.{PathLeft}
use Rattle.cli_file.specs.declared.left.PathLeft.TheVariants as path

-- It was not opened, for what was seen of it, and the opener is handed back; or the opener failed.
abbrev pub IsUnopenedFor : {D O : Type 0} {g : Ghosts D} → O → PathLeft O (FileLeft D g) → ActionFault → Type 0
IsUnopenedFor opener (path.Unopened o) stated = (o ≡ opener) × IsUnopened stated
IsUnopenedFor opener path.Refused stated = IsOfFile stated
IsUnopenedFor opener (path.Opened left) stated = ⊥

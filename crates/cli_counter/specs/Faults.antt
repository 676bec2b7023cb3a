-- Why a place could not be acquired, or its connections not served to the end.
use Rattle.std.specs.Prelude.{⊤}
use Rattle.cli_file.specs.declared.fault.ActionFault.{ActionFault}
use Rattle.cli_file.specs.declared.fault.ActionFault.TheVariants as fault

-- the place, or what waits there, failed; or memory was refused
abbrev pub IsOfCounter : ActionFault → Type 0
IsOfCounter fault.Broken = ⊤
IsOfCounter fault.Memory = ⊤
IsOfCounter _ = ⊥

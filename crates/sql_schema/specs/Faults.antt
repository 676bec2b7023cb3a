-- Which fault an error of the database is: memory and size are distinguished, and any other cause is the disk.
use Rattle.std.specs.Prelude.{◌≡◌}
use Rattle.sqlite.specs.declared.error.Error.{Error}
use Rattle.sqlite.specs.declared.error.Error.TheVariants.{SqliteFailure}
use Rattle.sqlite.specs.declared.error.ErrorCode.TheVariants as code
use Rattle.money.specs.declared.fault.Fault.{Fault}
use Rattle.money.specs.declared.fault.Fault.TheVariants.{Memory, Size, Disk}

abbrev pub fault_named : Error → Fault
fault_named (SqliteFailure code.OutOfMemory) = Memory
fault_named (SqliteFailure code.TooBig) = Size
fault_named _ = Disk

-- a fault names an error of which this holds
abbrev pub IsNameOf : (Error → Type 0) → Fault → Type 0
IsNameOf ReadBack fault = (e : Error) × ReadBack e × (fault ≡ fault_named e)

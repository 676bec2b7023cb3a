-- Why a query for a whole table was refused: memory, a size, the disk and a limit on steps are reported, and any other
-- cause is that the table is not there as it was asked for.
use Rattle.std.specs.Prelude.{⊤}
use Rattle.sql_schema.specs.Faults.{fault_named}
use Rattle.sqlite.specs.declared.error.Error.{Error}
use Rattle.sqlite.specs.declared.error.Error.TheVariants.{SqliteFailure}
use Rattle.sqlite.specs.declared.error.ErrorCode.TheVariants as code
use Rattle.sql_whole.specs.declared.fault.ReadFault.{ReadFault}
use Rattle.sql_whole.specs.declared.fault.ReadFault.TheVariants.{Fault, Missing}
use Rattle.sql_whole.specs.declared.fault.Table.{Table}

abbrev pub read_fault_named : Error → Table → ReadFault
read_fault_named (SqliteFailure code.OutOfMemory) table = Fault (fault_named (SqliteFailure code.OutOfMemory))
read_fault_named (SqliteFailure code.TooBig) table = Fault (fault_named (SqliteFailure code.TooBig))
read_fault_named (SqliteFailure code.SystemIoFailure) table = Fault (fault_named (SqliteFailure code.SystemIoFailure))
read_fault_named (SqliteFailure code.DatabaseCorrupt) table = Fault (fault_named (SqliteFailure code.DatabaseCorrupt))
read_fault_named (SqliteFailure code.NotADatabase) table = Fault (fault_named (SqliteFailure code.NotADatabase))
read_fault_named (SqliteFailure code.DiskFull) table = Fault (fault_named (SqliteFailure code.DiskFull))
read_fault_named (SqliteFailure code.Closed) table = Fault (fault_named (SqliteFailure code.Closed))
read_fault_named (SqliteFailure code.OperationInterrupted) table = Fault (fault_named (SqliteFailure code.OperationInterrupted))
read_fault_named _ table = Missing table

-- the database failed, which says nothing of its tables
abbrev pub IsOfDatabase : ReadFault → Type 0
IsOfDatabase (Fault fault) = ⊤
IsOfDatabase _ = ⊥

-- the error is one of the database, whichever table was asked
abbrev pub IsErrorOfDatabase : Error → Type 0
IsErrorOfDatabase e = (table : Table) → IsOfDatabase (read_fault_named e table)

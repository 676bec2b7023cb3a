-- What a row of an answer says of the row of a table that it shows, and what a call of the database returns.
use Rattle.std.specs.Prelude.{ℕ, zero, suc, ◌⊎◌, List, [], ◌∷◌, Result, Ok, Err}
use Rattle.money.specs.declared.fault.Fault.{Fault}
use Rattle.sqlite.specs.State.{ExecutesInside, FailsToQuery, IsTooLate, State}
use Rattle.sqlite.specs.declared.error.Error.{Error}
use Rattle.sqlite.specs.declared.types.Value.TheVariants.{Null}
use Rattle.sqlite.specs.Order.{Row}
use Rattle.sqlite_value.specs.Order.{column}
use Rattle.sql_schema.specs.Faults.{IsNameOf}

-- n columns, from this one on
abbrev pub columns_from : ℕ → ℕ → Row → Row
columns_from at zero row = []
columns_from at (suc count) row = column row at ∷ columns_from (suc at) count row

-- Of a table whose rowid is its key: the key, NULL in its own column, and n more columns.
abbrev pub stored_by_rowid : ℕ → Row → Row
stored_by_rowid more row = column row 0 ∷ Null ∷ columns_from 1 more row

-- of any other table: n columns
abbrev pub stored_by_columns : ℕ → Row → Row
stored_by_columns count row = columns_from 0 count row

-- why a query shows nothing
abbrev pub Refuses : List ℕ → Row → State → State → Error → Type 0
Refuses sql params old new e = FailsToQuery sql params old new e ⊎ IsTooLate sql params old new e

-- a statement wrote n rows, or the fault is the name of its error
abbrev pub Runs : List ℕ → Row → State → State → Result ℕ Fault → Type 0
Runs sql params old new (Ok count) = ExecutesInside 0 sql params old new (Ok count)
Runs sql params old new (Err fault) = IsNameOf (λ e. ExecutesInside 0 sql params old new (Err e)) fault

-- The row of the bank, whatever numbers it bears.
use Rattle.std.specs.Prelude.{◌≡◌, ◌≢◌, [], ◌∷◌, List, map, Option, None, Some}
use Rattle.sqlite.specs.declared.types.Value.TheVariants.{Int, Null}
use Rattle.sqlite.specs.Order.{Row}
use Rattle.sqlite.specs.Tree.{Trees}
use Rattle.sql_schema.specs.ReadBack.{stored_by_rowid}
use Rattle.sql_whole.specs.declared.bank.BankRow.{BankRow}

abbrev pub bank_row_cells : BankRow → Row
bank_row_cells b = Int b.id ∷ Null ∷ Int b.version ∷ Int b.policy ∷ []

-- the table of the bank has this one row, or it has not one row of whole numbers
abbrev pub IsBankTable : Trees → Option BankRow → Type 0
IsBankTable db (Some b) = db 0 ≡ bank_row_cells b ∷ []
IsBankTable db None = (b : BankRow) → db 0 ≢ bank_row_cells b ∷ []

-- the same of the rows that the rows of an answer represent
abbrev pub IsReadFrom : List Row → Option BankRow → Type 0
IsReadFrom rows (Some b) = map (stored_by_rowid 2) rows ≡ bank_row_cells b ∷ []
IsReadFrom rows None = (b : BankRow) → map (stored_by_rowid 2) rows ≢ bank_row_cells b ∷ []

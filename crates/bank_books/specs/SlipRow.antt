-- A slip as plain data.
use Rattle.std.specs.Prelude.{ℕ, List}
use Rattle.bank_terms.specs.declared.operation_row.OperationRow.{OperationRow}

-- a slip that was taken: whose it is and its number, the operation that it was taken with, and the bytes of what was replied
pub record SlipRow : Type 0 where
  pub user : ℕ
  pub number : ℕ
  pub operation : OperationRow
  pub reply : List ℕ

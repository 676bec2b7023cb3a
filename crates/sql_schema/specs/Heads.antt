-- The columns of a branch's row that hold its row of the books, as an answer shows them: the first four.
use Rattle.std.specs.Prelude.{pos, [], ◌∷◌}
use Rattle.money.specs.Range.{IsCents}
use Rattle.sqlite.specs.declared.types.Value.TheVariants.{Int}
use Rattle.sqlite.specs.Order.{Row}
use Rattle.bank_books.specs.declared.rows.Branch.{Branch}
use Rattle.sql_schema.specs.Readable.{IsShort}

abbrev pub branch_head : Branch → Row
branch_head b = Int (pos b.branch) ∷ Int b.opening ∷ Int b.cash ∷ Int (pos b.day) ∷ []

pub record IsReadableHead (b : Branch) : Type 0 where
  pub branch : IsShort b.branch
  pub opening : IsCents b.opening
  pub cash : IsCents b.cash
  pub day : IsShort b.day

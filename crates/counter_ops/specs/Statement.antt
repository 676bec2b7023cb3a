-- A statement: the ranges of its members, and its numbers in the order in which its form names them.
use Rattle.std.specs.Prelude.{ℤ, pos, List, [], ◌∷◌}
use Rattle.bank_terms.specs.Limits.{max_listed}
use Rattle.counter_ops.specs.declared.statement.Statement.{Statement}
use Rattle.row_members.specs.Ranges.{IsWithin, IsKey}

pub record IsStatement (statement : Statement) : Type 0 where
  pub account : IsKey statement.account
  pub start : IsKey statement.start
  pub count : IsWithin 1 max_listed statement.count

abbrev pub statement_numbers : Statement → List ℤ
statement_numbers statement = pos statement.account ∷ pos statement.start ∷ pos statement.count ∷ []

-- A move of cash: the ranges of its members, and its numbers in the order in which its form names them.
use Rattle.std.specs.Prelude.{◌≢◌, ℤ, pos, List, [], ◌∷◌}
use Rattle.bank_terms.specs.Limits.{max_limit}
use Rattle.counter_ops.specs.declared.move_cash.MoveCash.{MoveCash}
use Rattle.row_members.specs.Ranges.{IsWithin, IsKey, IsKeyOrZero}

pub record IsMoveCash (move_cash : MoveCash) : Type 0 where
  pub source : IsKeyOrZero move_cash.source
  pub target : IsKeyOrZero move_cash.target
  pub branch : IsKey move_cash.branch
  pub amount : IsWithin 1 max_limit move_cash.amount
  pub two_places : move_cash.source ≢ move_cash.target

abbrev pub move_cash_numbers : MoveCash → List ℤ
move_cash_numbers move_cash =
    pos move_cash.source ∷ pos move_cash.target ∷ pos move_cash.branch ∷ pos move_cash.amount ∷ []

-- A listing of accounts: the ranges of its members, and its numbers in the order in which its form names them.
use Rattle.std.specs.Prelude.{ℤ, pos, List, [], ◌∷◌}
use Rattle.bank_terms.specs.Limits.{max_listed}
use Rattle.counter_ops.specs.declared.accounts.Accounts.{Accounts}
use Rattle.row_members.specs.Ranges.{IsWithin, IsKeyOrZero}

pub record IsAccounts (accounts : Accounts) : Type 0 where
  pub after : IsKeyOrZero accounts.after
  pub count : IsWithin 1 max_listed accounts.count

abbrev pub accounts_numbers : Accounts → List ℤ
accounts_numbers accounts = pos accounts.after ∷ pos accounts.count ∷ []

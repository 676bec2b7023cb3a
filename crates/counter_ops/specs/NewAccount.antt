-- A new account: the ranges of its members, and its numbers in the order in which its form names them.
use Rattle.std.specs.Prelude.{ℤ, pos, List, [], ◌∷◌}
use Rattle.counter_ops.specs.declared.new_account.NewAccount.{NewAccount}
use Rattle.row_members.specs.Ranges.{IsKey, IsFloor}

pub record IsNewAccount (new_account : NewAccount) : Type 0 where
  pub account : IsKey new_account.account
  pub branch : IsKey new_account.branch
  pub floor : IsFloor new_account.floor

abbrev pub new_account_numbers : NewAccount → List ℤ
new_account_numbers new_account = pos new_account.account ∷ pos new_account.branch ∷ new_account.floor ∷ []

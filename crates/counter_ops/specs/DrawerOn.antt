-- A drawer put on: the ranges of its members, and its numbers in the order in which its form names them.
use Rattle.std.specs.Prelude.{ℤ, pos, List, [], ◌∷◌}
use Rattle.bank_terms.specs.Limits.{max_limit}
use Rattle.counter_ops.specs.declared.drawer_on.DrawerOn.{DrawerOn}
use Rattle.row_members.specs.Ranges.{IsWithin, IsKey}

pub record IsDrawerOn (drawer_on : DrawerOn) : Type 0 where
  pub teller : IsKey drawer_on.teller
  pub branch : IsKey drawer_on.branch
  pub cash : IsWithin 0 max_limit drawer_on.cash

abbrev pub drawer_on_numbers : DrawerOn → List ℤ
drawer_on_numbers drawer_on = pos drawer_on.teller ∷ pos drawer_on.branch ∷ pos drawer_on.cash ∷ []

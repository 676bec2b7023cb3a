-- A drawer put off: the ranges of its members, and its numbers in the order in which its form names them.
use Rattle.std.specs.Prelude.{ℤ, pos, List, [], ◌∷◌}
use Rattle.counter_ops.specs.declared.drawer_off.DrawerOff.{DrawerOff}
use Rattle.row_members.specs.Ranges.{IsKey, IsCash}

pub record IsDrawerOff (drawer_off : DrawerOff) : Type 0 where
  pub teller : IsKey drawer_off.teller
  pub branch : IsKey drawer_off.branch
  pub counted : IsCash drawer_off.counted

abbrev pub drawer_off_numbers : DrawerOff → List ℤ
drawer_off_numbers drawer_off = pos drawer_off.teller ∷ pos drawer_off.branch ∷ drawer_off.counted ∷ []

-- When a triple is in effect.
use Rattle.std.specs.Prelude.{ℕ, ◌≤◌}
use Rattle.bank_policy.specs.declared.rows.Triple.{Triple}

-- the moment lies between the first and the last of the triple, both with it
pub record IsCurrent (row : Triple) (moment : ℕ) : Type 0 where
  pub begun : row.first ≤ moment
  pub lasting : moment ≤ row.last

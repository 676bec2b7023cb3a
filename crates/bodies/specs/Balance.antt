-- The balance that a value states: an object with exactly these members, each in its range. Any other value states none.
use Rattle.std.specs.Prelude.{Option, Some, None, codes, if◌then◌else◌}
use Rattle.serde_json.specs.Data.{Data}
use Rattle.counter_ops.specs.declared.balance.Balance.{Balance}
use Rattle.bodies.specs.Body.{◌>>=◌, has_members, key_member}

-- the balance of an account
abbrev pub balance_of : Data → Option Balance
balance_of value = if has_members 1 value then (do
  account ← key_member (codes "account") value
  Some (record { account = account })) else None

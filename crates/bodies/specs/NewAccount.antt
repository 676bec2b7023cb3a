-- The new account that a value states: an object with exactly these members, each in its range. Any other value states none.
use Rattle.std.specs.Prelude.{pos, Option, Some, None, codes, if◌then◌else◌}
use Rattle.bank_terms.specs.Limits.{min_floor}
use Rattle.serde_json.specs.Data.{Data}
use Rattle.counter_ops.specs.declared.new_account.NewAccount.{NewAccount}
use Rattle.bodies.specs.Body.{◌>>=◌, has_members, number_member, key_member}

-- a new account with its floor
abbrev pub new_account_of : Data → Option NewAccount
new_account_of value = if has_members 3 value then (do
  account ← key_member (codes "account") value
  branch ← key_member (codes "branch") value
  floor ← number_member (codes "floor") min_floor (pos 0) value
  Some (record { account = account; branch = branch; floor = floor })) else None

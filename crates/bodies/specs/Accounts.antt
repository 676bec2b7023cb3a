-- The listing of accounts that a value states: an object with exactly these members, each in its range. Any other value states none.
use Rattle.std.specs.Prelude.{Option, Some, None, codes, if◌then◌else◌}
use Rattle.bank_terms.specs.Limits.{max_key, max_listed}
use Rattle.serde_json.specs.Data.{Data}
use Rattle.counter_ops.specs.declared.accounts.Accounts.{Accounts}
use Rattle.bodies.specs.Body.{◌>>=◌, has_members, natural_member}

-- the accounts above a key
abbrev pub accounts_of : Data → Option Accounts
accounts_of value = if has_members 2 value then (do
  after ← natural_member (codes "after") 0 max_key value
  count ← natural_member (codes "count") 1 max_listed value
  Some (record { after = after; count = count })) else None

-- The statement that a value states: an object with exactly these members, each in its range. Any other value states none.
use Rattle.std.specs.Prelude.{Option, Some, None, codes, if◌then◌else◌}
use Rattle.bank_terms.specs.Limits.{max_listed}
use Rattle.serde_json.specs.Data.{Data}
use Rattle.counter_ops.specs.declared.statement.Statement.{Statement}
use Rattle.bodies.specs.Body.{◌>>=◌, has_members, natural_member, key_member}

-- the entries of an account from a turn on
abbrev pub statement_of : Data → Option Statement
statement_of value = if has_members 3 value then (do
  account ← key_member (codes "account") value
  start ← key_member (codes "start") value
  count ← natural_member (codes "count") 1 max_listed value
  Some (record { account = account; start = start; count = count })) else None

-- The move of cash that a value states: an object with exactly these members, each in its range. Any other value states none.
-- It has `extra` members beside them: 1 inside a release, where it names its procedure too, and else 0.
use Rattle.std.specs.Prelude.{ℕ, ◌==◌, ◌+◌, Option, Some, None, codes, if◌then◌else◌}
use Rattle.bank_terms.specs.Limits.{max_key, max_limit}
use Rattle.serde_json.specs.Data.{Data}
use Rattle.counter_ops.specs.declared.move_cash.MoveCash.{MoveCash}
use Rattle.bodies.specs.Body.{◌>>=◌, has_members, natural_member, key_member}

-- cash from one drawer to another, where 0 is the vault
abbrev pub move_cash_of : ℕ → Data → Option MoveCash
move_cash_of extra value = if has_members (4 + extra) value then (do
  source ← natural_member (codes "source") 0 max_key value
  target ← natural_member (codes "target") 0 max_key value
  branch ← key_member (codes "branch") value
  amount ← natural_member (codes "amount") 1 max_limit value
  if source == target then None else
      Some (record { source = source; target = target; branch = branch; amount = amount })) else None

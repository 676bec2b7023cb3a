-- The correction that a value states: an object with exactly these members, each in its range. Any other value states none.
-- It has `extra` members beside them: 1 inside a release, where it names its procedure too, and else 0.
use Rattle.std.specs.Prelude.{ℕ, ◌==◌, ◌+◌, Option, Some, None, codes, if◌then◌else◌}
use Rattle.bank_terms.specs.Limits.{max_key}
use Rattle.serde_json.specs.Data.{Data}
use Rattle.counter_ops.specs.declared.correct.Correct.{Correct}
use Rattle.bodies.specs.Body.{◌>>=◌, has_members, natural_member, key_member, delta_member}

-- an entry undone; `other` is the account of a transfer's other leg, or 0
abbrev pub correct_of : ℕ → Data → Option Correct
correct_of extra value = if has_members (6 + extra) value then (do
  branch ← key_member (codes "branch") value
  entry ← key_member (codes "entry") value
  account ← key_member (codes "account") value
  other ← natural_member (codes "other") 0 max_key value
  teller ← key_member (codes "teller") value
  delta ← delta_member (codes "delta") value
  if account == other then None else
      Some (record { branch = branch; entry = entry; account = account; other = other; teller = teller; delta = delta })) else None

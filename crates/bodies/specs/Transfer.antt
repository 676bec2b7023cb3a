-- The transfer that a value states: an object with exactly these members, each in its range. Any other value states none.
-- It has `extra` members beside them: 1 inside a release, where it names its procedure too, and else 0.
use Rattle.std.specs.Prelude.{ℕ, ◌==◌, ◌+◌, Option, Some, None, codes, if◌then◌else◌}
use Rattle.bank_terms.specs.Limits.{max_transfer}
use Rattle.serde_json.specs.Data.{Data}
use Rattle.counter_ops.specs.declared.transfer.Transfer.{Transfer}
use Rattle.bodies.specs.Body.{◌>>=◌, has_members, natural_member, key_member}

-- an amount from one account to another
abbrev pub transfer_of : ℕ → Data → Option Transfer
transfer_of extra value = if has_members (5 + extra) value then (do
  source ← key_member (codes "source") value
  target ← key_member (codes "target") value
  teller ← key_member (codes "teller") value
  branch ← key_member (codes "branch") value
  amount ← natural_member (codes "amount") 1 max_transfer value
  if source == target then None else
      Some (record { source = source; target = target; teller = teller; branch = branch; amount = amount })) else None

-- The drawer put on that a value states: an object with exactly these members, each in its range. Any other value states none.
-- It has `extra` members beside them: 1 inside a release, where it names its procedure too, and else 0.
use Rattle.std.specs.Prelude.{ℕ, ◌+◌, Option, Some, None, codes, if◌then◌else◌}
use Rattle.bank_terms.specs.Limits.{max_limit}
use Rattle.serde_json.specs.Data.{Data}
use Rattle.counter_ops.specs.declared.drawer_on.DrawerOn.{DrawerOn}
use Rattle.bodies.specs.Body.{◌>>=◌, has_members, natural_member, key_member}

-- a drawer given to the user, with cash from the vault
abbrev pub drawer_on_of : ℕ → Data → Option DrawerOn
drawer_on_of extra value = if has_members (3 + extra) value then (do
  teller ← key_member (codes "teller") value
  branch ← key_member (codes "branch") value
  cash ← natural_member (codes "cash") 0 max_limit value
  Some (record { teller = teller; branch = branch; cash = cash })) else None

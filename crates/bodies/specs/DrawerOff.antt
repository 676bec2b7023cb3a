-- The drawer put off that a value states: an object with exactly these members, each in its range. Any other value states none.
use Rattle.std.specs.Prelude.{pos, Option, Some, None, codes, if◌then◌else◌}
use Rattle.money.specs.Range.{max_cents}
use Rattle.serde_json.specs.Data.{Data}
use Rattle.counter_ops.specs.declared.drawer_off.DrawerOff.{DrawerOff}
use Rattle.bodies.specs.Body.{◌>>=◌, has_members, number_member, key_member}

-- a drawer's counted cash, back to the vault
abbrev pub drawer_off_of : Data → Option DrawerOff
drawer_off_of value = if has_members 3 value then (do
  teller ← key_member (codes "teller") value
  branch ← key_member (codes "branch") value
  counted ← number_member (codes "counted") (pos 0) max_cents value
  Some (record { teller = teller; branch = branch; counted = counted })) else None

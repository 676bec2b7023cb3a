-- The set of items that a value states: an object with exactly these members, each in its range. Any other value states none.
use Rattle.std.specs.Prelude.{◌&&◌, Bool, Option, Some, None, option_and_then, codes, if◌then◌else◌, nat_le}
use Rattle.serde_json.specs.Data.{Data, Items}
use Rattle.serde_json.specs.Events.{items_len}
use Rattle.serde_json.specs.Find.{get, as_array}
use Rattle.bank_policy.specs.SetRow.{SetRow}
use Rattle.bodies.specs.Body.{◌>>=◌, has_members, key_member}
use Rattle.bodies.specs.Member.{members_of}

-- as many as a set may have
abbrev pub has_set_length : Items → Bool
has_set_length items = nat_le 1 (items_len items) && nat_le (items_len items) 32

-- a set to define
abbrev pub item_set_of : Data → Option SetRow
item_set_of value = if has_members 2 value then (do
  set ← key_member (codes "set") value
  items ← option_and_then as_array (get (codes "members") value)
  members ← if has_set_length items then members_of items else None
  Some (record { set = set; members = members })) else None

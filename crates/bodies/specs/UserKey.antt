-- The user that a value names: an object with exactly this member, in its range. Any other value names none.
use Rattle.std.specs.Prelude.{Option, Some, None, if◌then◌else◌}
use Rattle.serde_json.specs.Data.{Data}
use Rattle.policy_commands.specs.declared.policy_op.UserKey.{UserKey}
use Rattle.bodies.specs.Body.{◌>>=◌, has_members}
use Rattle.bodies.specs.Named.{user_member}

-- a user to suspend, or to let ask again
abbrev pub user_key_of : Data → Option UserKey
user_key_of value = if has_members 1 value then (do
  user ← user_member value
  Some (record { user = user })) else None

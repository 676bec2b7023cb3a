-- The triple that a value names: an object with exactly these members, each in its range. Any other value names none.
use Rattle.std.specs.Prelude.{Option, Some, None, codes, if◌then◌else◌}
use Rattle.serde_json.specs.Data.{Data}
use Rattle.bank_policy.specs.declared.policy_write.TripleKey.{TripleKey}
use Rattle.bodies.specs.Body.{◌>>=◌, has_members, key_member}
use Rattle.bodies.specs.Named.{procedure_member, user_member}

-- a triple to take away
abbrev pub triple_key_of : Data → Option TripleKey
triple_key_of value = if has_members 3 value then (do
  user ← user_member value
  procedure ← procedure_member value
  set ← key_member (codes "set") value
  Some (record { user = user; procedure = procedure; set = set })) else None

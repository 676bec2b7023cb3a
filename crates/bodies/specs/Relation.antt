-- The relation that a value states: an object with exactly these members, each in its range. Any other value states none.
use Rattle.std.specs.Prelude.{Option, Some, None, codes, if◌then◌else◌}
use Rattle.serde_json.specs.Data.{Data}
use Rattle.bank_policy.specs.declared.policy_write.RelationKey.{RelationKey}
use Rattle.bodies.specs.Body.{◌>>=◌, has_members, key_member}
use Rattle.bodies.specs.Named.{procedure_member}

-- a relation to certify, or to take away
abbrev pub relation_of : Data → Option RelationKey
relation_of value = if has_members 2 value then (do
  procedure ← procedure_member value
  set ← key_member (codes "set") value
  Some (record { procedure = procedure; set = set })) else None

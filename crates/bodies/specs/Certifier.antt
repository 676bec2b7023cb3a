-- The certifier that a value states: an object with exactly these members, each in its range. Any other value states none.
use Rattle.std.specs.Prelude.{Option, Some, None, if◌then◌else◌}
use Rattle.serde_json.specs.Data.{Data}
use Rattle.bank_policy.specs.declared.rows.Certifier.{Certifier}
use Rattle.bodies.specs.Body.{◌>>=◌, has_members}
use Rattle.bodies.specs.Named.{procedure_member, user_member}

-- a certifier to name, or to dismiss
abbrev pub certifier_of : Data → Option Certifier
certifier_of value = if has_members 2 value then (do
  user ← user_member value
  procedure ← procedure_member value
  Some (record { user = user; procedure = procedure })) else None

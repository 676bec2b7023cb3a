-- The enrolment that a value states: an object with exactly these members, each in its range. Any other value states none.
use Rattle.std.specs.Prelude.{ℕ, List, length, Bool, ◌&&◌, nat_le, Option, Some, None, option_and_then, codes, if◌then◌else◌}
use Rattle.std.specs.List.{list_all}
use Rattle.serde_json.specs.Data.{Data}
use Rattle.serde_json.specs.Find.{get, as_bool, as_str}
use Rattle.policy_commands.specs.declared.policy_op.Enrolment.{Enrolment}
use Rattle.bodies.specs.Body.{◌>>=◌, has_members}
use Rattle.bodies.specs.Named.{user_member}

-- printable ASCII, from the space (32) to the tilde (126)
abbrev pub is_printable : List ℕ → Bool
is_printable text = list_all (λ byte. nat_le 32 byte && nat_le byte 126) text

-- 1 to 20 bytes of it
abbrev pub is_name : List ℕ → Bool
is_name text = nat_le 1 (length text) && nat_le (length text) 20 && is_printable text

-- the text, where it may be a user's name
abbrev pub name_of : List ℕ → Option (List ℕ)
name_of text = if is_name text then Some text else None

-- a user to take in
abbrev pub enrolment_of : Data → Option Enrolment
enrolment_of value = if has_members 3 value then (do
  user ← user_member value
  name ← option_and_then name_of (option_and_then as_str (get (codes "name") value))
  officer ← option_and_then as_bool (get (codes "officer") value)
  Some (record { user = user; name = name; officer = officer })) else None

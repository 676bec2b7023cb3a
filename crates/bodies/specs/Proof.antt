-- The proof that a value states: an object with exactly these members, each in its range. Any other value states none.
use Rattle.std.specs.Prelude.{Option, Some, None, codes, if◌then◌else◌}
use Rattle.serde_json.specs.Data.{Data}
use Rattle.counter_ops.specs.declared.proof.Proof.{Proof}
use Rattle.bodies.specs.Body.{◌>>=◌, has_members, key_member}

-- the books of a branch
abbrev pub proof_of : Data → Option Proof
proof_of value = if has_members 1 value then (do
  branch ← key_member (codes "branch") value
  Some (record { branch = branch })) else None

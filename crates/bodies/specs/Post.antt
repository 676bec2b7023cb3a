-- The post that a value states: an object with exactly these members, each in its range. Any other value states none.
-- It has `extra` members beside them: 1 inside a release, where it names its procedure too, and else 0.
use Rattle.std.specs.Prelude.{ℕ, ◌+◌, Option, Some, None, codes, if◌then◌else◌}
use Rattle.serde_json.specs.Data.{Data}
use Rattle.counter_ops.specs.declared.post.Post.{Post}
use Rattle.bodies.specs.Body.{◌>>=◌, has_members, key_member, delta_member}

-- the debit-credit transaction: what is added to an account at a teller
abbrev pub post_of : ℕ → Data → Option Post
post_of extra value = if has_members (4 + extra) value then (do
  account ← key_member (codes "account") value
  branch ← key_member (codes "branch") value
  delta ← delta_member (codes "delta") value
  teller ← key_member (codes "teller") value
  Some (record { account = account; branch = branch; delta = delta; teller = teller })) else None

-- The triple that a value states: an object with exactly these members, each in its range. Any other value states none.
use Rattle.std.specs.Prelude.{ℕ, nat_le, Option, Some, None, codes, if◌then◌else◌}
use Rattle.bank_terms.specs.Limits.{max_limit, max_moment}
use Rattle.serde_json.specs.Data.{Data}
use Rattle.bank_policy.specs.declared.rows.Triple.{Triple}
use Rattle.bodies.specs.Body.{◌>>=◌, has_members, key_member, natural_member}
use Rattle.bodies.specs.Named.{procedure_member, user_member}

-- from this moment to that
abbrev pub triple_during : ℕ → ℕ → Data → Option Triple
triple_during first last value = do
  user ← user_member value
  procedure ← procedure_member value
  set ← key_member (codes "set") value
  limit ← natural_member (codes "limit") 0 max_limit value
  Some (record { user = user; procedure = procedure; set = set; limit = limit; first = first; last = last })

-- from the moment that it states to the other, which is none before that
abbrev pub timed_triple : Data → Option Triple
timed_triple value = do
  first ← natural_member (codes "first") 0 max_moment value
  last ← natural_member (codes "last") 0 max_moment value
  if nat_le first last then triple_during first last value else None

-- A triple to give. One that states no moments is valid at all of them.
abbrev pub triple_of : Data → Option Triple
triple_of value = if has_members 4 value then triple_during 0 max_moment value else (if has_members 6 value then timed_triple value else None)

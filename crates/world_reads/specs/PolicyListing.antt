-- The lines of the policy, in the order in which they are listed.
use Rattle.std.specs.Prelude.{ℕ, ◌+◌, ◌*◌, ◌^◌, ◌==◌, ◌&&◌, ◌||◌, Bool, true, nat_lt, List, ◌++◌, map, Option, Some, None}
use Rattle.std.specs.List.{enumerate_from, find, flat_map}
use Rattle.bank_policy.specs.Policy.{PolicyLists}
use Rattle.bank_policy.specs.PolicyKeys.{certifier_number, relation_number, triple_number}
use Rattle.bank_policy.specs.SetRow.{SetRow}
use Rattle.bank_policy.specs.declared.rows.Member.{Member}
use Rattle.bank_books.specs.WorldLists.{WorldLists}
use Rattle.world_reads.specs.declared.policy_row.PolicyKey.{PolicyKey}
use Rattle.world_reads.specs.declared.policy_row.PolicyKey.TheVariants as key
use Rattle.world_reads.specs.declared.policy_row.PolicyRow.{PolicyRow}
use Rattle.world_reads.specs.declared.policy_row.PolicyRow.TheVariants as row
use Rattle.world_reads.specs.declared.policy_row.SetMember.{SetMember}

-- a member of a set at its place, from 1
abbrev pub placed_member : ℕ → ℕ × Member → SetMember
placed_member set placed = record { set = set; place = placed.0; member = placed.1 }

-- the members of a set, by place
abbrev pub set_members : SetRow → List SetMember
set_members s = map (placed_member s.set) (enumerate_from 1 s.members)

-- certifiers by user and procedure, members by set and place, relations by procedure and set, and triples by user,
-- procedure and set: the orders of the policy's lists
abbrev pub lines_after_users : PolicyLists → List PolicyRow
lines_after_users p =
    map row.Certifier p.certifiers
    ++ (map row.Member (flat_map set_members p.sets)
    ++ (map row.Relation p.relations
    ++ map row.Triple p.triples))

-- all lines of the policy, the users first, by number
abbrev pub policy_rows : WorldLists → List PolicyRow
policy_rows w = map row.User w.policy.users ++ lines_after_users w.policy

-- the key of a line: its kind and its key columns
abbrev pub key_of : PolicyRow → PolicyKey
key_of (row.User u) = key.User u.user
key_of (row.Certifier c) = key.Certifier c.user c.procedure
key_of (row.Member m) = key.Member m.set m.place
key_of (row.Relation r) = key.Relation r.procedure r.set
key_of (row.Triple t) = key.Triple t.user t.procedure t.set

-- the kinds of lines in the order in which they are listed
abbrev pub kind_of : PolicyKey → ℕ
kind_of (key.User user) = 1
kind_of (key.Certifier user procedure) = 2
kind_of (key.Member set place) = 3
kind_of (key.Relation procedure set) = 4
kind_of (key.Triple user procedure set) = 5

-- the key columns as one number, which orders the lines of one kind
abbrev pub columns_of : PolicyKey → ℕ
columns_of (key.User user) = user
columns_of (key.Certifier user procedure) = certifier_number user procedure
columns_of (key.Member set place) = 2 ^ 64 * set + place
columns_of (key.Relation procedure set) = relation_number procedure set
columns_of (key.Triple user procedure set) = triple_number user procedure set

-- one key is listed before another
abbrev pub is_before : PolicyKey → PolicyKey → Bool
is_before a b = nat_lt (kind_of a) (kind_of b) || (kind_of a == kind_of b && nat_lt (columns_of a) (columns_of b))

-- a key is listed after another, or there is no other
abbrev pub is_after : Option PolicyKey → PolicyKey → Bool
is_after None k = true
is_after (Some other) k = is_before other k

abbrev pub is_row_after : Option PolicyKey → PolicyRow → Bool
is_row_after after r = is_after after (key_of r)

abbrev pub is_member_after : Option PolicyKey → SetMember → Bool
is_member_after after m = is_after after (key.Member m.set m.place)

-- the line of the policy after a key, or the first
abbrev pub next_policy : WorldLists → Option PolicyKey → Option PolicyRow
next_policy w after = find (is_row_after after) (policy_rows w)

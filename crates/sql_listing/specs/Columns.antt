-- The order of a table's rows by the columns of their key, and parts of a table in that order.
use Rattle.std.specs.Prelude.{ℕ, ℤ, pos, negsuc, ◌-◌, ◌^◌, ◌<◌, ◌==◌, ◌&&◌, ◌||◌, min, ⊤, Bool, true, nat_lt, List, take, slice_get, Option, Some, None}
use Rattle.bank_terms.specs.Procedure.{number_of}
use Rattle.world_reads.specs.declared.policy_row.PolicyKey.{PolicyKey}
use Rattle.world_reads.specs.declared.policy_row.PolicyKey.TheVariants as key
use Rattle.world_reads.specs.declared.policy_row.PolicyRow.{PolicyRow}
use Rattle.world_reads.specs.declared.policy_row.PolicyRow.TheVariants as row
use Rattle.sql_listing.specs.declared.columns.Columns.{Columns}
use Rattle.sql_listing.specs.declared.kinds.LineKind.{LineKind}
use Rattle.sql_listing.specs.declared.kinds.LineKind.TheVariants as kind
use Rattle.sql_listing.specs.declared.parts.Part.{Part}

-- ---- keys

abbrev pub key_kind : PolicyKey → LineKind
key_kind (key.User user) = kind.User
key_kind (key.Certifier user procedure) = kind.Certifier
key_kind (key.Member set place) = kind.Member
key_kind (key.Relation procedure set) = kind.Relation
key_kind (key.Triple user procedure set) = kind.Triple

abbrev pub key_columns : PolicyKey → Columns
key_columns (key.User user) = record { first = user; second = 0; third = 0 }
key_columns (key.Certifier user procedure) = record { first = user; second = number_of procedure; third = 0 }
key_columns (key.Member set place) = record { first = set; second = min place (2 ^ 32 - 1); third = 0 }
key_columns (key.Relation procedure set) = record { first = number_of procedure; second = set; third = 0 }
key_columns (key.Triple user procedure set) = record { first = user; second = number_of procedure; third = set }

-- numbers of 32 bits, and places of 64
abbrev pub FitsKey : PolicyKey → Type 0
FitsKey (key.User user) = ⊤
FitsKey (key.Certifier user procedure) = ⊤
FitsKey (key.Member set place) = place < 2 ^ 64
FitsKey (key.Relation procedure set) = set < 2 ^ 32
FitsKey (key.Triple user procedure set) = set < 2 ^ 32

-- ---- the order

abbrev pub line_columns : PolicyRow → Columns
line_columns (row.User u) = record { first = u.user; second = 0; third = 0 }
line_columns (row.Certifier c) = record { first = c.user; second = number_of c.procedure; third = 0 }
line_columns (row.Member m) = record { first = m.set; second = m.place; third = 0 }
line_columns (row.Relation r) = record { first = number_of r.procedure; second = r.set; third = 0 }
line_columns (row.Triple t) = record { first = t.user; second = number_of t.procedure; third = t.set }

-- by the first column, then by the second, and then by the third
abbrev pub is_less : Columns → Columns → Bool
is_less a b = nat_lt a.first b.first || (a.first == b.first && (nat_lt a.second b.second || (a.second == b.second && nat_lt a.third b.third)))

-- after these columns, or after none
abbrev pub are_past : Option Columns → Columns → Bool
are_past None there = true
are_past (Some columns) there = is_less columns there

abbrev pub is_past : Option Columns → PolicyRow → Bool
is_past after line = are_past after (line_columns line)

-- ---- parts

abbrev pub first_of : Option Columns → ℤ
first_of None = negsuc 0
first_of (Some columns) = pos columns.first

abbrev pub second_of : Option Columns → ℕ
second_of None = 0
second_of (Some columns) = columns.second

abbrev pub third_of : Option Columns → ℕ
third_of None = 0
third_of (Some columns) = columns.third

-- at most n rows after these columns
abbrev pub part_of : Option Columns → ℤ → Part
part_of after count = record { first = first_of after; second = second_of after; third = third_of after; count = count }

-- at most n, or all where the number is below 0
abbrev pub at_most : {X : Type 0} → ℤ → List X → List X
at_most (pos count) xs = take count xs
at_most (negsuc _) xs = xs

-- a line that was found, or else the first of others
abbrev pub or_first : Option PolicyRow → List PolicyRow → Option PolicyRow
or_first (Some line) others = Some line
or_first None others = slice_get others 0

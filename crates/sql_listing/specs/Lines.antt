-- The lines of the policy by kind, of the rows that the tables hold.
use Rattle.std.specs.Prelude.{List, [], ◌++◌, map, Option, Some, None}
use Rattle.sqlite.specs.Order.{Row}
use Rattle.bank_policy.specs.declared.rows.Certifier.{Certifier}
use Rattle.bank_policy.specs.declared.rows.Relation.{Relation}
use Rattle.bank_policy.specs.declared.rows.Triple.{Triple}
use Rattle.book_kept.specs.Sheets.{Sheets}
use Rattle.book_kept.specs.declared.records.KeptUser.{KeptUser}
use Rattle.book_kept.specs.declared.records.MemberRow.{MemberRow}
use Rattle.sql_schema.specs.Cells.{AnyRow, MemberFits, RelationFits, TripleFits, certifier_cells, member_cells, relation_cells, triple_cells}
use Rattle.sql_schema.specs.Shown.{shown_user}
use Rattle.world_reads.specs.declared.policy_row.PolicyRow.{PolicyRow}
use Rattle.world_reads.specs.declared.policy_row.PolicyRow.TheVariants as row
use Rattle.sql_listing.specs.declared.kinds.LineKind.{LineKind}
use Rattle.sql_listing.specs.declared.kinds.LineKind.TheVariants as kind

-- the kinds in the order in which they are listed
abbrev pub following : LineKind → Option LineKind
following kind.User = Some kind.Certifier
following kind.Certifier = Some kind.Member
following kind.Member = Some kind.Relation
following kind.Relation = Some kind.Triple
following kind.Triple = None

-- ---- the rows of a kind

abbrev pub RowOf : LineKind → Type 0
RowOf kind.User = KeptUser
RowOf kind.Certifier = Certifier
RowOf kind.Member = MemberRow
RowOf kind.Relation = Relation
RowOf kind.Triple = Triple

abbrev pub rows_of : Sheets → (k : LineKind) → List (RowOf k)
rows_of s kind.User = s.users
rows_of s kind.Certifier = s.certifiers
rows_of s kind.Member = s.members
rows_of s kind.Relation = s.relations
rows_of s kind.Triple = s.triples

-- their numbers are small enough for their keys
abbrev pub FitsOf : (k : LineKind) → RowOf k → Type 0
FitsOf kind.User u = AnyRow u
FitsOf kind.Certifier c = AnyRow c
FitsOf kind.Member m = MemberFits m
FitsOf kind.Relation r = RelationFits r
FitsOf kind.Triple t = TripleFits t

-- as queries show them
abbrev pub cells_of : (k : LineKind) → RowOf k → Row
cells_of kind.User u = shown_user u
cells_of kind.Certifier c = certifier_cells c
cells_of kind.Member m = member_cells m
cells_of kind.Relation r = relation_cells r
cells_of kind.Triple t = triple_cells t

-- as lines of the policy
abbrev pub line_of : (k : LineKind) → RowOf k → PolicyRow
line_of kind.User u = row.User u.row
line_of kind.Certifier c = row.Certifier c
line_of kind.Member m = row.Member (record { set = m.set; place = m.place; member = m.member })
line_of kind.Relation r = row.Relation r
line_of kind.Triple t = row.Triple t

-- ---- the listing

abbrev pub lines_in : Sheets → LineKind → List PolicyRow
lines_in s k = map (line_of k) (rows_of s k)

-- the lines of the kinds after one
abbrev pub lines_after : Sheets → LineKind → List PolicyRow
lines_after s kind.User = lines_in s kind.Certifier ++ (lines_in s kind.Member ++ (lines_in s kind.Relation ++ lines_in s kind.Triple))
lines_after s kind.Certifier = lines_in s kind.Member ++ (lines_in s kind.Relation ++ lines_in s kind.Triple)
lines_after s kind.Member = lines_in s kind.Relation ++ lines_in s kind.Triple
lines_after s kind.Relation = lines_in s kind.Triple
lines_after s kind.Triple = []

-- the lines of a kind and of those that follow it
abbrev pub lines_from : Sheets → LineKind → List PolicyRow
lines_from s k = lines_in s k ++ lines_after s k

-- all lines of the policy, in listing order
abbrev pub lines_of : Sheets → List PolicyRow
lines_of s = lines_from s kind.User

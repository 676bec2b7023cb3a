-- Triples and relations with the members of their sets, as the tables hold them.
use Rattle.std.specs.Prelude.{ℕ, List, map}
use Rattle.std.specs.List.{filter}
use Rattle.bank_policy.specs.HeldRows.{CertifiedSet, HeldTriple}
use Rattle.bank_policy.specs.declared.rows.Member.{Member}
use Rattle.bank_policy.specs.declared.rows.Relation.{Relation}
use Rattle.bank_policy.specs.declared.rows.Triple.{Triple}
use Rattle.book_kept.specs.Sheets.{Sheets}
use Rattle.sql_policy.specs.Tests.{is_member_of}

-- the members of the set of this number, by place; none where there is no such set
abbrev pub members_in : Sheets → ℕ → List Member
members_in s set = map (λ m. m.member) (filter (is_member_of set) s.members)

abbrev pub held_in : Sheets → Triple → HeldTriple
held_in s row = record { triple = row; members = members_in s row.set }

abbrev pub certified_in : Sheets → Relation → CertifiedSet
certified_in s row = record { relation = row; members = members_in s row.set }

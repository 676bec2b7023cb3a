-- Which rows of the policy are asked for, by their columns.
use Rattle.std.specs.Prelude.{ℕ, ◌==◌, ◌&&◌, Bool}
use Rattle.bank_terms.specs.Procedure.{number_of}
use Rattle.bank_policy.specs.declared.rows.Certifier.{Certifier}
use Rattle.bank_policy.specs.declared.rows.Relation.{Relation}
use Rattle.bank_policy.specs.declared.rows.Triple.{Triple}
use Rattle.book_kept.specs.declared.records.MemberRow.{MemberRow}

-- a member of the set
abbrev pub is_member_of : ℕ → MemberRow → Bool
is_member_of set row = row.set == set

-- that the procedure of this number is certified
abbrev pub is_relation_numbered : ℕ → Relation → Bool
is_relation_numbered procedure row = number_of row.procedure == procedure

-- on the set
abbrev pub is_relation_on : ℕ → ℕ → Relation → Bool
is_relation_on procedure set row = number_of row.procedure == procedure && row.set == set

-- that the user may carry out something
abbrev pub is_triple_by : ℕ → Triple → Bool
is_triple_by user row = row.user == user

-- the procedure of this number
abbrev pub is_triple_numbered : ℕ → ℕ → Triple → Bool
is_triple_numbered user procedure row = row.user == user && number_of row.procedure == procedure

-- on the set
abbrev pub is_triple_at : ℕ → ℕ → ℕ → Triple → Bool
is_triple_at user procedure set row = row.user == user && (number_of row.procedure == procedure && row.set == set)

-- that the user may certify the procedure of this number
abbrev pub is_certifier_of : ℕ → ℕ → Certifier → Bool
is_certifier_of user procedure row = row.user == user && number_of row.procedure == procedure

-- a triple of the procedure of this number and the set, whosever it is
abbrev pub is_triple_under : ℕ → ℕ → Triple → Bool
is_triple_under procedure set row = number_of row.procedure == procedure && row.set == set

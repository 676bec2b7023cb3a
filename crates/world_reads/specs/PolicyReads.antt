-- What a store answers of the policy of a World beside a user's triples and a procedure's relations.
use Rattle.std.specs.Prelude.{ℕ, ◌==◌, ◌&&◌, Bool, length, count_by, Option, option_map}
use Rattle.std.specs.List.{list_any}
use Rattle.bank_policy.specs.HeldRows.{standing_of, user_row}
use Rattle.bank_terms.specs.Procedure.{number_of}
use Rattle.bank_terms.specs.declared.procedure.Procedure.{Procedure}
use Rattle.bank_policy.specs.declared.rows.Certifier.{Certifier}
use Rattle.bank_policy.specs.declared.rows.User.{User}
use Rattle.bank_books.specs.Records.{release_count}
use Rattle.bank_books.specs.WorldLists.{WorldLists}
use Rattle.world_reads.specs.declared.records.UserRecord.{UserRecord}

abbrev pub user_record_of : WorldLists → User → UserRecord
user_record_of w row = record { standing = standing_of row; releases = release_count row.user w.releases }

-- the user of this number, with how many releases they were given
abbrev pub user_record : WorldLists → ℕ → Option UserRecord
user_record w user = option_map (user_record_of w) (user_row w.policy user)

-- how many triples a user has
abbrev pub triple_count : WorldLists → ℕ → ℕ
triple_count w user = count_by (λ row. row.user == user) w.policy.triples

-- how many sets are defined
abbrev pub set_count : WorldLists → ℕ
set_count w = length w.policy.sets

-- a set of this number is defined
abbrev pub is_set : WorldLists → ℕ → Bool
is_set w number = list_any (λ row. row.set == number) w.policy.sets

abbrev pub is_certifier_row : ℕ → Procedure → Certifier → Bool
is_certifier_row user procedure row = row.user == user && number_of row.procedure == number_of procedure

-- the user may certify the procedure
abbrev pub is_certifier : WorldLists → ℕ → Procedure → Bool
is_certifier w user procedure = list_any (is_certifier_row user procedure) w.policy.certifiers

-- Who asks, as the fields of a message say.
use Rattle.std.specs.Prelude.{ℕ, Bool, ◌&&◌, nat_lt, nat_le, if◌then◌else◌, List, [], ◌∷◌, length, get_or, codes, Option, None, Result, Ok, Err}
use Rattle.bank_terms.specs.Limits.{max_key}
use Rattle.bank_terms.specs.Procedure.{takes_slip}
use Rattle.bank_terms.specs.declared.procedure.Procedure.{Procedure}
use Rattle.std.specs.Char.{is_ascii_graphic}
use Rattle.std.specs.Int.{is_in_range}
use Rattle.std.specs.List.{list_all}
use Rattle.std.specs.Str.{all_ascii_digits}
use Rattle.std.specs.Str.Parse.{digits_value}
use Rattle.bank_meaning.specs.declared.who.Who.{Who}
use Rattle.http_heads.specs.declared.fault.MessageFault.{MessageFault}
use Rattle.http_heads.specs.declared.fault.MessageFault.TheVariants.{BadContent}
use Rattle.http_heads.specs.Fields.{values_named}

-- a badge: 1 to 64 bytes, each of them visible ASCII
unfoldable pub is_badge : List ℕ → Bool
is_badge value = nat_lt 0 (length value) && nat_le (length value) 64 && list_all is_ascii_graphic value

-- the number of a session, of a release or of a slip: digits that come to 999,999,999 at most, and the first is 1 to 9
unfoldable pub is_number : List ℕ → Bool
is_number value = is_in_range 49 57 (get_or value 0 0) && all_ascii_digits value && nat_le (digits_value 10 value) max_key

-- the user whom the values of Bank-Badge fields name; a fault where there are two, or one that is no badge
abbrev pub user_of : (List ℕ → Option ℕ) → List (List ℕ) → Result (Option ℕ) MessageFault
user_of users [] = Ok None
user_of users (value ∷ []) = if is_badge value then Ok (users value) else Err BadContent
user_of users (value ∷ other ∷ values) = Err BadContent

-- the number that the values of Bank-Session, of Bank-Release or of Bank-Slip fields state, 0 where there is none; a fault where there are two,
-- or one that is no such number
abbrev pub number_of : List (List ℕ) → Result ℕ MessageFault
number_of [] = Ok 0
number_of (value ∷ []) = if is_number value then Ok (digits_value 10 value) else Err BadContent
number_of (value ∷ other ∷ values) = Err BadContent

-- both together, with no release
abbrev pub who_from : Result (Option ℕ) MessageFault → Result ℕ MessageFault → Result Who MessageFault
who_from (Ok user) (Ok session) = Ok (record { user = user; session = session; release = 0; slip = 0 })
who_from (Ok user) (Err fault) = Err fault
who_from (Err fault) session = Err fault

-- who asks, as the fields of a message say that read the session, too
abbrev pub who_of : (List ℕ → Option ℕ) → List (List ℕ × List ℕ) → Result Who MessageFault
who_of users fields =
    who_from (user_of users (values_named (codes "Bank-Badge") fields)) (number_of (values_named (codes "Bank-Session") fields))

-- and by the badge alone, whatever Bank-Session fields there are
abbrev pub who_by_badge : (List ℕ → Option ℕ) → List (List ℕ × List ℕ) → Result Who MessageFault
who_by_badge users fields = who_from (user_of users (values_named (codes "Bank-Badge") fields)) (Ok 0)

-- who asks, with the release that they name
abbrev pub with_release : Result Who MessageFault → Result ℕ MessageFault → Result Who MessageFault
with_release (Ok who) (Ok release) = Ok (record who { release = release })
with_release (Ok who) (Err fault) = Err fault
with_release (Err fault) release = Err fault

-- and with the slip
abbrev pub with_slip : Result Who MessageFault → Result ℕ MessageFault → Result Who MessageFault
with_slip (Ok who) (Ok slip) = Ok (record who { slip = slip })
with_slip (Ok who) (Err fault) = Err fault
with_slip (Err fault) slip = Err fault

-- the slip that the fields state, where the form is one that takes it
abbrev pub slip_for : Procedure → List (List ℕ × List ℕ) → Result ℕ MessageFault
slip_for procedure fields = if takes_slip procedure then number_of (values_named (codes "Bank-Slip") fields) else Ok 0

-- who asks for an operation: of operations alone the release is read, too, and of those that write the slip
abbrev pub who_of_operation : (List ℕ → Option ℕ) → Procedure → List (List ℕ × List ℕ) → Result Who MessageFault
who_of_operation users procedure fields = with_slip (with_release (who_of users fields) (number_of (values_named (codes "Bank-Release") fields))) (slip_for procedure fields)

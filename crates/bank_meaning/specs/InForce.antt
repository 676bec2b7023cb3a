-- The policy in force, by last word: what stands in it is what the last request that speaks of it says, and where none speaks of it, what stood at the opening.
use Rattle.std.specs.Prelude.{ℕ, ◌≡◌, ◌+◌, ◌==◌, ◌&&◌, Bool, true, false, List, [], ◌∷◌, count_by, Option, Some, None, option_map, unwrap_or, if◌then◌else◌}
use Rattle.std.specs.List.{find}
use Rattle.std.specs.Option.{option_map_or, option_or}
use Rattle.bank_terms.specs.Procedure.{number_of}
use Rattle.bank_terms.specs.declared.procedure.Procedure.{Procedure}
use Rattle.bank_policy.specs.HeldRows.{is_relation_of, is_triple_of, user_row}
use Rattle.bank_policy.specs.Policy.{PolicyLists}
use Rattle.bank_policy.specs.SetRow.{SetRow}
use Rattle.bank_policy.specs.declared.rows.Certifier.{Certifier}
use Rattle.bank_policy.specs.declared.rows.Relation.{Relation}
use Rattle.bank_policy.specs.declared.rows.Triple.{Triple}
use Rattle.bank_policy.specs.declared.rows.User.{User}
use Rattle.policy_commands.specs.declared.policy_op.Enrolment.{Enrolment}
use Rattle.policy_commands.specs.declared.policy_op.PolicyOp.TheVariants as command
use Rattle.bank_meaning.specs.PolicyRules.{asker}
use Rattle.bank_meaning.specs.declared.request.Asked.{Asked}
use Rattle.bank_meaning.specs.declared.request.Asked.TheVariants as asked
use Rattle.bank_meaning.specs.declared.request.Request.{Request}
use Rattle.bank_meaning.specs.declared.who.Who.{Who}

-- ---- the rows of a policy, by what they are named by

-- the set of this number, or none
abbrev pub set_row : PolicyLists → ℕ → Option SetRow
set_row p set = find (λ row. row.set == set) p.sets

-- the relation of this procedure on this set
abbrev pub relation_row : PolicyLists → Procedure → ℕ → Option Relation
relation_row p procedure set = find (λ row. is_relation_of procedure row && row.set == set) p.relations

-- the triple of this user for this procedure on this set
abbrev pub triple_row : PolicyLists → ℕ → Procedure → ℕ → Option Triple
triple_row p user procedure set = find (λ row. is_triple_of user procedure row && row.set == set) p.triples

-- the row that makes this user a certifier of this procedure
abbrev pub certifier_row : PolicyLists → ℕ → Procedure → Option Certifier
certifier_row p user procedure = find (λ row. row.user == user && number_of row.procedure == number_of procedure) p.certifiers

-- who a user is, without what changes: the number, the name, and whether they are an officer
abbrev pub enrolment_of : User → Enrolment
enrolment_of row = record { user = row.user; name = row.name; officer = row.officer }

abbrev pub enrolment : PolicyLists → ℕ → Option Enrolment
enrolment p user = option_map enrolment_of (user_row p user)

-- the user is there, and is suspended
abbrev pub is_suspended : PolicyLists → ℕ → Bool
is_suspended p user = option_map_or (λ row. row.suspended) (user_row p user) false

-- the user is there, and their latest session is open
abbrev pub is_in_session : PolicyLists → ℕ → Bool
is_in_session p user = option_map_or (λ row. row.on) (user_row p user) false

-- the number of the user's latest session, 0 before the first and where the user is not there
abbrev pub session_number : PolicyLists → ℕ → ℕ
session_number p user = option_map_or (λ row. row.session) (user_row p user) 0

-- ---- what a request says

-- What a request says of one thing, by who asks and what is asked for; none where it does not speak of it.
abbrev pub Word : Type 0 → Type 0
Word A = Who → Asked → Option A

abbrev pub said_if : {A : Type 0} → Bool → A → Option A
said_if speaks said = if speaks then Some said else None

abbrev pub is_same : Procedure → Procedure → Bool
is_same p q = number_of p == number_of q

-- Of a set its definition speaks. No request takes a set away.
abbrev pub word_on_set : ℕ → Word (Option SetRow)
word_on_set set who (asked.Command (command.DefineSet s)) = said_if (s.set == set) (Some s)
word_on_set set who _ = None

-- Of a relation its certification speaks, by which it stands by who asks, and its withdrawal.
abbrev pub word_on_relation : Procedure → ℕ → Word (Option Relation)
word_on_relation procedure set who (asked.Command (command.Certify k)) =
    said_if (is_same k.procedure procedure && k.set == set) (Some (record { procedure = k.procedure; set = k.set; by = asker who }))
word_on_relation procedure set who (asked.Command (command.Withdraw k)) = said_if (is_same k.procedure procedure && k.set == set) None
word_on_relation procedure set who _ = None

-- Of a triple its grant speaks, and its revocation; and the withdrawal of a relation speaks of all triples on that.
abbrev pub word_on_triple : ℕ → Procedure → ℕ → Word (Option Triple)
word_on_triple user procedure set who (asked.Command (command.Grant t)) = said_if (is_triple_of user procedure t && t.set == set) (Some t)
word_on_triple user procedure set who (asked.Command (command.Revoke k)) = said_if ((k.user == user && is_same k.procedure procedure) && k.set == set) None
word_on_triple user procedure set who (asked.Command (command.Withdraw k)) = said_if (is_same k.procedure procedure && k.set == set) None
word_on_triple user procedure set who _ = None

-- Of whether a user is a certifier of a procedure their appointment speaks, and their dismissal.
abbrev pub word_on_certifier : ℕ → Procedure → Word (Option Certifier)
word_on_certifier user procedure who (asked.Command (command.Appoint c)) = said_if (c.user == user && is_same c.procedure procedure) (Some c)
word_on_certifier user procedure who (asked.Command (command.Dismiss c)) = said_if (c.user == user && is_same c.procedure procedure) None
word_on_certifier user procedure who _ = None

-- Of who a user is their enrolment speaks. No request takes a user away.
abbrev pub word_on_user : ℕ → Word (Option Enrolment)
word_on_user user who (asked.Command (command.Enrol e)) = said_if (e.user == user) (Some e)
word_on_user user who _ = None

-- Of whether a user is suspended their suspension speaks, and their restoration.
abbrev pub word_on_suspension : ℕ → Word Bool
word_on_suspension user who (asked.Command (command.Suspend k)) = said_if (k.user == user) true
word_on_suspension user who (asked.Command (command.Restore k)) = said_if (k.user == user) false
word_on_suspension user who _ = None

-- Of whether a user's session is open its opening speaks, and its ending; suspension and restoration close it.
abbrev pub word_on_session : ℕ → Word Bool
word_on_session user who asked.Opening = said_if (asker who == user) true
word_on_session user who asked.Ending = said_if (asker who == user) false
word_on_session user who (asked.Command (command.Suspend k)) = said_if (k.user == user) false
word_on_session user who (asked.Command (command.Restore k)) = said_if (k.user == user) false
word_on_session user who _ = None

-- the user opens a session by it
abbrev pub is_opening_of : ℕ → Who → Asked → Bool
is_opening_of user who asked.Opening = asker who == user
is_opening_of user who _ = false

-- ---- the last word

-- what the last of the requests that speak of it says
abbrev pub last_word : {A : Type 0} → Word A → List Request → Option A
last_word says [] = None
last_word says (r ∷ rs) = option_or (last_word says rs) (says r.who r.asked)

-- and where none speaks of it, what stood at the opening
abbrev pub in_force : {A : Type 0} → Word A → List Request → A → A
in_force says requests opening = unwrap_or (last_word says requests) opening

-- Each row of the policy is the one in force after these requests, from this opening. Of sessions the number is that of the opening, and one more for each that
-- their own user opened.
pub record IsInForce (opening : PolicyLists) (requests : List Request) (policy : PolicyLists) : Type 0 where
  pub sets : (set : ℕ) → set_row policy set ≡ in_force (word_on_set set) requests (set_row opening set)
  pub relations : (procedure : Procedure) (set : ℕ) → relation_row policy procedure set ≡ in_force (word_on_relation procedure set) requests (relation_row opening procedure set)
  pub triples : (user : ℕ) (procedure : Procedure) (set : ℕ)
      → triple_row policy user procedure set ≡ in_force (word_on_triple user procedure set) requests (triple_row opening user procedure set)
  pub certifiers : (user : ℕ) (procedure : Procedure) → certifier_row policy user procedure ≡ in_force (word_on_certifier user procedure) requests (certifier_row opening user procedure)
  pub users : (user : ℕ) → enrolment policy user ≡ in_force (word_on_user user) requests (enrolment opening user)
  pub suspended : (user : ℕ) → is_suspended policy user ≡ in_force (word_on_suspension user) requests (is_suspended opening user)
  pub in_session : (user : ℕ) → is_in_session policy user ≡ in_force (word_on_session user) requests (is_in_session opening user)
  pub sessions : (user : ℕ) → session_number policy user ≡ session_number opening user + count_by (λ r. is_opening_of user r.who r.asked) requests

-- Sessions: the rules against their opening and their ending, what they leave, what they are replied, and their meanings.
use Rattle.std.specs.Prelude.{ℕ, ◌+◌, Bool, true, false, not, nat_le, List, [], ◌∷◌, ◌++◌, codes, decimal, Option, option_and_then}
use Rattle.std.specs.Option.{option_map_or}
use Rattle.serde_json.specs.Data.{Data, object, member, no_members}
use Rattle.bank_policy.specs.HeldRows.{standing}
use Rattle.bank_policy.specs.declared.policy_write.Session.{Session}
use Rattle.bank_policy.specs.declared.rows.Standing.{Standing}
use Rattle.bank_terms.specs.Limits.{max_key}
use Rattle.bank_terms.specs.declared.rule.Rule.{Rule}
use Rattle.bank_terms.specs.declared.rule.Rule.TheVariants as rule
use Rattle.bank_books.specs.Effects.{applied}
use Rattle.bank_books.specs.WorldLists.{WorldLists}
use Rattle.bank_books.specs.declared.row_write.RowWrite.TheVariants as write
use Rattle.rule_tests.specs.Denial.{first_denial, is_denial}
use Rattle.bank_meaning.specs.Denial.{natural}
use Rattle.bank_meaning.specs.Meaning.{Meaning, json}
use Rattle.bank_meaning.specs.NamedRelease.{is_active}
use Rattle.bank_meaning.specs.PolicyRules.{asker, is_identified}
use Rattle.bank_meaning.specs.declared.who.Who.{Who}

-- what the row of who asks says of whether they may, or none where no user is named or that user isn't there
abbrev pub standing_of_asker : Who → WorldLists → Option Standing
standing_of_asker who w = option_and_then (λ user. standing w.policy user) who.user

-- the number of the latest session, 0 before the first
abbrev pub latest : Option Standing → ℕ
latest row = option_map_or (λ s. s.session) row 0

-- the asker's session from now on
abbrev pub session_of : Who → ℕ → Bool → Session
session_of who number on = record { user = asker who; session = number; on = on }

-- ---- opening

-- The rules that an opening is judged by, in their order, each with whether it denies: who asks may not open a session;
-- their next session would pass the greatest number.
abbrev pub opening_tests : Option Standing → List (Rule × Bool)
opening_tests row =
    (rule.Identity, not (is_active row))
    ∷ (rule.Full, option_map_or (λ s. nat_le max_key s.session) row false)
    ∷ []

-- the first of them that denies
abbrev pub first_against_opening : Option Standing → Option Rule
first_against_opening row = first_denial (opening_tests row)

unfoldable pub opening_text : ℕ → List ℕ
opening_text number = codes "{\"session\":" ++ decimal number ++ codes "}"

-- the JSON value of the reply
abbrev pub opening_data : ℕ → Data
opening_data number = object (member (codes "session") (natural number) no_members)

-- the user's next session is open, also where the last one was
abbrev pub opening_meaning : Who → WorldLists → Meaning
opening_meaning who w = record {
  denies = λ r. is_denial r (opening_tests (standing_of_asker who w));
  effect = applied (write.Session (session_of who (latest (standing_of_asker who w) + 1) true) ∷ []) w;
  reply = json (opening_text (latest (standing_of_asker who w) + 1));
}

-- ---- ending

-- The rules that an ending is judged by, each with whether it denies: who asks is not known, as of an operation.
abbrev pub ending_tests : Option Standing → ℕ → List (Rule × Bool)
ending_tests row session = (rule.Identity, not (is_identified row session)) ∷ []

-- the first of them that denies
abbrev pub first_against_ending : Option Standing → ℕ → Option Rule
first_against_ending row session = first_denial (ending_tests row session)

unfoldable pub ending_text : ℕ → List ℕ
ending_text number = codes "{\"ended\":" ++ decimal number ++ codes "}"

-- the JSON value of the reply
abbrev pub ending_data : ℕ → Data
ending_data number = object (member (codes "ended") (natural number) no_members)

-- the user's session is closed, and keeps its number
abbrev pub ending_meaning : Who → WorldLists → Meaning
ending_meaning who w = record {
  denies = λ r. is_denial r (ending_tests (standing_of_asker who w) who.session);
  effect = applied (write.Session (session_of who (latest (standing_of_asker who w)) false) ∷ []) w;
  reply = json (ending_text (latest (standing_of_asker who w)));
}

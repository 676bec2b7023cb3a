-- A command of the policy: the rules against it, and its effect. Clark and Wilson's rule E4 is what they are for: the lists of who may execute what are changed
-- by those alone who may certify it, and these may not execute it.
use Rattle.std.specs.Prelude.{ℕ, ◌==◌, ◌&&◌, ◌||◌, Bool, true, false, not, nat_le, is_none, List, [], ◌∷◌, Option}
use Rattle.std.specs.Option.{option_map_or}
use Rattle.bank_terms.specs.Limits.{max_relations, max_sets, max_triples}
use Rattle.bank_terms.specs.declared.rule.Rule.{Rule}
use Rattle.bank_terms.specs.declared.rule.Rule.TheVariants as rule
use Rattle.bank_policy.specs.declared.policy_write.PolicyWrite.{PolicyWrite}
use Rattle.bank_policy.specs.declared.policy_write.PolicyWrite.TheVariants as change
use Rattle.bank_books.specs.Effects.{applied, in_full}
use Rattle.bank_books.specs.WorldLists.{WorldLists}
use Rattle.bank_books.specs.declared.row_write.RowWrite.{RowWrite}
use Rattle.bank_books.specs.declared.row_write.RowWrite.TheVariants as write
use Rattle.policy_commands.specs.declared.policy_op.PolicyOp.{PolicyOp}
use Rattle.policy_commands.specs.declared.policy_op.PolicyOp.TheVariants as asked
use Rattle.rule_tests.specs.Denial.{first_denial}
use Rattle.certify.specs.declared.command_rows.CommandRows.{CommandRows}

-- an officer asks for it; for the others a certifier of the procedure does, and for a set a certifier of any
abbrev pub is_of_officers : PolicyOp → Bool
is_of_officers (asked.DefineSet s) = false
is_of_officers (asked.Certify k) = false
is_of_officers (asked.Withdraw k) = false
is_of_officers (asked.Grant t) = false
is_of_officers (asked.Revoke k) = false
is_of_officers (asked.Appoint c) = true
is_of_officers (asked.Dismiss c) = true
is_of_officers (asked.Enrol e) = true
is_of_officers (asked.Suspend k) = true
is_of_officers (asked.Restore k) = true

-- the user is an officer
abbrev pub names_officer : CommandRows → Bool
names_officer rows = option_map_or (λ s. s.officer) rows.user false

abbrev pub is_suspended : CommandRows → Bool
is_suspended rows = option_map_or (λ s. s.suspended) rows.user false

-- Separation of duty: nobody executes what they may certify or what is certified by them, and an officer does neither.
abbrev pub breaks_separation : CommandRows → PolicyOp → Bool
breaks_separation rows (asked.DefineSet s) = false
breaks_separation rows (asked.Certify k) = false
breaks_separation rows (asked.Withdraw k) = false
breaks_separation rows (asked.Grant t) = names_officer rows || rows.has_certified
breaks_separation rows (asked.Revoke k) = false
breaks_separation rows (asked.Appoint c) = names_officer rows || rows.executes
breaks_separation rows (asked.Dismiss c) = false
breaks_separation rows (asked.Enrol e) = false
breaks_separation rows (asked.Suspend k) = false
breaks_separation rows (asked.Restore k) = false

-- what it names, other than what it adds, is not there
abbrev pub is_unknown : CommandRows → PolicyOp → Bool
is_unknown rows (asked.DefineSet s) = false
is_unknown rows (asked.Certify k) = not rows.has_set
is_unknown rows (asked.Withdraw k) = not rows.is_there
is_unknown rows (asked.Grant t) = is_none rows.user || not rows.is_related
is_unknown rows (asked.Revoke k) = not rows.is_there
is_unknown rows (asked.Appoint c) = is_none rows.user
is_unknown rows (asked.Dismiss c) = not rows.is_there
is_unknown rows (asked.Enrol e) = false
is_unknown rows (asked.Suspend k) = is_none rows.user
is_unknown rows (asked.Restore k) = is_none rows.user

-- What it adds is there already by its key, or there are as many as there may be; a user to suspend is suspended
-- already or is who asks; a user to restore is not suspended.
abbrev pub is_out_of_place : CommandRows → ℕ → PolicyOp → Bool
is_out_of_place rows by (asked.DefineSet s) = rows.is_there || nat_le max_sets rows.count
is_out_of_place rows by (asked.Certify k) = rows.is_there || nat_le max_relations rows.count
is_out_of_place rows by (asked.Withdraw k) = false
is_out_of_place rows by (asked.Grant t) = rows.is_there || nat_le max_triples rows.count
is_out_of_place rows by (asked.Revoke k) = false
is_out_of_place rows by (asked.Appoint c) = rows.is_there
is_out_of_place rows by (asked.Dismiss c) = false
is_out_of_place rows by (asked.Enrol e) = rows.is_there
is_out_of_place rows by (asked.Suspend k) = is_suspended rows || k.user == by
is_out_of_place rows by (asked.Restore k) = not (is_suspended rows)

-- the rules that the command of this user is judged by, in their order, each with whether it denies
abbrev pub command_tests : CommandRows → ℕ → PolicyOp → List (Rule × Bool)
command_tests rows by command =
    (rule.Officer, is_of_officers command && not rows.officer)
    ∷ (rule.Certifier, not (is_of_officers command) && not rows.certifies)
    ∷ (rule.Separation, breaks_separation rows command)
    ∷ (rule.PolicyUnknown, is_unknown rows command)
    ∷ (rule.PolicyState, is_out_of_place rows by command)
    ∷ []

-- the first of them that denies
abbrev pub first_against_command : CommandRows → ℕ → PolicyOp → Option Rule
first_against_command rows by command = first_denial (command_tests rows by command)

-- The change of the policy. A relation stands by who asks; a user who is taken in has no session yet, and one who is restored needs a new one.
abbrev pub change_of : PolicyOp → ℕ → PolicyWrite
change_of (asked.DefineSet s) by = change.Set s
change_of (asked.Certify k) by = change.Relation (record { procedure = k.procedure; set = k.set; by = by })
change_of (asked.Withdraw k) by = change.NoRelation k
change_of (asked.Grant t) by = change.Triple t
change_of (asked.Revoke k) by = change.NoTriple k
change_of (asked.Appoint c) by = change.Certifier c
change_of (asked.Dismiss c) by = change.NoCertifier c
change_of (asked.Enrol e) by = change.User (record { user = e.user; name = e.name; officer = e.officer; suspended = false; session = 0; on = false })
change_of (asked.Suspend k) by = change.Suspended (record { user = k.user; suspended = true })
change_of (asked.Restore k) by = change.Suspended (record { user = k.user; suspended = false })

abbrev pub command_changes : PolicyOp → ℕ → List RowWrite
command_changes command by = write.Policy (change_of command by) ∷ []

-- the World with its change
abbrev pub commanded : WorldLists → ℕ → PolicyOp → WorldLists
commanded w by command = in_full (command_changes command by) w

-- The World after it. The policy of the greatest version is changed no more: a store has no room for that, and says so.
abbrev pub command_effect : WorldLists → ℕ → PolicyOp → WorldLists
command_effect w by command = applied (command_changes command by) w

-- The rows of the policy that a command is judged on.
use Rattle.std.specs.Prelude.{ℕ, ◌==◌, ◌&&◌, ◌||◌, Bool, false, None, length, count_by, is_some}
use Rattle.std.specs.Option.{option_map_or}
use Rattle.std.specs.List.{list_any}
use Rattle.bank_terms.specs.Procedure.{number_of}
use Rattle.bank_terms.specs.declared.procedure.Procedure.{Procedure}
use Rattle.bank_policy.specs.HeldRows.{is_relation_of, is_triple_of, standing}
use Rattle.bank_policy.specs.Policy.{PolicyLists}
use Rattle.policy_commands.specs.declared.policy_op.PolicyOp.{PolicyOp}
use Rattle.policy_commands.specs.declared.policy_op.PolicyOp.TheVariants as asked
use Rattle.certify.specs.declared.command_rows.CommandRows.{CommandRows}

-- ---- what the policy says of who asks, and of whom a command names

abbrev pub is_officer : PolicyLists → ℕ → Bool
is_officer policy user = option_map_or (λ s. s.officer) (standing policy user) false

abbrev pub is_certifier : PolicyLists → ℕ → Procedure → Bool
is_certifier policy user procedure = list_any (λ row. row.user == user && number_of row.procedure == number_of procedure) policy.certifiers

-- of any procedure
abbrev pub certifies_any : PolicyLists → ℕ → Bool
certifies_any policy user = list_any (λ row. row.user == user) policy.certifiers

-- a relation of the procedure is certified by the user, who may have been dismissed since
abbrev pub has_certified : PolicyLists → ℕ → Procedure → Bool
has_certified policy user procedure = list_any (λ row. is_relation_of procedure row && row.by == user) policy.relations

-- the user has a triple for the procedure, with any set
abbrev pub executes : PolicyLists → ℕ → Procedure → Bool
executes policy user procedure = list_any (is_triple_of user procedure) policy.triples

-- ---- what there is

abbrev pub has_set : PolicyLists → ℕ → Bool
has_set policy set = list_any (λ row. row.set == set) policy.sets

abbrev pub has_relation : PolicyLists → Procedure → ℕ → Bool
has_relation policy procedure set = list_any (λ row. is_relation_of procedure row && row.set == set) policy.relations

abbrev pub has_triple : PolicyLists → ℕ → Procedure → ℕ → Bool
has_triple policy user procedure set = list_any (λ row. is_triple_of user procedure row && row.set == set) policy.triples

-- ---- the rows of each command

-- who asks for a certifier's command
abbrev pub of_certifier : Bool → CommandRows
of_certifier certifies =
    record { officer = false; certifies = certifies; user = None; has_certified = false; executes = false; has_set = false; is_related = false; is_there = false; count = 0 }

-- who asks for an officer's
abbrev pub of_officer : Bool → CommandRows
of_officer officer =
    record { officer = officer; certifies = false; user = None; has_certified = false; executes = false; has_set = false; is_related = false; is_there = false; count = 0 }

-- The rows that a command of this user is judged on, in a policy, and no others: a command that names no user reads none.
abbrev pub command_rows : PolicyLists → ℕ → PolicyOp → CommandRows
command_rows policy by (asked.DefineSet s) = record (of_certifier (certifies_any policy by)) { is_there = has_set policy s.set; count = length policy.sets }
command_rows policy by (asked.Certify k) = record (of_certifier (is_certifier policy by k.procedure)) {
  has_set = has_set policy k.set;
  is_there = has_relation policy k.procedure k.set;
  count = count_by (is_relation_of k.procedure) policy.relations;
}
command_rows policy by (asked.Withdraw k) = record (of_certifier (is_certifier policy by k.procedure)) { is_there = has_relation policy k.procedure k.set }
command_rows policy by (asked.Grant t) = record (of_certifier (is_certifier policy by t.procedure)) {
  user = standing policy t.user;
  has_certified = is_certifier policy t.user t.procedure || has_certified policy t.user t.procedure;
  is_related = has_relation policy t.procedure t.set;
  is_there = has_triple policy t.user t.procedure t.set;
  count = count_by (λ row. row.user == t.user) policy.triples;
}
command_rows policy by (asked.Revoke k) = record (of_certifier (is_certifier policy by k.procedure)) { is_there = has_triple policy k.user k.procedure k.set }
command_rows policy by (asked.Appoint c) = record (of_officer (is_officer policy by)) {
  user = standing policy c.user;
  executes = executes policy c.user c.procedure;
  is_there = is_certifier policy c.user c.procedure;
}
command_rows policy by (asked.Dismiss c) = record (of_officer (is_officer policy by)) { is_there = is_certifier policy c.user c.procedure }
command_rows policy by (asked.Enrol e) = record (of_officer (is_officer policy by)) { is_there = is_some (standing policy e.user) }
command_rows policy by (asked.Suspend k) = record (of_officer (is_officer policy by)) { user = standing policy k.user }
command_rows policy by (asked.Restore k) = record (of_officer (is_officer policy by)) { user = standing policy k.user }

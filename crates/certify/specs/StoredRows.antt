-- The rows that a command is judged on, from what a store answers: what the user's row says, whether they are a
-- certifier, the relations of the procedure named, the triples of the user named for that procedure, and counts.
use Rattle.std.specs.Prelude.{ℕ, ◌==◌, ◌||◌, Bool, false, not, is_some, length, List, Option}
use Rattle.std.specs.List.{list_any}
use Rattle.std.specs.Option.{option_map_or}
use Rattle.bank_policy.specs.HeldRows.{CertifiedSet, HeldTriple}
use Rattle.bank_policy.specs.declared.policy_write.RelationKey.{RelationKey}
use Rattle.bank_policy.specs.declared.policy_write.TripleKey.{TripleKey}
use Rattle.bank_policy.specs.declared.rows.Standing.{Standing}
use Rattle.bank_policy.specs.declared.rows.Triple.{Triple}
use Rattle.certify.specs.CommandRows.{of_certifier, of_officer}
use Rattle.certify.specs.declared.command_rows.CommandRows.{CommandRows}

-- the user's row says that they are an officer
abbrev pub is_officer_row : Option Standing → Bool
is_officer_row user = option_map_or (λ s. s.officer) user false

-- one of these relations is on the set
abbrev pub is_among : ℕ → List CertifiedSet → Bool
is_among set relations = list_any (λ row. row.relation.set == set) relations

-- one of these relations stands by the user
abbrev pub has_one_by : ℕ → List CertifiedSet → Bool
has_one_by user relations = list_any (λ row. row.relation.by == user) relations

-- one of these triples is on the set
abbrev pub is_held_on : ℕ → List HeldTriple → Bool
is_held_on set triples = list_any (λ row. row.triple.set == set) triples

abbrev pub define_set_rows : Bool → Bool → ℕ → CommandRows
define_set_rows certifies has_set count = record (of_certifier certifies) { is_there = has_set; count = count }

abbrev pub certify_rows : Bool → Bool → List CertifiedSet → RelationKey → CommandRows
certify_rows certifies has_set relations key = record (of_certifier certifies) { has_set = has_set; is_there = is_among key.set relations; count = length relations }

abbrev pub withdraw_rows : Bool → List CertifiedSet → RelationKey → CommandRows
withdraw_rows certifies relations key = record (of_certifier certifies) { is_there = is_among key.set relations }

-- standing, whether a certifier of the procedure, and count of triples are those of the user whom the triple names
abbrev pub grant_rows : Bool → Option Standing → Bool → List CertifiedSet → List HeldTriple → ℕ → Triple → CommandRows
grant_rows certifies user is_certifier relations triples count triple = record (of_certifier certifies) {
  user = user;
  has_certified = is_certifier || has_one_by triple.user relations;
  is_related = is_among triple.set relations;
  is_there = is_held_on triple.set triples;
  count = count;
}

abbrev pub revoke_rows : Bool → List HeldTriple → TripleKey → CommandRows
revoke_rows certifies triples key = record (of_certifier certifies) { is_there = is_held_on key.set triples }

-- who asks, the user whom it names, their triples for the procedure, and whether they are a certifier of it
abbrev pub appoint_rows : Option Standing → Option Standing → List HeldTriple → Bool → CommandRows
appoint_rows asks user triples is_certifier = record (of_officer (is_officer_row asks)) { user = user; executes = not (length triples == 0); is_there = is_certifier }

abbrev pub dismiss_rows : Option Standing → Bool → CommandRows
dismiss_rows asks is_there = record (of_officer (is_officer_row asks)) { is_there = is_there }

abbrev pub enrol_rows : Option Standing → Option Standing → CommandRows
enrol_rows asks user = record (of_officer (is_officer_row asks)) { is_there = is_some user }

-- of the two commands that suspend a user and restore one
abbrev pub suspension_rows : Option Standing → Option Standing → CommandRows
suspension_rows asks user = record (of_officer (is_officer_row asks)) { user = user }

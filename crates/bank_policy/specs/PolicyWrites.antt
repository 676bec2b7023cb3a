-- What one change makes of a policy.
use Rattle.std.specs.Prelude.{◌==◌, ◌&&◌, not, Bool, false, List}
use Rattle.std.specs.List.{filter}
use Rattle.keyed_rows.specs.Changed.{change_rows, delete_rows}
use Rattle.keyed_rows.specs.Ordered.{add_row}
use Rattle.bank_terms.specs.Procedure.{number_of}
use Rattle.bank_policy.specs.Policy.{PolicyLists}
use Rattle.bank_policy.specs.PolicyKeys.{certifier_key, relation_key, relation_number, set_key, triple_key, triple_number, user_key}
use Rattle.bank_policy.specs.declared.policy_write.PolicyWrite.{PolicyWrite}
use Rattle.bank_policy.specs.declared.policy_write.PolicyWrite.TheVariants as write
use Rattle.bank_policy.specs.declared.policy_write.RelationKey.{RelationKey}
use Rattle.bank_policy.specs.declared.policy_write.Session.{Session}
use Rattle.bank_policy.specs.declared.policy_write.Suspension.{Suspension}
use Rattle.bank_policy.specs.declared.rows.Triple.{Triple}
use Rattle.bank_policy.specs.declared.rows.User.{User}

-- the user, whose latest session is this one from now on
abbrev pub in_session : Session → User → User
in_session s user = record user { session = s.session; on = s.on }

-- the user, who is suspended or restored; either way their session is closed, and keeps its number
abbrev pub in_suspension : Suspension → User → User
in_suspension s user = record user { suspended = s.suspended; on = false }

abbrev pub with_session : Session → List User → List User
with_session s users = change_rows user_key s.user (in_session s) users

abbrev pub with_suspension : Suspension → List User → List User
with_suspension s users = change_rows user_key s.user (in_suspension s) users

-- a triple that lets its user carry out the procedure of this relation on its set
abbrev pub is_triple_on : RelationKey → Triple → Bool
is_triple_on k row = number_of row.procedure == number_of k.procedure && row.set == k.set

-- The policy after a change. With a relation its triples go, so that none is left that is not certified.
abbrev pub policy_written : PolicyWrite → PolicyLists → PolicyLists
policy_written (write.User row) p = record p { users = add_row user_key row p.users }
policy_written (write.Set row) p = record p { sets = add_row set_key row p.sets }
policy_written (write.Relation row) p = record p { relations = add_row relation_key row p.relations }
policy_written (write.NoRelation k) p = record p {
  relations = delete_rows relation_key (relation_number k.procedure k.set) p.relations;
  triples = filter (λ row. not (is_triple_on k row)) p.triples;
}
policy_written (write.Triple row) p = record p { triples = add_row triple_key row p.triples }
policy_written (write.NoTriple k) p = record p { triples = delete_rows triple_key (triple_number k.user k.procedure k.set) p.triples }
policy_written (write.Certifier row) p = record p { certifiers = add_row certifier_key row p.certifiers }
policy_written (write.NoCertifier row) p = record p { certifiers = delete_rows certifier_key (certifier_key row) p.certifiers }
policy_written (write.Suspended s) p = record p { users = with_suspension s p.users }

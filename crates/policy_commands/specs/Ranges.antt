-- In which ranges the members of a command of the policy lie. The rules that are named are of Clark and Wilson's model (1987): C2
-- and E1 of the relations, each a procedure and the set of items that it is certified on; E2 of the triples, each a user, a procedure
-- and a set; E3 of who may ask at all; and E4, that the list of what is certified for what is changed by its certifier alone, who then
-- may not execute it.
use Rattle.std.specs.Prelude.{ℕ, ◌≤◌}
use Rattle.bank_terms.specs.Limits.{max_user, max_limit}
use Rattle.policy_check.specs.Soundness.{IsName, IsNumber, IsSetSound, IsSpan}
use Rattle.bank_policy.specs.declared.rows.Certifier.{Certifier}
use Rattle.bank_policy.specs.declared.rows.Triple.{Triple}
use Rattle.policy_commands.specs.declared.policy_op.Enrolment.{Enrolment}
use Rattle.policy_commands.specs.declared.policy_op.PolicyOp.{PolicyOp}
use Rattle.policy_commands.specs.declared.policy_op.PolicyOp.TheVariants as asked
use Rattle.bank_policy.specs.declared.policy_write.RelationKey.{RelationKey}
use Rattle.bank_policy.specs.declared.policy_write.TripleKey.{TripleKey}
use Rattle.policy_commands.specs.declared.policy_op.UserKey.{UserKey}

-- the number of a user
abbrev pub IsUserNumber : ℕ → Type 0
IsUserNumber user = (1 ≤ user) × (user ≤ max_user)

-- one of the relations of rules C2 and E1; who certifies it is who asks
abbrev pub IsRelationKey : RelationKey → Type 0
IsRelationKey relation = IsNumber relation.set

-- one of the triples of rule E2, up to which amount it stands, in cents, and when
pub record IsTriple (triple : Triple) : Type 0 where
  pub user : IsUserNumber triple.user
  pub set : IsNumber triple.set
  pub limit : triple.limit ≤ max_limit
  pub moments : IsSpan triple

-- one of the triples of rule E2, with whatever limit and moments
pub record IsTripleKey (triple : TripleKey) : Type 0 where
  pub user : IsUserNumber triple.user
  pub set : IsNumber triple.set

-- the one of rule E4 who may certify a procedure
abbrev pub IsCertifierRow : Certifier → Type 0
IsCertifierRow certifier = IsUserNumber certifier.user

-- a user of rule E3, whom the system knows by number and name
pub record IsEnrolment (enrolment : Enrolment) : Type 0 where
  pub user : IsUserNumber enrolment.user
  pub name : IsName enrolment.name

-- a user of rule E3, known already
abbrev pub IsUserKey : UserKey → Type 0
IsUserKey key = IsUserNumber key.user

-- a command whose members lie in their ranges
abbrev pub IsPolicyOp : PolicyOp → Type 0
-- a set for relations and triples to name, which is never another afterwards
IsPolicyOp (asked.DefineSet set) = IsSetSound set
-- E1: a relation more, by a certifier of the procedure, and one less; only that certifier changes the list, by E4
IsPolicyOp (asked.Certify relation) = IsRelationKey relation
IsPolicyOp (asked.Withdraw relation) = IsRelationKey relation
-- E2: a triple more, and one less, by the same certifier under the same E4
IsPolicyOp (asked.Grant triple) = IsTriple triple
IsPolicyOp (asked.Revoke triple) = IsTripleKey triple
-- E4: who may certify a procedure, and who no longer may
IsPolicyOp (asked.Appoint certifier) = IsCertifierRow certifier
IsPolicyOp (asked.Dismiss certifier) = IsCertifierRow certifier
-- E3: who may be known, who may not ask for now, and who may again
IsPolicyOp (asked.Enrol enrolment) = IsEnrolment enrolment
IsPolicyOp (asked.Suspend key) = IsUserKey key
IsPolicyOp (asked.Restore key) = IsUserKey key

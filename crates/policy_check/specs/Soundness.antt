-- A policy with no dangling rows: each key stands once, each number and count is within its limits, and each row that
-- another names is there (the primary and foreign keys of Codd's relational model).
use Rattle.std.specs.Prelude.{ℕ, ◌≡◌, ◌==◌, ◌≤◌, List, length, map, All, Any, count_by}
use Rattle.bank_terms.specs.Limits.{max_key, max_user, max_sets, max_relations, max_triples, max_limit, max_moment}
use Rattle.keyed_rows.specs.Ordered.{AreDistinct, HasRow}
use Rattle.bank_policy.specs.Policy.{PolicyLists}
use Rattle.bank_policy.specs.PolicyKeys.{user_key, set_key, relation_key, triple_key, certifier_key}
use Rattle.bank_terms.specs.Procedure.{number_of}
use Rattle.bank_policy.specs.SetRow.{SetRow}
use Rattle.bank_terms.specs.declared.procedure.Procedure.{Procedure}
use Rattle.bank_policy.specs.declared.rows.Member.{Member}
use Rattle.bank_policy.specs.declared.rows.User.{User}
use Rattle.bank_policy.specs.declared.rows.Relation.{Relation}
use Rattle.bank_policy.specs.declared.rows.Triple.{Triple}

-- the number of an account, a teller, a branch or a set
abbrev pub IsNumber : ℕ → Type 0
IsNumber number = (1 ≤ number) × (number ≤ max_key)

-- 1 to 20 bytes of printable ASCII, from the space (32) to the tilde (126)
pub record IsName (name : List ℕ) : Type 0 where
  pub some : 1 ≤ length name
  pub short : length name ≤ 20
  pub printable : All (λ byte. (32 ≤ byte) × (byte ≤ 126)) name

pub record IsUserSound (row : User) : Type 0 where
  pub low : 1 ≤ row.user
  pub high : row.user ≤ max_user
  pub named : IsName row.name

pub record IsMemberSound (member : Member) : Type 0 where
  pub low : 1 ≤ member.low
  pub ordered : member.low ≤ member.high
  pub high : member.high ≤ max_key

pub record IsSetSound (row : SetRow) : Type 0 where
  pub number : IsNumber row.set
  pub some : 1 ≤ length row.members
  pub few : length row.members ≤ 32
  pub members : All IsMemberSound row.members

pub record AreUsersSound (users : List User) : Type 0 where
  pub distinct : AreDistinct (map user_key users)
  pub each : All IsUserSound users

pub record AreSetsSound (sets : List SetRow) : Type 0 where
  pub distinct : AreDistinct (map set_key sets)
  pub few : length sets ≤ max_sets
  pub each : All IsSetSound sets

-- the first moment of a triple is not after its last, which is not after the greatest moment
pub record IsSpan (row : Triple) : Type 0 where
  pub ordered : row.first ≤ row.last
  pub within : row.last ≤ max_moment

-- the user is there
unfoldable pub IsUser : PolicyLists → ℕ → Type 0
IsUser policy user = HasRow user_key policy.users user

-- the set is there
unfoldable pub IsSet : PolicyLists → ℕ → Type 0
IsSet policy set = HasRow set_key policy.sets set

-- the procedure is certified on the set
unfoldable pub IsRelated : PolicyLists → Procedure → ℕ → Type 0
IsRelated policy procedure set = Any (λ row. (row.procedure ≡ procedure) × (row.set ≡ set)) policy.relations

-- at most 1,000 of one procedure
unfoldable pub HasFewOfEachProcedure : List Relation → Type 0
HasFewOfEachProcedure relations = (number : ℕ) → count_by (λ row. number_of row.procedure == number) relations ≤ max_relations

-- at most 1,000 of one user
unfoldable pub HasFewOfEachUser : List Triple → Type 0
HasFewOfEachUser triples = (user : ℕ) → count_by (λ row. row.user == user) triples ≤ max_triples

pub record AreRelationsSound (policy : PolicyLists) : Type 0 where
  pub distinct : AreDistinct (map relation_key policy.relations)
  pub numbers : All (λ row. IsNumber row.set) policy.relations
  pub few : HasFewOfEachProcedure policy.relations
  pub sets : All (λ row. IsSet policy row.set) policy.relations
  pub by : All (λ row. IsUser policy row.by) policy.relations

pub record AreTriplesSound (policy : PolicyLists) : Type 0 where
  pub distinct : AreDistinct (map triple_key policy.triples)
  pub numbers : All (λ row. IsNumber row.set) policy.triples
  pub few : HasFewOfEachUser policy.triples
  pub users : All (λ row. IsUser policy row.user) policy.triples
  pub relations : All (λ row. IsRelated policy row.procedure row.set) policy.triples
  pub limits : All (λ row. row.limit ≤ max_limit) policy.triples
  pub moments : All IsSpan policy.triples

pub record AreCertifiersSound (policy : PolicyLists) : Type 0 where
  pub distinct : AreDistinct (map certifier_key policy.certifiers)
  pub users : All (λ row. IsUser policy row.user) policy.certifiers

pub record IsPolicySound (policy : PolicyLists) : Type 0 where
  pub users : AreUsersSound policy.users
  pub sets : AreSetsSound policy.sets
  pub relations : AreRelationsSound policy
  pub triples : AreTriplesSound policy
  pub certifiers : AreCertifiersSound policy

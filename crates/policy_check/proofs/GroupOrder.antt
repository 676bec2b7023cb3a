-- Rows in order of their keys stand in order of their groups, since what follows the group in a key is small.
use Rattle.std.proofs.Common.{ℕ, ◌+◌, ◌*◌, ◌^◌, ◌≤◌, List, get_or, All, arith}
use Rattle.std.specs.List.Sorted.{IsNonDecreasingBy}
use Rattle.bank_policy.specs.PolicyKeys.{relation_key, triple_key}
use Rattle.bank_terms.specs.Procedure.{number_of}
use Rattle.bank_terms.proofs.Procedures.{at_most_thirteen}
use Rattle.policy_check.specs.Soundness.{IsNumber}
use Rattle.bank_policy.specs.declared.rows.Relation.{Relation}
use Rattle.bank_policy.specs.declared.rows.Triple.{Triple}

procedure_first : (p s q t : ℕ) → 2 ^ 32 * p + s ≤ 2 ^ 32 * q + t → t ≤ 999999999 → p ≤ q
procedure_first p s q t below small = omega arith

user_first : (u p s v q t : ℕ) → 2 ^ 64 * u + 2 ^ 32 * p + s ≤ 2 ^ 64 * v + 2 ^ 32 * q + t → q ≤ 13 → t ≤ 999999999 → u ≤ v
user_first u p s v q t below few small = omega arith

pub relations_by_procedure : (rows : List Relation) → All (λ row. IsNumber row.set) rows → IsNonDecreasingBy relation_key rows → IsNonDecreasingBy (λ row. number_of row.procedure) rows
relations_by_procedure rows numbers order i j d before below =
    procedure_first _ (get_or rows i d).set _ (get_or rows j d).set (order i j d before below) (numbers j d below).1

pub triples_by_user : (rows : List Triple) → All (λ row. IsNumber row.set) rows → IsNonDecreasingBy triple_key rows → IsNonDecreasingBy (λ row. row.user) rows
triples_by_user rows numbers order i j d before below =
    user_first _ (number_of (get_or rows i d).procedure) (get_or rows i d).set _ (number_of (get_or rows j d).procedure) (get_or rows j d).set
    (order i j d before below) (at_most_thirteen (get_or rows j d).procedure) (numbers j d below).1

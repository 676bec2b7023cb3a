use Rattle.std.proofs.Common.{subst}
use Rattle.std.specs.List.Sorted.{IsNonDecreasingBy}
use Rattle.bank_policy.specs.PolicyKeys.{set_key, user_key}
use Rattle.sql_adopt.proofs.whole_policy.policy_with.Goals as goal

pub from_rows-requires : goal.from_rows-requires
from_rows-requires c =
    let grants = c.are_grants_in_order.ensures.0 c.if-are_grants_in_order.true in
    record {
      users_in_order = subst (IsNonDecreasingBy user_key) c.deref.ensures.value (c.are_in_order.ensures.0 c.if-are_in_order.true);
      sets_in_order = subst (IsNonDecreasingBy set_key) c.deref-then-are_in_order.ensures.value (c.are_in_order-then-are_in_order.ensures.0 c.if-are_in_order-2.true);
      relations_in_order = grants.relations;
      triples_in_order = grants.triples;
      certifiers_in_order = grants.certifiers;
    }

use Rattle.std.proofs.Common.{subst, sym, ◌∙◌}
use Rattle.std.proofs.lemmas.Bool.{false≢true}
use Rattle.std.specs.List.Sorted.{IsNonDecreasingBy}
use Rattle.bank_policy.specs.PolicyKeys.{certifier_key, relation_key, triple_key}
use Rattle.sql_adopt.proofs.whole_policy.are_grants_in_order.Goals.{then-are_in_order, else-are_in_order}
use Rattle.sql_adopt.proofs.whole_policy.are_grants_in_order.Goals as goal

pub returns-then-are_in_order-2 : goal.returns-then-are_in_order-2
returns-then-are_in_order-2 c = elim c.if-are_in_order.branch [
  | then-are_in_order w ↦ (
    λ last. record {
      relations = subst (IsNonDecreasingBy relation_key) c.deref.ensures.value (c.are_in_order.ensures.0 w.if-are_in_order.true);
      triples = subst (IsNonDecreasingBy triple_key) w.deref-then-are_in_order.ensures.value (w.are_in_order-then-are_in_order.ensures.0 (sym w.value-is ∙ c.if-are_in_order-2.true));
      certifiers = subst (IsNonDecreasingBy certifier_key) c.deref-then-are_in_order-2.ensures.value (c.are_in_order-then-are_in_order-2.ensures.0 last);
    },
    λ all. c.are_in_order-then-are_in_order-2.ensures.1 (subst (IsNonDecreasingBy certifier_key) (sym c.deref-then-are_in_order-2.ensures.value) all.certifiers),
  )
  | else-are_in_order w ↦ absurd (false≢true (sym w.if-are_in_order.false ∙ sym w.value-is ∙ c.if-are_in_order-2.true))
]

pub returns-else-are_in_order-2 : goal.returns-else-are_in_order-2
returns-else-are_in_order-2 c = (
  λ is. absurd (false≢true (sym c.if-are_in_order-2.false ∙ is)),
  λ all. elim c.if-are_in_order.branch [
    | then-are_in_order w ↦ w.value-is ∙ w.are_in_order-then-are_in_order.ensures.1 (subst (IsNonDecreasingBy triple_key) (sym w.deref-then-are_in_order.ensures.value) all.triples)
    | else-are_in_order w ↦ w.value-is ∙ c.are_in_order.ensures.1 (subst (IsNonDecreasingBy relation_key) (sym c.deref.ensures.value) all.relations)
  ],
)

-- The list's order is what the test of neighbours asks for.
use Rattle.policy_check.proofs.references.has_distinct_relations.Goals as goal

pub returns : goal.returns
returns c = rw c.relations.ensures.value at (c.has_distinct_keys.ensures (rw c.relations.ensures.value c.relations.ensures.in_order))

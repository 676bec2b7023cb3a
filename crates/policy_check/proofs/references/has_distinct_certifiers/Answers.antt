-- The list's order is what the test of neighbours asks for.
use Rattle.policy_check.proofs.references.has_distinct_certifiers.Goals as goal

pub returns : goal.returns
returns c = rw c.certifiers.ensures.value at (c.has_distinct_keys.ensures (rw c.certifiers.ensures.value c.certifiers.ensures.in_order))

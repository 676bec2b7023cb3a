-- The list's order is what the test of neighbours asks for.
use Rattle.policy_check.proofs.references.has_distinct_triples.Goals as goal

pub returns : goal.returns
returns c = rw c.triples.ensures.value at (c.has_distinct_keys.ensures (rw c.triples.ensures.value c.triples.ensures.in_order))

use Rattle.std.proofs.Common.{◌∙◌}
use Rattle.store_cached.proofs.policy_cache.PolicyCache.remember_triples.Goals as goal

pub returns-clause-fresh : goal.returns-clause-fresh
returns-clause-fresh c = λ w fresh present some rows. c.remember.ensures.fresh w fresh present (some, c.in_ok-lent.ensures.cases ∙ rows)

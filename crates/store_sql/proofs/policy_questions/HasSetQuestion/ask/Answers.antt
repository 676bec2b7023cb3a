use Rattle.std.proofs.Common.{◌∙◌}
use Rattle.store_sql.proofs.PolicyLemmas.{any-mapped}
use Rattle.store_sql.proofs.StepsLemmas.{read_found}
use Rattle.store_sql.proofs.policy_questions.HasSetQuestion.ask.Goals as goal

pub returns-clause-reads : goal.returns-clause-reads
returns-clause-reads g c = read_found _ c.is_set.ensures.reads c.is_set.ensures.found (λ w can there is. is ∙ any-mapped _ _ w.policy.sets)

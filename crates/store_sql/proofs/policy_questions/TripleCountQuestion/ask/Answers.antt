use Rattle.std.proofs.Common.{◌∙◌}
use Rattle.std.proofs.lemmas.List.Sums.{length-filter}
use Rattle.store_sql.proofs.StepsLemmas.{read_found}
use Rattle.store_sql.proofs.policy_questions.TripleCountQuestion.ask.Goals as goal

pub returns-clause-reads : goal.returns-clause-reads
returns-clause-reads g c = read_found _ c.triple_count.ensures.reads c.triple_count.ensures.found (λ w can n is. is ∙ length-filter _ w.policy.triples)

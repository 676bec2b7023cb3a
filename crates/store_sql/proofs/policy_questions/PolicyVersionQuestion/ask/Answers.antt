use Rattle.store_sql.proofs.StepsLemmas.{read_found}
use Rattle.store_sql.proofs.policy_questions.PolicyVersionQuestion.ask.Goals as goal

pub returns-clause-reads : goal.returns-clause-reads
returns-clause-reads g c = read_found _ c.version_of.ensures.reads c.version_of.ensures.found (λ w can n is. is)

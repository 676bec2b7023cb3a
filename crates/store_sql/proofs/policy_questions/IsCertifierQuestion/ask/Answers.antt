use Rattle.store_sql.proofs.StepsLemmas.{read_found}
use Rattle.store_sql.proofs.policy_questions.IsCertifierQuestion.ask.Goals as goal

pub returns-clause-reads : goal.returns-clause-reads
returns-clause-reads g c = read_found _ c.is_certifier.ensures.reads c.is_certifier.ensures.found (λ w can there is. is)

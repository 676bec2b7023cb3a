use Rattle.store_sql.proofs.PolicyLemmas.{user_is}
use Rattle.store_sql.proofs.StepsLemmas.{made_of, read_refused}
use Rattle.store_sql.proofs.policy_questions.UserRowQuestion.ask.Goals as goal

pub returns-in_err-user_of-clause-reads : goal.returns-in_err-user_of-clause-reads
returns-in_err-user_of-clause-reads g c = read_refused c.from_residual.ensures.0 c.user_of.ensures.reads

pub returns-clause-reads : goal.returns-clause-reads
returns-clause-reads g c = made_of _ c.user_of.ensures.reads c.user_of.ensures.found c.in_ok-user_of.was
    (λ w can is. user_is w c.args.self.now.user can c.in_ok-user_of.field-0 c.record_of.result c.record_of.ensures is)

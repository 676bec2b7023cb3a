use Rattle.std.proofs.Common.{◌∙◌, arith}
use Rattle.store_sql.proofs.PolicyLemmas.{release_is}
use Rattle.store_sql.proofs.StepsLemmas.{read_found}
use Rattle.store_sql.proofs.policy_questions.ReleaseRowQuestion.ask.Goals as goal

pub returns-clause-reads : goal.returns-clause-reads
returns-clause-reads g c = read_found _ c.release_of.ensures.reads c.release_of.ensures.found (λ w can row is. is ∙ release_is w c.args.self.now.user c.args.self.now.number (omega arith) can)

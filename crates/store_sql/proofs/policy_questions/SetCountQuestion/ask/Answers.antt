use Rattle.std.proofs.Common.{◌∙◌}
use Rattle.sql_schema.proofs.KeyTests.{length-mapped}
use Rattle.store_sql.proofs.StepsLemmas.{read_found}
use Rattle.store_sql.proofs.policy_questions.SetCountQuestion.ask.Goals as goal

pub returns-clause-reads : goal.returns-clause-reads
returns-clause-reads g c = read_found _ c.set_count.ensures.reads c.set_count.ensures.found (λ w can n is. is ∙ length-mapped _ w.policy.sets)

use Rattle.std.proofs.Common.{◌∙◌, arith}
use Rattle.store_sql.proofs.SlipLemmas.{slip_is}
use Rattle.store_sql.proofs.StepsLemmas.{read_found}
use Rattle.store_sql.proofs.slip_questions.SlipOfQuestion.ask.Goals as goal

pub returns-clause-reads : goal.returns-clause-reads
returns-clause-reads g c = read_found _ c.slip_of.ensures.reads c.slip_of.ensures.found (λ w can row is. is ∙ slip_is w c.args.self.now.user c.args.self.now.number (omega arith) can)

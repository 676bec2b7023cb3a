use Rattle.store_sql.proofs.SlipLemmas.{slips_are}
use Rattle.store_sql.proofs.StepsLemmas.{made_of, read_refused}
use Rattle.store_sql.proofs.slip_questions.SlipsOfQuestion.ask.Goals as goal

pub returns-in_err-slip_count_of-clause-reads : goal.returns-in_err-slip_count_of-clause-reads
returns-in_err-slip_count_of-clause-reads g c = read_refused c.from_residual.ensures.0 c.slip_count_of.ensures.reads

pub returns-clause-reads : goal.returns-clause-reads
returns-clause-reads g c = made_of _ c.slip_count_of.ensures.reads c.slip_count_of.ensures.found c.in_ok-slip_count_of.was
    (λ w can is. slips_are w c.args.self.now.user can c.in_ok-slip_count_of.field-0 c.slips_in.result c.slips_in.ensures is)

use Rattle.std.proofs.Common.{◌∙◌}
use Rattle.store_sql.proofs.ReportLemmas.{entry_at_is}
use Rattle.store_sql.proofs.StepsLemmas.{read_found}
use Rattle.store_sql.proofs.report_questions.EntryAtQuestion.ask.Goals as goal

pub returns-clause-reads : goal.returns-clause-reads
returns-clause-reads g c = read_found _ c.entry_at.ensures.reads c.entry_at.ensures.found (λ w can row is. is ∙ entry_at_is w c.args.self.now.account c.args.self.now.turn)

use Rattle.std.proofs.Common.{◌∙◌}
use Rattle.book_kept.proofs.PlainKept.{rows_determine_answers}
use Rattle.store_sql.proofs.StepsLemmas.{read_found}
use Rattle.store_sql.proofs.book_questions.AccountRowQuestion.ask.Goals as goal

pub returns-clause-reads : goal.returns-clause-reads
returns-clause-reads g c = read_found _ c.account_of.ensures.reads c.account_of.ensures.found (λ w can row is. is ∙ (rows_determine_answers w c.args.self.now.account can).account)

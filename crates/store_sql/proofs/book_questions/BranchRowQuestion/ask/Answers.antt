use Rattle.std.proofs.Common.{◌∙◌}
use Rattle.book_kept.proofs.PlainKept.{rows_determine_answers}
use Rattle.store_sql.proofs.StepsLemmas.{read_found}
use Rattle.store_sql.proofs.book_questions.BranchRowQuestion.ask.Goals as goal

pub returns-clause-reads : goal.returns-clause-reads
returns-clause-reads g c = read_found _ c.branch_of.ensures.reads c.branch_of.ensures.found (λ w can row is. is ∙ (rows_determine_answers w c.args.self.now.branch can).branch)

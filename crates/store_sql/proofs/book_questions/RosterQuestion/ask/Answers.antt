use Rattle.std.proofs.Common.{◌∙◌}
use Rattle.std.proofs.lemmas.Result.{IfOk-weaker}
use Rattle.world_reads.specs.BookReads.{roster}
use Rattle.store_sql.proofs.BookLemmas.{roster_holders, roster_kept}
use Rattle.store_sql.proofs.StepsLemmas.{made_of, read_refused}
use Rattle.store_sql.proofs.book_questions.RosterQuestion.ask.Goals as goal

pub returns-in_err-kept-clause-reads : goal.returns-in_err-kept-clause-reads
returns-in_err-kept-clause-reads g c = read_refused c.from_residual.ensures.0 c.roster.ensures.reads

pub returns-clause-reads : goal.returns-clause-reads
returns-clause-reads g c = made_of _ c.roster.ensures.reads c.roster.ensures.found c.in_ok-kept.was
    (λ w can is. IfOk-weaker c.records_of.result _ _ (λ list made. made (roster w c.args.self.now.branch) (c.deref.ensures.value ∙ is ∙ roster_kept w c.args.self.now.branch) (roster_holders w c.args.self.now.branch can)) c.records_of.ensures)

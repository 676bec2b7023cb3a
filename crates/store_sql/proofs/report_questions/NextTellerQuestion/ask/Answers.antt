use Rattle.std.proofs.Common.{◌∙◌}
use Rattle.world_reads.specs.BookReads.{next_teller}
use Rattle.store_sql.proofs.ReportLemmas.{next_teller_held, next_teller_is}
use Rattle.store_sql.proofs.StepsLemmas.{made_of, read_refused}
use Rattle.store_sql.proofs.report_questions.NextTellerQuestion.ask.Goals as goal

pub returns-in_err-found-clause-reads : goal.returns-in_err-found-clause-reads
returns-in_err-found-clause-reads g c = read_refused c.from_residual.ensures.0 c.next_teller.ensures.reads

pub returns-clause-reads : goal.returns-clause-reads
returns-clause-reads g c = made_of _ c.next_teller.ensures.reads c.next_teller.ensures.found c.in_ok-found.was
    (let it = c.args.self.now in λ w can is. c.record_of.ensures (next_teller w it.branch it.after) (is ∙ next_teller_is w it.branch it.after) (next_teller_held w it.branch it.after can))

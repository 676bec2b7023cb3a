use Rattle.std.proofs.Common.{◌∙◌}
use Rattle.store_sql.proofs.ReportLemmas.{entries_are}
use Rattle.store_sql.proofs.StepsLemmas.{read_after, read_refused}
use Rattle.store_sql.proofs.report_questions.EntriesOfQuestion.ask.Goals as goal

pub returns-in_err-version_of-clause-reads : goal.returns-in_err-version_of-clause-reads
returns-in_err-version_of-clause-reads g c = read_refused c.from_residual.ensures.0 c.version_of.ensures.reads

pub returns-clause-reads : goal.returns-clause-reads
returns-clause-reads g c =
    let it = c.args.self.now in
    read_after _ _ c.version_of.ensures.reads (λ clean inside. c.version_of.ensures.found clean) c.in_ok-version_of.was c.entries_from.ensures.step c.entries_from.ensures.listed (λ clean. (c.entries_from.ensures.open clean).1)
    (λ w can _ rows is. is ∙ entries_are w it.account it.start it.count)

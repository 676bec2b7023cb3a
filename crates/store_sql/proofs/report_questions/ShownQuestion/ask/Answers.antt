use Rattle.std.proofs.Common.{◌∙◌, ap}
use Rattle.bank_policy.specs.HeldRows.{triples_of}
use Rattle.bank_policy.specs.Tests.{current}
use Rattle.bank_terms.specs.declared.procedure.Procedure.TheVariants as procedure
use Rattle.book_kept.specs.Sheets.{sheets_of}
use Rattle.sql_policy.proofs.WorldLemmas.{triples_of_world}
use Rattle.store_sql.proofs.ShownLemmas.{above, above_of}
use Rattle.store_sql.proofs.StepsLemmas.{read_after, read_refused}
use Rattle.store_sql.proofs.report_questions.ShownQuestion.ask.Goals as goal

pub returns-in_err-triples-clause-reads : goal.returns-in_err-triples-clause-reads
returns-in_err-triples-clause-reads g c = read_refused c.from_residual.ensures.0 c.accounts_triples.ensures.reads

pub returns-clause-reads : goal.returns-clause-reads
returns-clause-reads g c =
    let it = c.args.self.now in
    read_after _ _ c.accounts_triples.ensures.reads c.accounts_triples.ensures.found c.in_ok-triples.was c.held_above.ensures.step c.held_above.ensures.found c.held_above.ensures.open
    (λ w can held rows is.
    is ∙ ap (λ l. above (sheets_of w).accounts l it.after it.count) (c.deref.ensures.value ∙ held ∙ ap (current it.moment) (triples_of_world w can.policy.sets.distinct it.user procedure.Accounts))
    ∙ above_of w (current it.moment (triples_of w.policy it.user procedure.Accounts)) it.after it.count)

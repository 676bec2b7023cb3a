use Rattle.std.proofs.Common.{◌∙◌, ap, find}
use Rattle.bank_policy.specs.Tests.{current}
use Rattle.bank_terms.specs.declared.procedure.Procedure.TheVariants as procedure
use Rattle.bank_books.specs.Records.{account_record_of}
use Rattle.book_kept.specs.Sheets.{sheets_of}
use Rattle.book_kept.proofs.RowLemmas.{find-map}
use Rattle.sql_policy.proofs.WorldLemmas.{triples_of_world}
use Rattle.store_sql.specs.LeastShown.{is_held_above}
use Rattle.store_sql.proofs.StepsLemmas.{read_after, read_refused}
use Rattle.store_sql.proofs.report_questions.NextShownQuestion.ask.Goals as goal

pub returns-in_err-held-clause-reads : goal.returns-in_err-held-clause-reads
returns-in_err-held-clause-reads g c = read_refused c.from_residual.ensures.0 c.accounts_triples.ensures.reads

pub returns-clause-reads : goal.returns-clause-reads
returns-clause-reads g c =
    let it = c.args.self.now in
    read_after _ _ c.accounts_triples.ensures.reads c.accounts_triples.ensures.found c.in_ok-held.was c.least_of.ensures.step c.least_of.ensures.found c.least_of.ensures.open
    (λ w can held row is.
    is ∙ ap (λ l. find (is_held_above l it.after) (sheets_of w).accounts) (c.deref.ensures.value ∙ held ∙ ap (current it.moment) (triples_of_world w can.policy.sets.distinct it.user procedure.Accounts))
    ∙ find-map _ (account_record_of w) w.accounts)

use Rattle.std.proofs.Common.{◌∙◌, ◌==◌, ◌&&◌, not, ap}
use Rattle.bank_books.specs.Records.{entry_record_of}
use Rattle.sql_books.specs.Picks.{undoes_entry}
use Rattle.store_sql.proofs.PolicyLemmas.{any-mapped}
use Rattle.store_sql.proofs.StepsLemmas.{made_of, read_refused}
use Rattle.store_sql.proofs.book_questions.IsUndoneQuestion.ask.Goals as goal

pub returns-in_err-found-clause-reads : goal.returns-in_err-found-clause-reads
returns-in_err-found-clause-reads g c = read_refused c.from_residual.ensures.0 c.is_undone.ensures.reads

pub returns-clause-reads : goal.returns-clause-reads
returns-clause-reads g c = made_of _ c.is_undone.ensures.reads c.is_undone.ensures.found c.in_ok-found.was
    (λ w can is. c.is_of_one.ensures ∙ ap (λ b. not (c.args.self.now.number == 0) && b) (is ∙ any-mapped (entry_record_of w) (undoes_entry c.args.self.now.branch c.args.self.now.number) w.entries))

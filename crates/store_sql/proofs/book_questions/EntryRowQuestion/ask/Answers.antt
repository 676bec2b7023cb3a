use Rattle.std.proofs.Common.{◌∙◌, ap}
use Rattle.std.specs.Prelude.{option_map}
use Rattle.bank_books.specs.declared.records.EntryRecord.{EntryRecord}
use Rattle.store_sql.proofs.BookLemmas.{entry_is}
use Rattle.store_sql.proofs.StepsLemmas.{made_of, read_refused}
use Rattle.store_sql.proofs.book_questions.EntryRowQuestion.ask.Goals as goal

pub returns-in_err-entry_of-clause-reads : goal.returns-in_err-entry_of-clause-reads
returns-in_err-entry_of-clause-reads g c = read_refused c.from_residual.ensures.0 c.entry_of.ensures.reads

pub returns-clause-reads : goal.returns-clause-reads
returns-clause-reads g c = made_of _ c.entry_of.ensures.reads c.entry_of.ensures.found c.in_ok-entry_of.was
    (λ w can is. c.row_of.ensures ∙ ap (option_map (λ (e : EntryRecord). e.row)) is ∙ entry_is w c.args.self.now.branch c.args.self.now.number)

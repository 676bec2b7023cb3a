use Rattle.std.proofs.Common.{◌∙◌}
use Rattle.bank_books.specs.Records.{teller_record}
use Rattle.book_kept.proofs.PlainKept.{rows_determine_answers}
use Rattle.store_sql.proofs.StepsLemmas.{made_of, read_refused}
use Rattle.store_sql.proofs.book_questions.TellerRowQuestion.ask.Goals as goal

pub returns-in_err-teller_of-clause-reads : goal.returns-in_err-teller_of-clause-reads
returns-in_err-teller_of-clause-reads g c = read_refused c.from_residual.ensures.0 c.teller_of.ensures.reads

pub returns-clause-reads : goal.returns-clause-reads
returns-clause-reads g c = made_of _ c.teller_of.ensures.reads c.teller_of.ensures.found c.in_ok-teller_of.was
    (λ w can is. let stated = rows_determine_answers w c.args.self.now.teller can in c.record_of.ensures (teller_record w c.args.self.now.teller) (is ∙ stated.teller) stated.holder)

use Rattle.std.proofs.Common.{◌∙◌, ap}
use Rattle.std.specs.Prelude.{option_map}
use Rattle.bank_books.specs.declared.records.BranchRecord.{BranchRecord}
use Rattle.book_kept.proofs.PlainKept.{rows_determine_answers}
use Rattle.store_sql.proofs.StepsLemmas.{made_of, read_refused}
use Rattle.store_sql.proofs.book_questions.VaultCashQuestion.ask.Goals as goal

pub returns-in_err-branch_of-clause-reads : goal.returns-in_err-branch_of-clause-reads
returns-in_err-branch_of-clause-reads g c = read_refused c.from_residual.ensures.0 c.branch_of.ensures.reads

pub returns-clause-reads : goal.returns-clause-reads
returns-clause-reads g c = made_of _ c.branch_of.ensures.reads c.branch_of.ensures.found c.in_ok-branch_of.was
    (λ w can is. c.vault_of.ensures ∙ ap (option_map (λ (row : BranchRecord). row.vault)) (is ∙ (rows_determine_answers w c.args.self.now.branch can).branch))

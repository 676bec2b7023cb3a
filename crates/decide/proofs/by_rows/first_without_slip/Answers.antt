use Rattle.std.proofs.Common.{ap, sym, ◌∙◌}
use Rattle.bank_meaning.specs.Meaning.{by_books}
use Rattle.bank_meaning.specs.Operations.{meaning_of}
use Rattle.decide.proofs.LoadedRows.{denied_by_policy, denied_by_books}
use Rattle.decide.proofs.by_rows.first_without_slip.Goals as goal

pub returns-in-Some : goal.returns-in-Some
returns-in-Some c = λ w loaded. denied_by_policy w c.args.execution.now c.args.rows.now c.in-Some.rule loaded (sym c.first_of_policy.ensures ∙ c.in-Some.is)

pub returns-in-None : goal.returns-in-None
returns-in-None c =
    λ w loaded.
    denied_by_books w c.args.execution.now c.args.rows.now c.first_of_books.result loaded (sym c.first_of_policy.ensures ∙ c.in-None.is)
    (c.first_of_books.ensures w loaded.books ∙ ap (λ by. (by_books (meaning_of c.args.execution.now.op by w)).first) c.signature.ensures)

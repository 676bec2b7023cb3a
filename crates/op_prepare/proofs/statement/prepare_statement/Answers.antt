use Rattle.std.proofs.Common.{◌≡◌, None, rules}
use Rattle.bank_meaning.specs.Statement.{first_against_statement}
use Rattle.op_prepare.proofs.CountedDenials.{read_counted, rows_allow}
use Rattle.op_prepare.proofs.statement.prepare_statement.Goals as goal

pub returns-in_err-row-clause-denied : goal.returns-in_err-row-clause-denied
returns-in_err-row-clause-denied g c = λ honest w holds some. read_counted _ _ _ c.in_err-row.ensures.counted

pub returns-in_err-contents-clause-denied : goal.returns-in_err-contents-clause-denied
returns-in_err-contents-clause-denied g c = λ honest w holds some.
    let none : first_against_statement c.in_ok-row.row ≡ None = search rules in
    rows_allow first_against_statement _ _ (c.in_ok-row.ensures.stated (c.counted.ensures.counted.kept.answers.honest honest) w holds) none some

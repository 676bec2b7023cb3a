use Rattle.std.proofs.Common.{◌≡◌, None, rules}
use Rattle.bank_meaning.specs.Balance.{first_against_balance}
use Rattle.op_prepare.proofs.CountedDenials.{read_counted, rows_allow}
use Rattle.op_prepare.proofs.balance.prepare_balance.Goals as goal

pub returns-in_err-row-clause-denied : goal.returns-in_err-row-clause-denied
returns-in_err-row-clause-denied g c = λ honest w holds some. read_counted _ _ _ c.in_err-row.ensures.counted

pub returns-in_err-text-in-Ok-clause-denied : goal.returns-in_err-text-in-Ok-clause-denied
returns-in_err-text-in-Ok-clause-denied g c = λ honest w holds some.
    let none : first_against_balance c.in_ok-row.row ≡ None = search rules in
    rows_allow first_against_balance _ _ (c.in_ok-row.ensures.stated honest w holds) none some

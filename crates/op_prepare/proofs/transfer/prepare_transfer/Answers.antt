use Rattle.std.proofs.Common.{refl}
use Rattle.postings.specs.Transfer.{first_against_transfer}
use Rattle.op_prepare.proofs.CountedDenials.{not_denied, read_counted, rows_allow}
use Rattle.op_prepare.proofs.transfer.prepare_transfer.Goals as goal

pub returns-in_err-rows-clause-denied : goal.returns-in_err-rows-clause-denied
returns-in_err-rows-clause-denied g c = λ honest w holds some. read_counted _ _ _ c.in_err-rows.ensures.counted

pub returns-in_err-planned-clause-denied : goal.returns-in_err-planned-clause-denied
returns-in_err-planned-clause-denied g c = λ honest w holds some.
    rows_allow (λ rows. first_against_transfer rows c.args.transfer.now c.args.by) _ _ (c.in_ok-rows.ensures.stated honest w holds) (not_denied _ _ _ refl c.in_err-planned.ensures.denied) some

pub returns-in_err-text-in-Ok-clause-denied : goal.returns-in_err-text-in-Ok-clause-denied
returns-in_err-text-in-Ok-clause-denied g c = λ honest w holds some.
    let planned = rw c.in-Ok.is at c.in_ok-planned.ensures.planned in
    rows_allow (λ rows. first_against_transfer rows c.args.transfer.now c.args.by) _ _ (c.in_ok-rows.ensures.stated honest w holds) planned.allowed some

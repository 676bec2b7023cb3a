use Rattle.std.proofs.Common.{◌≡◌, None, rules}
use Rattle.bank_meaning.specs.Release.{first_against_release}
use Rattle.op_prepare.proofs.CountedDenials.{read_counted, rows_allow}
use Rattle.op_prepare.proofs.release.prepare_release.Goals as goal

pub returns-in_err-rows-clause-denied : goal.returns-in_err-rows-clause-denied
returns-in_err-rows-clause-denied g c = λ honest w holds some. read_counted _ _ _ c.in_err-rows.ensures.counted

pub returns-in_err-plan-clause-denied : goal.returns-in_err-plan-clause-denied
returns-in_err-plan-clause-denied g c = λ honest w holds some.
    let none : first_against_release c.in_ok-rows.rows c.args.form.now c.args.by ≡ None = search rules in
    rows_allow (λ rows. first_against_release rows c.args.form.now c.args.by) _ _ (c.in_ok-rows.ensures.stated honest w holds) none some

pub returns-in_err-text-clause-denied : goal.returns-in_err-text-clause-denied
returns-in_err-text-clause-denied g c = λ honest w holds some.
    let none : first_against_release c.in_ok-rows.rows c.args.form.now c.args.by ≡ None = search rules in
    rows_allow (λ rows. first_against_release rows c.args.form.now c.args.by) _ _ (c.in_ok-rows.ensures.stated honest w holds) none some

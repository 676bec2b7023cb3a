use Rattle.std.proofs.Common.{rules, ◌≡◌, None, ◌∙◌}
use Rattle.bank_policy.specs.HeldRows.{standing}
use Rattle.bank_meaning.specs.Sessions.{first_against_opening}
use Rattle.op_prepare.proofs.CountedDenials.{none_denies, read_counted}
use Rattle.decide.proofs.CountedDenials.{opening_is}
use Rattle.decide.proofs.sessions.prepare_opening.Goals as goal

pub returns-in_err-standing-clause-denied : goal.returns-in_err-standing-clause-denied
returns-in_err-standing-clause-denied g c = λ honest w holds some. read_counted _ _ _ c.in_err-standing.ensures.counted

pub returns-in_err-plan-in-Ok-clause-denied : goal.returns-in_err-plan-in-Ok-clause-denied
returns-in_err-plan-in-Ok-clause-denied g c = λ honest w holds some.
    let is : c.in_ok-standing.standing ≡ standing w.policy c.args.user = search rules in
    let allowed : first_against_opening c.in_ok-standing.standing ≡ None = search rules in
    none_denies _ (opening_is w c.args.user c.in_ok-standing.standing is ∙ allowed) some

pub returns-in_err-text-in-Ok-clause-denied : goal.returns-in_err-text-in-Ok-clause-denied
returns-in_err-text-in-Ok-clause-denied g c = λ honest w holds some.
    let is : c.in_ok-standing.standing ≡ standing w.policy c.args.user = search rules in
    let allowed : first_against_opening c.in_ok-standing.standing ≡ None = search rules in
    none_denies _ (opening_is w c.args.user c.in_ok-standing.standing is ∙ allowed) some

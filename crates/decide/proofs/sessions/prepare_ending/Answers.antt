use Rattle.std.proofs.Common.{rules, ◌≡◌, None, ◌∙◌}
use Rattle.bank_policy.specs.HeldRows.{standing}
use Rattle.bank_meaning.specs.Sessions.{first_against_ending}
use Rattle.op_prepare.proofs.CountedDenials.{none_denies, read_counted}
use Rattle.decide.proofs.CountedDenials.{ending_is}
use Rattle.decide.proofs.sessions.prepare_ending.Goals as goal

-- what search finds for itself, asked for here so that a mutant is refused soon
pub returns-in_ok-text-in-Ok-clause-judged : goal.returns-in_ok-text-in-Ok-clause-judged
returns-in_ok-text-in-Ok-clause-judged g c = search rules

pub returns-in_err-standing-clause-denied : goal.returns-in_err-standing-clause-denied
returns-in_err-standing-clause-denied g c = λ honest w holds some. read_counted _ _ _ c.in_err-standing.ensures.counted

pub returns-in_err-plan-in-Ok-clause-denied : goal.returns-in_err-plan-in-Ok-clause-denied
returns-in_err-plan-in-Ok-clause-denied g c = λ honest w holds some.
    let is : c.in_ok-standing.standing ≡ standing w.policy c.in-Some.user = search rules in
    let allowed : first_against_ending c.in_ok-standing.standing c.args.who.session ≡ None = search rules in
    none_denies _ (ending_is w c.args.who c.in-Some.user c.in_ok-standing.standing c.in-Some.is is ∙ allowed) some

pub returns-in_err-text-in-Ok-clause-denied : goal.returns-in_err-text-in-Ok-clause-denied
returns-in_err-text-in-Ok-clause-denied g c = λ honest w holds some.
    let is : c.in_ok-standing.standing ≡ standing w.policy c.in-Some.user = search rules in
    let allowed : first_against_ending c.in_ok-standing.standing c.args.who.session ≡ None = search rules in
    none_denies _ (ending_is w c.args.who c.in-Some.user c.in_ok-standing.standing c.in-Some.is is ∙ allowed) some

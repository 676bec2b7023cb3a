use Rattle.bank_meaning.specs.Requests.{commands}
use Rattle.decide.proofs.CountedDenials.{carried_denied}
use Rattle.decide.proofs.commands.decide_policy.Goals as goal

pub returns-clause-denied : goal.returns-clause-denied
returns-clause-denied g c = carried_denied _ _ _ (commands c.args.command c.args.who) _ _ c.in_ok-judged.ensures.judged c.carry_out_prepared.ensures

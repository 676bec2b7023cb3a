use Rattle.bank_meaning.specs.Requests.{ends_session}
use Rattle.decide.proofs.CountedDenials.{carried_denied}
use Rattle.decide.proofs.sessions.end.Goals as goal

pub returns-clause-denied : goal.returns-clause-denied
returns-clause-denied g c = carried_denied _ _ _ (ends_session c.args.who) _ _ c.in_ok-judged.ensures.judged c.carry_out_prepared.ensures

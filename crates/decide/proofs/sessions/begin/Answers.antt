use Rattle.std.proofs.Common.{Some}
use Rattle.bank_meaning.specs.Requests.{opens_session}
use Rattle.decide.proofs.CountedDenials.{carried_denied}
use Rattle.decide.proofs.sessions.begin.Goals as goal

pub returns-clause-denied : goal.returns-clause-denied
returns-clause-denied g c = rw c.in-Some.is (carried_denied _ _ _ (opens_session (Some c.in-Some.user)) _ _ c.in_ok-judged.ensures.judged c.carry_out_prepared.ensures)

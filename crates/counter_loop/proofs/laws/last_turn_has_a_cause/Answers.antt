use Rattle.counter_loop.proofs.CauseLemmas.{ended_so, not_both}
use Rattle.counter_loop.proofs.laws.last_turn_has_a_cause.Goals as goal

pub returns-clause-ended : goal.returns-clause-ended
returns-clause-ended g c = λ before next old new t. ended_so g.S.StoreState.status (g.G.Gate.users c.args._gate.now) g.C.Clock.may_give before next old new t

pub returns-clause-apart : goal.returns-clause-apart
returns-clause-apart g c = λ before old new t. not_both g.S.StoreState.status (g.G.Gate.users c.args._gate.now) g.C.Clock.may_give before old new t

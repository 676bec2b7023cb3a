-- By the exits of the loop.
use Rattle.counter_api.proofs.CounterLemmas.{counter_exits}
use Rattle.counter_api.proofs.service.serve.Goals as goal

pub returns-clause-exit : goal.returns-clause-exit
returns-clause-exit g c = (counter_exits g.S.StoreState.status g.G.Gate.users g.C.Clock.may_give c.args.most _ _ c.serve_messages.result c.serve_messages.ensures.exit).0

pub returns-clause-same_users : goal.returns-clause-same_users
returns-clause-same_users g c = (counter_exits g.S.StoreState.status g.G.Gate.users g.C.Clock.may_give c.args.most _ _ c.serve_messages.result c.serve_messages.ensures.exit).1

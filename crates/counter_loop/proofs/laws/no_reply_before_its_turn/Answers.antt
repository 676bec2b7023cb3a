use Rattle.counter_loop.proofs.BeforeLemmas.{gone_out}
use Rattle.counter_loop.proofs.laws.no_reply_before_its_turn.Goals as goal

pub returns : goal.returns
returns g c = λ old new turns after are n k. gone_out g.T.TwoWay.begins g.S.StoreState.status (g.G.Gate.users c.args._gate.now) g.C.Clock.may_give old new turns after are n k

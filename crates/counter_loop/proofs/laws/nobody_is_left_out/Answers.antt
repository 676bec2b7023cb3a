use Rattle.counter_loop.specs.Boxes.{IsRefused, WasLetGo}
use Rattle.counter_loop.specs.Rounds.{any_reading}
use Rattle.counter_loop.proofs.LeftOutLemmas.{nobody_left_out}
use Rattle.counter_loop.proofs.laws.nobody_is_left_out.Goals as goal

pub returns : goal.returns
returns g c = λ a b old new is. nobody_left_out g.T.TwoWay.begins g.T.TwoWay.ways g.T.TwoWay.full g.T.TwoWay.failed (IsRefused g.T.TwoWay.ways g.T.TwoWay.full g.T.TwoWay.failed)
    (WasLetGo g.T.TwoWay.ways g.T.TwoWay.full g.T.TwoWay.failed) any_reading g.S.StoreState.status (g.G.Gate.users c.args._gate.now) g.C.Clock.may_give a b old new is

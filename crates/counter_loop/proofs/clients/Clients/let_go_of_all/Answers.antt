-- Key after key.
use Rattle.std.proofs.Common.{arith}
use Rattle.counter_loop.proofs.SuitLemmas.{parted_up_to_all, parted_up_to_next, parted_up_to_none}
use Rattle.counter_loop.proofs.clients.Clients.let_go_of_all.Goals as goal

pub loop-key-init : goal.loop-key-init
loop-key-init g c = parted_up_to_none g.T.TwoWay.begins g.T.TwoWay.ways g.T.TwoWay.full g.T.TwoWay.failed c.args.self.now

pub loop-key-preserved : goal.loop-key-preserved
loop-key-preserved g c = parted_up_to_next g.T.TwoWay.begins g.T.TwoWay.ways g.T.TwoWay.full g.T.TwoWay.failed c.loop-key.key c.args.self.now c.loop-key.self _ c.loop-key.invariant c.let_go.ensures.gone c.let_go.ensures.next c.let_go.ensures.parted

pub returns : goal.returns
returns g c = parted_up_to_all g.T.TwoWay.begins g.T.TwoWay.ways g.T.TwoWay.full g.T.TwoWay.failed c.loop-key.key c.args.self.now _ (omega (arith, c.capacity-key-end.ensures.slots)) c.loop-key.invariant

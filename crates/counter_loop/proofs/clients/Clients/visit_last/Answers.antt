-- Key after key.
use Rattle.std.proofs.Common.{arith}
use Rattle.counter_loop.proofs.ServedLemmas.{up_to_all, up_to_none, visited_next}
use Rattle.counter_loop.proofs.clients.Clients.visit_last.Goals as goal

pub loop-key-init : goal.loop-key-init
loop-key-init g c = up_to_none g.T.TwoWay.begins g.T.TwoWay.ways g.T.TwoWay.used_up g.T.TwoWay.full g.T.TwoWay.failed c.args.now g.E.Service.status g.E.Service.users g.E.Service.may_give _ c.args.self.now _

pub loop-key-preserved : goal.loop-key-preserved
loop-key-preserved g c = visited_next g.T.TwoWay.begins g.T.TwoWay.ways g.T.TwoWay.used_up g.T.TwoWay.full g.T.TwoWay.failed c.args.now g.E.Service.status g.E.Service.users g.E.Service.may_give c.loop-key.key _ c.args.self.now c.loop-key.self _ _ _ _ c.loop-key.invariant (λ client got. tt) c.visit.ensures

pub returns : goal.returns
returns g c = up_to_all g.T.TwoWay.begins g.T.TwoWay.ways g.T.TwoWay.used_up g.T.TwoWay.full g.T.TwoWay.failed c.args.now g.E.Service.status g.E.Service.users g.E.Service.may_give c.loop-key.key _ c.args.self.now _ _ _ (omega (arith, c.capacity-key-end.ensures.slots)) c.loop-key.invariant

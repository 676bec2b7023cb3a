-- One connection was visited, and the others stay as they were.
use Rattle.std.proofs.Common.{refl, rules, sym}
use Rattle.counter_loop.proofs.ServedLemmas.{gone, nobody_there, there}
use Rattle.counter_loop.proofs.clients.Clients.visit.Goals as goal

pub returns-in_default : goal.returns-in_default
returns-in_default g c = nobody_there g.T.TwoWay.begins g.T.TwoWay.ways g.T.TwoWay.used_up g.T.TwoWay.full g.T.TwoWay.failed c.args.now g.E.Service.status g.E.Service.users g.E.Service.may_give c.args.key c.args.self.now _ (search rules)

pub returns-then-eq : goal.returns-then-eq
returns-then-eq g c =
    gone g.T.TwoWay.begins g.T.TwoWay.ways g.T.TwoWay.used_up g.T.TwoWay.full g.T.TwoWay.failed c.args.now g.E.Service.status g.E.Service.users g.E.Service.may_give c.args.self.now _ c.let_go.new.self c.args.key c.in-Some.client.now c.visit.new.self _ _ (sym c.in-Some.ensures.value) refl refl refl c.let_go.ensures.gone c.let_go.ensures.next c.let_go.ensures.suited (search rules) c.visit.ensures

pub returns-else-eq : goal.returns-else-eq
returns-else-eq g c = there g.T.TwoWay.begins g.T.TwoWay.ways g.T.TwoWay.used_up g.T.TwoWay.full g.T.TwoWay.failed c.args.now g.E.Service.status g.E.Service.users g.E.Service.may_give c.args.self.now _ c.args.key c.in-Some.client.now c.visit.new.self _ _ (sym c.in-Some.ensures.value) refl refl refl (search rules) c.visit.ensures

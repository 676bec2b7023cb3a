-- Key after key.
use Rattle.std.proofs.Common.{arith, ◌≡◌, rules, sym, subst, ◌∙◌}
use Rattle.counter_loop.specs.declared.client.Client.{Client}
use Rattle.counter_loop.specs.declared.client.WaitsFor.TheVariants.{Visit}
use Rattle.counter_loop.proofs.BoxLemmas.{some_same}
use Rattle.counter_loop.proofs.ServedLemmas.{passed, up_to_all, up_to_none, visited_next}
use Rattle.counter_loop.proofs.clients.Clients.visit_again.Goals as goal

pub loop-key-init : goal.loop-key-init
loop-key-init g c = up_to_none g.T.TwoWay.begins g.T.TwoWay.ways g.T.TwoWay.used_up g.T.TwoWay.full g.T.TwoWay.failed c.args.now g.E.Service.status g.E.Service.users g.E.Service.may_give _ c.args.self.now _

pub returns : goal.returns
returns g c = up_to_all g.T.TwoWay.begins g.T.TwoWay.ways g.T.TwoWay.used_up g.T.TwoWay.full g.T.TwoWay.failed c.args.now g.E.Service.status g.E.Service.users g.E.Service.may_give c.loop-key.key _ c.args.self.now _ _ _ (omega (arith, c.capacity-key-end.ensures.slots)) c.loop-key.invariant

pub loop-key-preserved : goal.loop-key-preserved
loop-key-preserved g c =
    visited_next g.T.TwoWay.begins g.T.TwoWay.ways g.T.TwoWay.used_up g.T.TwoWay.full g.T.TwoWay.failed c.args.now g.E.Service.status g.E.Service.users g.E.Service.may_give c.loop-key.key _ c.args.self.now c.loop-key.self _ _ _ _ c.loop-key.invariant
    (λ client got. let is = c.waits_for_visit.ensures.yes (search rules) in subst (λ (x : Client g.row.T.Denot). x.waits_for ≡ Visit) (some_same is.0 client client (sym is.1 ∙ got)) is.2) c.visit.ensures

pub loop-key-preserved-then-not-waits_for_visit : goal.loop-key-preserved-then-not-waits_for_visit
loop-key-preserved-then-not-waits_for_visit g c =
    passed g.T.TwoWay.begins g.T.TwoWay.ways g.T.TwoWay.used_up g.T.TwoWay.full g.T.TwoWay.failed c.args.now g.E.Service.status g.E.Service.users g.E.Service.may_give c.loop-key.key _ c.args.self.now c.loop-key.self _ _ c.loop-key.invariant
    (c.waits_for_visit.ensures.no (search rules))

use Rattle.std.proofs.Common.{◌≡◌}
use Rattle.counter_loop.specs.declared.client.WaitsFor.TheVariants.{Visit}
use Rattle.counter_loop.proofs.ServedLemmas.{UpTo}
use Rattle.counter_loop.proofs.clients.Clients.visit_again.Given as goal

abbrev pub invariant-loop-key : goal.invariant-loop-key
invariant-loop-key g l = UpTo g.T.TwoWay.begins g.T.TwoWay.ways g.T.TwoWay.used_up g.T.TwoWay.full g.T.TwoWay.failed l.fn.now g.E.Service.status g.E.Service.users g.E.Service.may_give l.key (λ c. c.waits_for ≡ Visit) l.fn.self l.self l.fn.service l.service

use Rattle.std.specs.Prelude.{⊤}
use Rattle.counter_loop.proofs.ServedLemmas.{UpTo}
use Rattle.counter_loop.proofs.clients.Clients.visit_last.Given as goal

abbrev pub invariant-loop-key : goal.invariant-loop-key
invariant-loop-key g l = UpTo g.T.TwoWay.begins g.T.TwoWay.ways g.T.TwoWay.used_up g.T.TwoWay.full g.T.TwoWay.failed l.fn.now g.E.Service.status g.E.Service.users g.E.Service.may_give l.key (λ _. ⊤) l.fn.self l.self l.fn.service l.service

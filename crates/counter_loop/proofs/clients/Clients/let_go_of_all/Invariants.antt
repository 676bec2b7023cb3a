use Rattle.counter_loop.proofs.SuitLemmas.{PartedUpTo}
use Rattle.counter_loop.proofs.clients.Clients.let_go_of_all.Given as goal

abbrev pub invariant-loop-key : goal.invariant-loop-key
invariant-loop-key g l = PartedUpTo g.T.TwoWay.begins g.T.TwoWay.ways g.T.TwoWay.full g.T.TwoWay.failed l.key l.fn.self l.self

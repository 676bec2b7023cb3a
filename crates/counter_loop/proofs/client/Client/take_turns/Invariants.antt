-- Turn after turn, each of this connection.
use Rattle.counter_loop.proofs.ServedLemmas.{SoFar}
use Rattle.counter_loop.proofs.client.Client.take_turns.Given as goal

abbrev pub invariant-loop-turn : goal.invariant-loop-turn
invariant-loop-turn g l = SoFar g.T.TwoWay.begins g.T.TwoWay.ways g.T.TwoWay.used_up g.T.TwoWay.full g.T.TwoWay.failed l.fn.now g.E.Service.status g.E.Service.users g.E.Service.may_give l.turn l.fn.self l.self l.fn.service l.service

use Rattle.std.proofs.Common.{◌≡◌, true}
use Rattle.counter_loop.specs.Boxes.{Drains}
use Rattle.counter_loop.proofs.client.Client.drain.Given as goal

abbrev pub invariant-loop : goal.invariant-loop
invariant-loop g l = Drains g.T.TwoWay.ways l.fn.self l.self × (l.self.connection.is_closing ≡ true)

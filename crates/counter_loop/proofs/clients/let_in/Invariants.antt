use Rattle.std.specs.Prelude.{◌≡◌, ◌+◌}
use Rattle.counter_loop.specs.Rounds.{StaysFit}
use Rattle.counter_loop.proofs.clients.let_in.Given as goal

abbrev pub invariant-loop : goal.invariant-loop
invariant-loop g l = record {
  fit : StaysFit g.D.Stream.TwoWay.begins g.D.Stream.TwoWay.ways g.D.Stream.TwoWay.full g.D.Stream.TwoWay.failed l.fn.clients l.clients;
  given : g.D.Door.given l.door + l.fn.clients.next ≡ g.D.Door.given l.fn.door + l.clients.next;
}

use Rattle.std.specs.Prelude.{◌≡◌}
use Rattle.counter_loop.specs.Rounds.{StaysFitAt}
use Rattle.counter_loop.proofs.clients.Clients.let_go_of_late.Given as goal

abbrev pub invariant-loop-key : goal.invariant-loop-key
invariant-loop-key g l = record {
  fit : StaysFitAt g.T.TwoWay.begins g.T.TwoWay.ways g.T.TwoWay.full g.T.TwoWay.failed l.fn.now l.fn.self l.self;
  next : l.self.next ≡ l.fn.self.next;
}

use Rattle.std.proofs.Common.{◌≡◌, ◌+◌, List, Result}
use Rattle.counter_connections.specs.Connections.{AreServed, counted}
use Rattle.counter_connections.specs.Failed.{CountEnds}
use Rattle.http_messages.specs.declared.serving.ServeFault.{ServeFault}
use Rattle.http_messages.specs.declared.serving.Served.{Served}
use Rattle.counter_connections.proofs.connections.serve_connections.Given as goal

abbrev pub invariant-loop-wanted : goal.invariant-loop-wanted
invariant-loop-wanted g l = record {
  exits : List (Result Served ServeFault);
  served : AreServed g.S.StoreState.status (g.G.Gate.users l.fn.counter.clerk.gate) g.C.Clock.may_give l.fn.requests
      (record { store = l.fn.counter.bank.store; clock = l.fn.counter.clock }) exits (record { store = l.counter.bank.store; clock = l.counter.clock });
  counts : counted exits + l.wanted ≡ l.fn.requests;
  calls : CountEnds l.fn.listener.calls l.listener.calls exits;
  never : l.listener.failures ≡ l.fn.listener.failures;
  same_users : g.G.Gate.users l.counter.clerk.gate ≡ g.G.Gate.users l.fn.counter.clerk.gate;
}

abbrev pub decreases-loop-wanted : goal.decreases-loop-wanted
decreases-loop-wanted g l = l.wanted

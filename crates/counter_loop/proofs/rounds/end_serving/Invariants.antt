use Rattle.std.proofs.Common.{◌≡◌}
use Rattle.counter_loop.proofs.RoundLemmas.{Goes}
use Rattle.counter_loop.proofs.rounds.end_serving.Given as goal

abbrev pub invariant-loop : goal.invariant-loop
invariant-loop g l = record {
  goes : Goes g.T.TwoWay.begins g.T.TwoWay.ways g.T.TwoWay.used_up g.T.TwoWay.full g.T.TwoWay.failed (g.R.Readiness.shows l.fn.system) g.E.Service.status g.E.Service.users g.E.Service.may_give
      l.fn.now l.fn.clients l.clients l.fn.service l.service (g.R.Readiness.reported l.fn.system) (g.R.Readiness.reported l.system);
  clock : g.R.Readiness.shows l.system ≡ g.R.Readiness.shows l.fn.system;
}

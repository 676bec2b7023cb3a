use Rattle.std.specs.Prelude.{◌≡◌, ◌+◌, List}
use Rattle.counter_door.specs.Readiness.{with_reports}
use Rattle.counter_door.specs.declared.readiness.Ready.{Ready}
use Rattle.counter_loop.proofs.ChainLemmas.{AreGoing}
use Rattle.counter_loop.proofs.many.serve_rounds.Given as goal

abbrev pub invariant-loop : goal.invariant-loop
invariant-loop g l =
    (readies : List (List Ready))
    × AreGoing g.D.Stream.TwoWay.begins g.D.Stream.TwoWay.ways g.D.Stream.TwoWay.used_up g.D.Stream.TwoWay.full g.D.Stream.TwoWay.failed g.E.Service.status g.E.Service.users g.E.Service.may_give (g.R.Readiness.shows l.fn.system) (g.R.Readiness.reported l.fn.system) readies l.clients l.fn.service l.service
    × (g.R.Readiness.reported l.system ≡ with_reports (g.R.Readiness.reported l.fn.system) readies)
    × (g.R.Readiness.shows l.system ≡ g.R.Readiness.shows l.fn.system)
    × (g.D.Door.given l.door ≡ g.D.Door.given l.fn.door + l.clients.next)

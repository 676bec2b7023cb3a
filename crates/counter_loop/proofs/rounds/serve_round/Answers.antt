-- Those that were reported, and those that waited before.
use Rattle.counter_loop.proofs.RoundLemmas.{round_called}
use Rattle.counter_loop.proofs.rounds.serve_round.Goals as goal

pub returns : goal.returns
returns g c = round_called g.T.TwoWay.begins g.T.TwoWay.ways g.T.TwoWay.used_up g.T.TwoWay.full g.T.TwoWay.failed c.args.now g.E.Service.status g.E.Service.users g.E.Service.may_give c.args.ready.now _ _ _ _ _ c.call_ready.ensures c.visit_again.ensures

-- All that are held as the rounds end are let go then.
use Rattle.counter_loop.proofs.ChainLemmas.{at_door_none, served_at_door}
use Rattle.counter_loop.proofs.many.serve.Goals as goal

pub returns-in-Err-clause-rounds : goal.returns-in-Err-clause-rounds
returns-in-Err-clause-rounds g c = at_door_none g.D.Stream.TwoWay.begins g.D.Stream.TwoWay.ways g.D.Stream.TwoWay.full g.D.Stream.TwoWay.failed g.E.Service.status _ g.E.Service.may_give _ _ _ _ _ c.new-in-Err.ensures

pub returns-clause-rounds : goal.returns-clause-rounds
returns-clause-rounds g c = served_at_door g.D.Stream.TwoWay.begins g.D.Stream.TwoWay.ways g.D.Stream.TwoWay.full g.D.Stream.TwoWay.failed g.E.Service.status _ g.E.Service.may_give _ _ _ _ _ _ _ _ _ _ c.serve_rounds-done.ensures.given c.serve_rounds-done.ensures.rounds c.let_go_of_all.ensures c.into_parted.ensures

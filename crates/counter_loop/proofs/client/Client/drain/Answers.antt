-- What was read is let go.
use Rattle.std.proofs.Common.{refl}
use Rattle.counter_loop.proofs.BoxLemmas.{drains_none, received_more}
use Rattle.counter_loop.proofs.client.Client.drain.Goals as goal

pub loop-init : goal.loop-init
loop-init g c = (drains_none g.T.TwoWay.ways c.args.self.now, c.requires)

pub loop-preserved : goal.loop-preserved
loop-preserved g c =
    (received_more g.T.TwoWay.ways c.args.self.now c.loop.self _ c.receive.result c.receive.new.buf c.loop.invariant.0 c.loop.invariant.1 refl refl refl refl c.receive.ensures.bytes, c.loop.invariant.1)

-- Nothing went out where it does not part.
use Rattle.std.proofs.Common.{refl}
use Rattle.counter_loop.proofs.BoxLemmas.{drains_same}
use Rattle.counter_loop.proofs.client.Client.settle.Goals as goal

pub returns-else-is_closing-clause-drains : goal.returns-else-is_closing-clause-drains
returns-else-is_closing-clause-drains g c = drains_same g.T.TwoWay.ways c.args.self.now _ refl refl refl refl refl

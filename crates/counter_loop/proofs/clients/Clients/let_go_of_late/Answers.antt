-- One key after another.
use Rattle.std.proofs.Common.{◌∙◌}
use Rattle.counter_loop.proofs.clients.Clients.let_go_of_late.Goals as goal

pub loop-key-preserved : goal.loop-key-preserved
loop-key-preserved g c = record {
  fit = λ rounds boxes at fits. c.let_go_if_late.ensures.fit rounds boxes at (c.loop-key.invariant.fit rounds boxes at fits);
  next = c.let_go_if_late.ensures.next ∙ c.loop-key.invariant.next;
}

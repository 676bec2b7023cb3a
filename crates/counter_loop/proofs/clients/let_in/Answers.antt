-- One after another.
use Rattle.std.proofs.Common.{arith}
use Rattle.counter_loop.proofs.clients.let_in.Goals as goal

pub returns-then-not-let_in_one-clause-fit : goal.returns-then-not-let_in_one-clause-fit
returns-then-not-let_in_one-clause-fit g c = λ rounds boxes fits. c.let_in_one.ensures.fit rounds boxes (c.loop.invariant.fit rounds boxes fits)

pub loop-preserved : goal.loop-preserved
loop-preserved g c = record {
  fit = λ rounds boxes fits. c.let_in_one.ensures.fit rounds boxes (c.loop.invariant.fit rounds boxes fits);
  given = let was = c.loop.invariant.given in let now = c.let_in_one.ensures.given in omega (arith, was, now);
}

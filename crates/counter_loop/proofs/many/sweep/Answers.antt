-- Step by step.
use Rattle.counter_loop.proofs.many.sweep.Goals as goal

pub returns-clause-fit : goal.returns-clause-fit
returns-clause-fit g c = λ rounds boxes at fits. c.let_in.ensures.fit rounds boxes (c.let_go_of_late.ensures.fit rounds boxes at fits)

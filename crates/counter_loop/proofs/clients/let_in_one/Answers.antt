-- Step by step.
use Rattle.counter_loop.proofs.clients.let_in_one.Goals as goal

pub returns-in-Ok-clause-fit : goal.returns-in-Ok-clause-fit
returns-in-Ok-clause-fit g c = λ rounds boxes fits. c.take_in.ensures.fit rounds boxes (c.make_room.ensures.fit rounds boxes fits)

-- Step by step.
use Rattle.counter_loop.proofs.clients.Clients.take_in.Goals as goal

pub returns-clause-fit : goal.returns-clause-fit
returns-clause-fit g c = λ rounds boxes fits. c.let_go_if_idle.ensures.fit rounds boxes (c.register.ensures.fit rounds boxes (c.insert.ensures.fit rounds boxes fits))

pub returns-then-register-clause-fit : goal.returns-then-register-clause-fit
returns-then-register-clause-fit g c = λ rounds boxes fits. c.register.ensures.fit rounds boxes (c.insert.ensures.fit rounds boxes fits)

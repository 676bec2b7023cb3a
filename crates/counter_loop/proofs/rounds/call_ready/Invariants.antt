use Rattle.std.specs.Prelude.{Contains, take}
use Rattle.counter_loop.specs.Rounds.{IsCalled}
use Rattle.counter_door.specs.declared.readiness.Ready.TheVariants.{Connection}
use Rattle.counter_loop.proofs.rounds.call_ready.Given as goal

abbrev pub invariant-loop-n : goal.invariant-loop-n
invariant-loop-n g l = IsCalled (λ key. Contains (take l.n l.ready) (Connection key)) l.fn.clients l.clients

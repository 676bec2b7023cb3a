-- One report after another.
use Rattle.std.proofs.Common.{◌≡◌, ◌<◌, ◌≤◌, Contains, get_or, length, take, arith}
use Rattle.counter_door.specs.declared.readiness.Ready.TheVariants.{Connection, Door}
use Rattle.counter_loop.proofs.RoundLemmas.{all_reported, called_fewer, called_none, called_then, contains_none, one_reported}
use Rattle.counter_loop.proofs.rounds.call_ready.Goals as goal

pub loop-n-init : goal.loop-n-init
loop-n-init g c = called_none _ c.args.clients.now (λ key has. contains_none (Connection key) has)

pub loop-n-preserved : goal.loop-n-preserved
loop-n-preserved g c =
    let within : c.loop-n.n < length c.args.ready.now = omega arith in
    called_then (λ key. Contains (take c.loop-n.n c.args.ready.now) (Connection key)) (λ key. get_or c.args.ready.now c.loop-n.n Door ≡ Connection key) _ _ c.loop-n.clients _
    (λ key has. one_reported c.args.ready.now c.loop-n.n key Door within has)
    c.loop-n.invariant c.call_one.ensures

pub returns : goal.returns
returns g c =
    let past : length c.args.ready.now ≤ c.loop-n.n = omega arith in
    called_fewer (λ key. Contains (take c.loop-n.n c.args.ready.now) (Connection key)) _ _ _ (λ key has. all_reported c.args.ready.now c.loop-n.n key past has) c.loop-n.invariant

-- The one under its key, or nobody.
use Rattle.std.proofs.Common.{◌≡◌, ℕ, ap, sym, ◌∙◌, rules}
use Rattle.counter_door.specs.declared.readiness.Ready.TheVariants.{Connection}
use Rattle.counter_loop.proofs.RoundLemmas.{called_fewer, called_none, key_of}
use Rattle.counter_loop.proofs.rounds.call_one.Goals as goal

pub returns-in_default : goal.returns-in_default
returns-in_default g c =
    let no : (key : ℕ) → c.args.ready ≡ Connection key → ⊥ = search rules in
    called_none (λ key. c.args.ready ≡ Connection key) c.args.clients.now no

pub returns : goal.returns
returns g c =
    let is : c.args.ready ≡ Connection c.in-Connection.key = search rules in
    called_fewer (λ key. key ≡ c.in-Connection.key) _ _ _ (λ key same. ap key_of (sym same ∙ is)) c.call.ensures

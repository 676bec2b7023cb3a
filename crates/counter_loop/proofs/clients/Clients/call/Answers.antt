-- The one under its key waits for a visit, and the others stay as they were.
use Rattle.std.proofs.Common.{refl, rules, sym}
use Rattle.counter_loop.proofs.RoundLemmas.{called_absent, called_one}
use Rattle.counter_loop.proofs.clients.Clients.call.Goals as goal

pub returns-in_default : goal.returns-in_default
returns-in_default g c = called_absent c.args.key c.args.self.now (search rules)

pub returns : goal.returns
returns g c = called_one c.args.key c.args.self.now _ c.in-Some.client.now c.wait_for_visit.new.self (sym c.in-Some.ensures.value) refl refl refl c.wait_for_visit.ensures

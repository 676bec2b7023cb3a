use Rattle.std.proofs.Common.{rules, sym}
use Rattle.counter_loop.proofs.clients.Clients.waits_for_visit.Goals as goal

pub returns-in-Some-clause-yes : goal.returns-in-Some-clause-yes
returns-in-Some-clause-yes g c = λ yes. (c.in-Some.client.now, sym c.in-Some.ensures, search rules)

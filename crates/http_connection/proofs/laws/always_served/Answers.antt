use Rattle.http_connection.proofs.ClosedLemmas.{closed_at_last}
use Rattle.http_connection.proofs.ServedLemmas.{served_so_far}
use Rattle.http_connection.proofs.laws.always_served.Goals as goal

pub returns-clause-open : goal.returns-clause-open
returns-clause-open g c = λ from to d events history open_still. served_so_far g.E.Engine.answers g.E.Engine.stops g.E.Engine.breaks d from to events history open_still

pub returns-clause-closed : goal.returns-clause-closed
returns-clause-closed g c = λ from to d events history closing. closed_at_last g.E.Engine.answers g.E.Engine.stops g.E.Engine.breaks d from to events history closing

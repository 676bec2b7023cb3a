-- Where not all was taken, some is left.
use Rattle.std.proofs.Common.{ap}
use Rattle.http_connection.specs.Parts.{ConnectionParts}
use Rattle.counter_door.proofs.WayLemmas.{some_left}
use Rattle.counter_loop.proofs.outbox.send.Goals as goal

pub returns-clause-part : goal.returns-clause-part
returns-clause-part g c = λ is.
    let part = c.write_some-n.ensures.part is in
    (some_left c.write_some-n.result.0 _ _ _ c.unsent.ensures (ap (λ (x : ConnectionParts). x.unsent) c.sent.ensures) part.0, part.1)

pub returns-clause-failed : goal.returns-clause-failed
returns-clause-failed g c = λ is.
    let broken = c.write_some-n.ensures.failed is in
    (some_left c.write_some-n.result.0 _ _ _ c.unsent.ensures (ap (λ (x : ConnectionParts). x.unsent) c.sent.ensures) broken.0, broken.1)

use Rattle.std.proofs.Common.{◌≤◌, arith, ap, ◌∙◌, take, drop, length, ◌-◌}
use Rattle.std.proofs.lemmas.List.{length-take-le}
use Rattle.http_messages.proofs.RoomLemmas.{front_dropped}
use Rattle.http_messages.proofs.inbox.Inbox.drop_front.Goals as goal

pub returns : goal.returns
returns c =
    let room = c.self.inside.bytes.items in
    let len = c.self.inside.len in
    let within : len ≤ length room = omega (arith, c.self.invariant.0, c.self.invariant.1) in
    let front : c.args.n ≤ len = omega (arith, c.requires, ap length c.self.view_is, length-take-le len room within) in
    ap (take (len - c.args.n)) c.copy_within.ensures.items ∙ front_dropped room len c.args.n front within ∙ ap (drop c.args.n) c.self.view_is

-- By the connections that were served after the port was announced.
use Rattle.std.proofs.Common.{inl, rules}
use Rattle.counter_places.specs.Places.{listening_line}
use Rattle.counter_places.specs.declared.place.Place.TheVariants as place
use Rattle.exit_lines.specs.Streams.{GetsAll, stream_at}
use Rattle.counter_connections.proofs.PortLemmas.{listened, listened_until}
use Rattle.counter_connections.proofs.port.serve_port.Goals as goal

pub returns-in-Ok-serve_connections : goal.returns-in-Ok-serve_connections
returns-in-Ok-serve_connections g c =
    let said : GetsAll (stream_at g.W.Write.contents c.args.output.now) (stream_at g.W.Write.contents c.say_listening.new.output) (listening_line (place.Port c.args.at.port)) = search rules in
    inl (said, listened g.S.StoreState.status (g.G.Gate.users c.args.counter.now.clerk.gate) g.C.Clock.may_give c.args.at.requests _ _ _ _ _ c.new-listener.ensures c.failures.ensures _ c.in-Ok-serve_connections.ensures)

pub returns : goal.returns
returns g c =
    let said : GetsAll (stream_at g.W.Write.contents c.args.output.now) (stream_at g.W.Write.contents c.say_listening.new.output) (listening_line (place.Port c.args.at.port)) = search rules in
    inl (said, listened_until g.S.StoreState.status (g.G.Gate.users c.args.counter.now.clerk.gate) g.C.Clock.may_give c.args.at.requests _ _ _ _ _ c.new-listener.ensures c.failures-in-Err.ensures _ c.in-Err.ensures)

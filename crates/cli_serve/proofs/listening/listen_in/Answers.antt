-- By the clauses of the port over the bank that was found.
use Rattle.exit_lines.specs.Streams.{stream_at}
use Rattle.cli_serve.proofs.ServedLemmas.{over_port, port_closed, port_unclosed}
use Rattle.cli_serve.proofs.listening.listen_in.Goals as goal

pub returns-in-Ok-close : goal.returns-in-Ok-close
returns-in-Ok-close g c =
    port_closed g.D.Disk c.args.conn c.in-Ok-close.files (g.G.Gate.users c.args.asking.gate) g.C.Clock.may_give c.args.at.port c.args.at.requests
    (stream_at g.W.Write.contents c.args.output.now) (stream_at g.W.Write.contents c.serve_port_with_cache-store.new.output)
    c.args.asking.moments c.serve_port_with_cache-store.result.1 c.serve_port_with_cache-store.result.2
    c.serve_port_with_cache-store.result.0 c.serve_port_with_cache-store.result.3 c.ended.result
    (over_port g.D.Disk (g.G.Gate.users c.args.asking.gate) g.C.Clock.may_give c.args.conn c.args.at.port c.args.at.requests
    (stream_at g.W.Write.contents c.args.output.now) (stream_at g.W.Write.contents c.serve_port_with_cache-store.new.output)
    c.args.asking.moments c.serve_port_with_cache-store.result.1
    c.in-Ok.store c.serve_port_with_cache-store.result.0 c.serve_port_with_cache-store.result.2 c.serve_port_with_cache-store.result.3 c.in-Ok.ensures c.serve_port_with_cache-store.ensures)
    c.in-Ok-close.ensures c.ended.ensures

pub returns-in-Err-close : goal.returns-in-Err-close
returns-in-Err-close g c =
    port_unclosed g.D.Disk c.args.conn c.in-Err-close.left (g.G.Gate.users c.args.asking.gate) g.C.Clock.may_give c.args.at.port c.args.at.requests
    (stream_at g.W.Write.contents c.args.output.now) (stream_at g.W.Write.contents c.serve_port_with_cache-store.new.output)
    c.args.asking.moments c.serve_port_with_cache-store.result.1 c.serve_port_with_cache-store.result.2
    c.serve_port_with_cache-store.result.0 c.serve_port_with_cache-store.result.3 c.ended-in-Err-close.result c.in-Err-close.fault
    (over_port g.D.Disk (g.G.Gate.users c.args.asking.gate) g.C.Clock.may_give c.args.conn c.args.at.port c.args.at.requests
    (stream_at g.W.Write.contents c.args.output.now) (stream_at g.W.Write.contents c.serve_port_with_cache-store.new.output)
    c.args.asking.moments c.serve_port_with_cache-store.result.1
    c.in-Ok.store c.serve_port_with_cache-store.result.0 c.serve_port_with_cache-store.result.2 c.serve_port_with_cache-store.result.3 c.in-Ok.ensures c.serve_port_with_cache-store.ensures)
    c.in-Err-close.ensures c.ended-in-Err-close.ensures

-- By the clauses of the stream over the bank that was found.
use Rattle.exit_lines.specs.Streams.{streams_at}
use Rattle.cli_serve.proofs.ServedLemmas.{over_stream, stream_closed, stream_unclosed}
use Rattle.cli_serve.proofs.serving.serve_in.Goals as goal

pub returns-in-Ok-close : goal.returns-in-Ok-close
returns-in-Ok-close g c =
    stream_closed g.D.Disk c.args.conn c.in-Ok-close.files (g.G.Gate.users c.args.gate.now) c.args.moment
    (streams_at g.R.Read.remaining g.W.Write.contents c.args.input.now c.args.output.now)
    (streams_at g.R.Read.remaining g.W.Write.contents c.serve_with_cache-store.new.input c.serve_with_cache-store.new.output)
    c.serve_with_cache-store.result.0 c.serve_with_cache-store.result.1 c.ended.result
    (over_stream g.D.Disk (g.G.Gate.users c.args.gate.now) c.args.conn c.args.moment
    (streams_at g.R.Read.remaining g.W.Write.contents c.args.input.now c.args.output.now)
    (streams_at g.R.Read.remaining g.W.Write.contents c.serve_with_cache-store.new.input c.serve_with_cache-store.new.output)
    c.in-Ok.store c.serve_with_cache-store.result.0 c.serve_with_cache-store.result.1 c.in-Ok.ensures c.serve_with_cache-store.ensures.served)
    c.in-Ok-close.ensures c.ended.ensures

pub returns-in-Err-close : goal.returns-in-Err-close
returns-in-Err-close g c =
    stream_unclosed g.D.Disk c.args.conn c.in-Err-close.left (g.G.Gate.users c.args.gate.now) c.args.moment
    (streams_at g.R.Read.remaining g.W.Write.contents c.args.input.now c.args.output.now)
    (streams_at g.R.Read.remaining g.W.Write.contents c.serve_with_cache-store.new.input c.serve_with_cache-store.new.output)
    c.serve_with_cache-store.result.0 c.serve_with_cache-store.result.1 c.ended-in-Err-close.result c.in-Err-close.fault
    (over_stream g.D.Disk (g.G.Gate.users c.args.gate.now) c.args.conn c.args.moment
    (streams_at g.R.Read.remaining g.W.Write.contents c.args.input.now c.args.output.now)
    (streams_at g.R.Read.remaining g.W.Write.contents c.serve_with_cache-store.new.input c.serve_with_cache-store.new.output)
    c.in-Ok.store c.serve_with_cache-store.result.0 c.serve_with_cache-store.result.1 c.in-Ok.ensures c.serve_with_cache-store.ensures.served)
    c.in-Err-close.ensures c.ended-in-Err-close.ensures

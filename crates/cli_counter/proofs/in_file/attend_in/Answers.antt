-- By the clauses of what was served over the bank that was found.
use Rattle.exit_lines.specs.Streams.{stream_at}
use Rattle.cli_counter.proofs.DayLemmas.{and_closed, and_unclosed, over_file}
use Rattle.cli_counter.proofs.in_file.attend_in.Goals as goal

pub returns-in-Ok-close : goal.returns-in-Ok-close
returns-in-Ok-close g c =
    and_closed g.D.Disk _ (g.G.Gate.users c.args.asking.gate) g.C.Clock.may_give c.args.conn c.args.places c.args.at.place c.attend_with_cache-store.result.1
    (stream_at g.W.Write.contents c.args.output.now) (stream_at g.W.Write.contents c.attend_with_cache-store.new.output)
    c.args.asking.moments c.attend_with_cache-store.result.2
    c.in-Ok-close.files c.attend_with_cache-store.result.0 c.attend_with_cache-store.result.3 c.ended.result
    (over_file g.D.Disk _ (g.G.Gate.users c.args.asking.gate) g.C.Clock.may_give c.args.conn c.args.places c.args.at.place c.attend_with_cache-store.result.1
    (stream_at g.W.Write.contents c.args.output.now) (stream_at g.W.Write.contents c.attend_with_cache-store.new.output)
    c.args.asking.moments c.attend_with_cache-store.result.2
    c.in-Ok.store c.attend_with_cache-store.result.0 c.attend_with_cache-store.result.3 c.in-Ok.ensures c.attend_with_cache-store.ensures)
    c.in-Ok-close.ensures c.ended.ensures

pub returns-in-Err-close : goal.returns-in-Err-close
returns-in-Err-close g c =
    and_unclosed g.D.Disk _ (g.G.Gate.users c.args.asking.gate) g.C.Clock.may_give c.args.conn c.args.places c.args.at.place c.attend_with_cache-store.result.1
    (stream_at g.W.Write.contents c.args.output.now) (stream_at g.W.Write.contents c.attend_with_cache-store.new.output)
    c.args.asking.moments c.attend_with_cache-store.result.2
    c.in-Err-close.left c.attend_with_cache-store.result.0 c.attend_with_cache-store.result.3 c.ended-in-Err-close.result c.in-Err-close.fault
    (over_file g.D.Disk _ (g.G.Gate.users c.args.asking.gate) g.C.Clock.may_give c.args.conn c.args.places c.args.at.place c.attend_with_cache-store.result.1
    (stream_at g.W.Write.contents c.args.output.now) (stream_at g.W.Write.contents c.attend_with_cache-store.new.output)
    c.args.asking.moments c.attend_with_cache-store.result.2
    c.in-Ok.store c.attend_with_cache-store.result.0 c.attend_with_cache-store.result.3 c.in-Ok.ensures c.attend_with_cache-store.ensures)
    c.in-Err-close.ensures c.ended-in-Err-close.ensures

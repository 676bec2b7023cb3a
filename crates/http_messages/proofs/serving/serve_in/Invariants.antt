use Rattle.std.proofs.Common.{◌≡◌, ℕ, List, length}
use Rattle.http_messages.specs.Run.{Runs}
use Rattle.http_messages.specs.Whole.{WholeMessage}
use Rattle.http_messages.proofs.serving.serve_in.Given as goal

abbrev pub invariant-loop-done : goal.invariant-loop-done
invariant-loop-done g l =
    ((ms : List WholeMessage) × (out : List ℕ) × (length ms ≡ l.done)
    × Runs g.E.Engine.answers g.E.Engine.stops g.E.Engine.breaks
    (record { left = g.R.Read.remaining l.fn.reader.stream; held = l.fn.exchange.inbox; written = g.W.Write.contents l.fn.writer.stream; unflushed = l.fn.exchange.unflushed; engine = l.fn.engine })
    (record { left = g.R.Read.remaining l.reader.stream; held = l.exchange.inbox; written = g.W.Write.contents l.writer.stream; unflushed = l.exchange.unflushed; engine = l.engine })
    ms out)
    × (l.reader.failures ≡ l.fn.reader.failures)
    × (l.writer.failures ≡ l.fn.writer.failures)

use Rattle.std.proofs.Common.{◌≡◌, true, length, ◌-◌}
use Rattle.http_messages.specs.Inbox.{max_message_len}
use Rattle.http_messages.proofs.TurnLemmas.{Before}
use Rattle.http_messages.proofs.serving.serve_one.Given as goal

abbrev pub invariant-loop-exchange : goal.invariant-loop-exchange
invariant-loop-exchange g l =
    Before (record { left = g.R.Read.remaining l.fn.reader.stream; held = l.fn.exchange.inbox; written = g.W.Write.contents l.fn.writer.stream; unflushed = l.fn.exchange.unflushed; engine = l.fn.engine })
    (g.R.Read.remaining l.reader.stream)
    (record { held = l.exchange.inbox; written = g.W.Write.contents l.writer.stream; engine = l.engine })
    × (l.exchange.unflushed ≡ true → l.fn.exchange.unflushed ≡ true)
    × (l.reader.failures ≡ l.fn.reader.failures)
    × (l.writer.failures ≡ l.fn.writer.failures)

abbrev pub decreases-loop-exchange : goal.decreases-loop-exchange
decreases-loop-exchange g l = max_message_len - length l.exchange.inbox

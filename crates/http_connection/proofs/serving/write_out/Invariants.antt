-- What went out so far is the front of what was to go out, and no write failed.
use Rattle.std.proofs.Common.{◌≡◌, ◌++◌, ℕ, List, length}
use Rattle.std.specs.Io.KnownBytes.{Appends}
use Rattle.http_messages.specs.Failures.{CountsNone}
use Rattle.money.specs.Counted.{stream_of}
use Rattle.http_connection.specs.History.{with_unsent}
use Rattle.http_connection.proofs.serving.write_out.Given as goal

abbrev pub invariant-loop-writer : goal.invariant-loop-writer
invariant-loop-writer g l = record {
  went : (out : List ℕ) × (l.initial.connection.unsent ≡ out ++ l.connection.unsent) × (l.connection ≡ with_unsent l.connection.unsent l.initial.connection)
      × Appends (g.W.Write.contents (stream_of l.initial.writer)) (g.W.Write.contents (stream_of l.writer)) out;
  counted : CountsNone l.initial.writer l.writer;
}

abbrev pub decreases-loop-writer : goal.decreases-loop-writer
decreases-loop-writer g l = length l.connection.unsent

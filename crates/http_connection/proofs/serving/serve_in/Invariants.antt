-- As many messages were answered as there were turns, and no call failed.
use Rattle.std.proofs.Common.{◌≡◌, ℕ, List, false, length}
use Rattle.http_messages.specs.Failures.{CountsNone}
use Rattle.http_messages.specs.Run.{Runs}
use Rattle.http_messages.specs.Whole.{WholeMessage}
use Rattle.money.specs.Counted.{stream_of}
use Rattle.http_connection.specs.Serving.{at}
use Rattle.http_connection.proofs.serving.serve_in.Given as goal

abbrev pub invariant-loop-done : goal.invariant-loop-done
invariant-loop-done g l = record {
  run : (ms : List WholeMessage) × (out : List ℕ) × (length ms ≡ l.done)
      × Runs g.E.Engine.answers g.E.Engine.stops g.E.Engine.breaks
      (at (g.R.Read.remaining (stream_of l.fn.reader)) l.fn.connection (g.W.Write.contents (stream_of l.fn.writer)) l.fn.engine)
      (at (g.R.Read.remaining (stream_of l.reader)) l.connection (g.W.Write.contents (stream_of l.writer)) l.engine)
      ms out;
  open_still : l.connection.is_closing ≡ false;
  read : CountsNone l.fn.reader l.reader;
  written : CountsNone l.fn.writer l.writer;
}

-- What was read and held so far; nothing was answered, and no call failed.
use Rattle.std.proofs.Common.{◌≡◌, ◌-◌, true, false, length}
use Rattle.std.specs.Io.KnownBytes.{append_known}
use Rattle.http_messages.specs.Failures.{CountsNone}
use Rattle.http_messages.specs.Inbox.{max_message_len}
use Rattle.http_messages.proofs.TurnLemmas.{Before}
use Rattle.money.specs.Counted.{stream_of}
use Rattle.http_connection.specs.Serving.{at, is_some_left}
use Rattle.http_connection.proofs.serving.serve_one.Given as goal

abbrev pub invariant-loop-connection : goal.invariant-loop-connection
invariant-loop-connection g l = record {
  before : Before (at (g.R.Read.remaining (stream_of l.fn.reader)) l.fn.connection (g.W.Write.contents (stream_of l.fn.writer)) l.fn.engine)
      (g.R.Read.remaining (stream_of l.reader))
      (record { held = l.connection.held; written = append_known (g.W.Write.contents (stream_of l.writer)) l.connection.unsent; engine = l.engine });
  unsent : is_some_left l.connection.unsent ≡ true → is_some_left l.fn.connection.unsent ≡ true;
  open_still : l.connection.is_closing ≡ false;
  read : CountsNone l.fn.reader l.reader;
  written : CountsNone l.fn.writer l.writer;
}

abbrev pub decreases-loop-connection : goal.decreases-loop-connection
decreases-loop-connection g l = max_message_len - length l.connection.held

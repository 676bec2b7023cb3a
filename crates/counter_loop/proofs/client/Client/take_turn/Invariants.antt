-- Until a message has come whole, bytes are read, and nothing else is done.
use Rattle.std.proofs.Common.{◌≡◌, ◌-◌, length}
use Rattle.http_messages.specs.Inbox.{max_message_len}
use Rattle.counter_loop.specs.Boxes.{Reads}
use Rattle.counter_loop.proofs.client.Client.take_turn.Given as goal

abbrev pub invariant-loop-self : goal.invariant-loop-self
invariant-loop-self g l = record {
  reads : Reads g.T.TwoWay.ways l.fn.self l.self;
  same : l.service ≡ l.fn.service;
  times : l.self.times ≡ l.fn.self.times;
}

abbrev pub decreases-loop-self : goal.decreases-loop-self
decreases-loop-self g l = max_message_len - length l.self.connection.held

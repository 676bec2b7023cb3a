-- What it holds is the inbox, and what is to go out is the outbox.
use Rattle.std.proofs.Common.{Some, rules}
use Rattle.money.specs.Counted.{stream_of}
use Rattle.http_connection.proofs.AnswerLemmas.{stepped}
use Rattle.http_connection.proofs.connection.Connection.step.Goals as goal

pub returns-clause-step : goal.returns-clause-step
returns-clause-step g c =
    stepped g.E.Engine.answers g.E.Engine.stops g.E.Engine.breaks _ _ _ _ _ _ c.self.inside.inbox c.advance-step.new.self (Some (stream_of c.new-writer.result).items) (Some (stream_of c.advance-step.new.writer).items)
    c.advance-step.result (search rules) (search rules) (search rules) (search rules) c.advance-step.ensures.step

-- By the clauses of the serving of a stream that waits, over a counter.
use Rattle.std.proofs.Common.{◌≡◌, rules}
use Rattle.money.specs.Counted.{stream_of}
use Rattle.counter_connections.proofs.CallLemmas.{ends_counted}
use Rattle.counter_connections.proofs.ConnectionLemmas.{known_of, over_counter}
use Rattle.counter_connections.proofs.connection.serve_client.Goals as goal

pub returns-clause-connection : goal.returns-clause-connection
returns-clause-connection g c =
    let sent : g.K.Read.remaining (stream_of c.new-reader.result).stream ≡ g.K.Read.remaining c.args.client = search rules in
    let got : g.K.Write.contents (stream_of c.new-writer.result).stream ≡ g.K.Write.contents c.args.client = search rules in
    known_of g.S.StoreState.status (g.G.Gate.users c.args.counter.now.clerk.gate) g.C.Clock.may_give c.args.most _ _ _ _ _ _ c.serve-served.result sent got
    (over_counter g.S.StoreState.status g.G.Gate.users g.C.Clock.may_give c.args.most _ _ _ _ c.args.counter.now c.serve-served.new.engine c.serve-served.result c.serve-served.ensures.exit).0

pub returns-clause-same_users : goal.returns-clause-same_users
returns-clause-same_users g c =
    (over_counter g.S.StoreState.status g.G.Gate.users g.C.Clock.may_give c.args.most _ _ _ _ c.args.counter.now c.serve-served.new.engine c.serve-served.result c.serve-served.ensures.exit).1

pub returns-clause-calls : goal.returns-clause-calls
returns-clause-calls g c =
    ends_counted c.args.calls.now c.and_of.result c.new-reader.result c.serve-served.new.reader c.new-writer.result c.serve-served.new.writer c.serve-served.result
    c.new-reader.ensures.none c.new-writer.ensures.none c.serve-served.ensures.failures c.and_of.ensures.no_read c.and_of.ensures.one_read c.and_of.ensures.no_write c.and_of.ensures.one_write

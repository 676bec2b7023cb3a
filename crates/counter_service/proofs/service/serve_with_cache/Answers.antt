-- By the clauses of `serve_stream` over the cache that was made.
use Rattle.std.proofs.Common.{inl}
use Rattle.counter_service.proofs.Below.{through}
use Rattle.counter_service.proofs.service.serve_with_cache.Goals as goal

pub returns-in-Ok-clause-served : goal.returns-in-Ok-clause-served
returns-in-Ok-clause-served g c =
    inl (through g.S.StoreState.status (g.G.Gate.users c.args.asking.gate) c.in-Ok.cached c.serve_stream-left.result.0 c.args.store _ _ _ _ c.serve_stream-left.result.1
    c.in-Ok.ensures.below c.into_below.ensures c.in-Ok.ensures.empty c.in-Ok.ensures.unread c.serve_stream-left.ensures.served)

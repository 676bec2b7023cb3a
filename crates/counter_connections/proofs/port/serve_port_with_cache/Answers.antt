-- By the clauses of `serve_port` over the counter that was made of the cache.
use Rattle.std.proofs.Common.{ap, ap₂, inl, inr, refl, ◌∙◌}
use Rattle.store_cached.specs.Standing.{below, cached_status}
use Rattle.counter_connections.proofs.PortLemmas.{at, by_parts, port_through}
use Rattle.counter_connections.proofs.port.serve_port_with_cache.Goals as goal

pub returns : goal.returns
returns g c =
    inl (port_through g.S.StoreState.status (g.G.Gate.users c.args.asking.gate) g.C.Clock.may_give c.args.at.port c.args.at.requests _ _
    c.in-Ok.cached c.into_parts-cached.result.0
    (at c.args.store c.args.asking.moments) (at c.into_below-2.result c.into_parts-cached.result.1) c.serve_port-failed.result.0 c.serve_port-failed.result.1
    c.in-Ok.ensures.below c.into_below-2.ensures c.in-Ok.ensures.empty c.in-Ok.ensures.unread
    (by_parts (cached_status g.S.StoreState.status) g.C.Clock.may_give c.args.at.port c.args.at.requests _ _ _ _ _ _ _ _ _ _ _ _ c.serve_port-failed.result.0 c.serve_port-failed.result.1
    (ap g.G.Gate.users c.in-Ok-new.ensures.gate) c.in-Ok-new.ensures.store c.in-Ok-new.ensures.clock c.into_parts-cached.ensures.store c.into_parts-cached.ensures.clock
    c.serve_port-failed.ensures))

pub returns-in-Err-new : goal.returns-in-Err-new
returns-in-Err-new g c =
    inr (refl, ap₂ at (c.into_below.ensures ∙ ap below c.in-Err-new.ensures.returned.0 ∙ c.in-Ok.ensures.below) c.in-Err-new.ensures.returned.1, refl, refl)

-- By the clauses of `serve` over the counter that was made.
use Rattle.std.proofs.Common.{ap, rules}
use Rattle.counter_service.proofs.Parts.{by_parts}
use Rattle.counter_service.proofs.service.serve_stream.Goals as goal

pub returns-clause-served : goal.returns-clause-served
returns-clause-served g c = record {
  clock = c.serve-served.new.counter.clock;
  exit = by_parts g.S.StoreState.status _ _ _ _ _ _ _ _ _ _ _ _ _ _ _ c.serve-served.result (ap g.G.Gate.users c.in-Ok.ensures.gate) c.in-Ok.ensures.store c.in-Ok.ensures.clock c.into_parts-store.ensures.store c.serve-served.ensures.exit;
  failures = search rules;
}

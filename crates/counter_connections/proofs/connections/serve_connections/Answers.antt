use Rattle.std.proofs.Common.{◌≡◌, ◌+◌, ◌-◌, ◌<◌, ◌≤◌, ◌∙◌, ◌++◌, ◌∷◌, [], None, ap, arith, subst, sym}
use Rattle.counter_connections.specs.Connections.{IsConnection, counted}
use Rattle.money.specs.Counted.{counted_once_more}
use Rattle.counter_connections.specs.Failed.{CountEnds}
use Rattle.counter_connections.specs.declared.calls.CallFailures.{CallFailures}
use Rattle.counter_connections.proofs.CallLemmas.{ends_more}
use Rattle.counter_connections.proofs.ConnectionLemmas.{all_replied, counted_more, counts_at_most, ends_by_fault, one_day, served_more}
use Rattle.counter_connections.proofs.connections.serve_connections.Goals as goal

pub loop-wanted-preserved : goal.loop-wanted-preserved
loop-wanted-preserved g c =
    let inv = c.loop-wanted.invariant in
    let exit = c.serve_connection-exit.result in
    let left : c.loop-wanted.wanted ≡ c.args.requests - counted inv.exits = omega (arith, inv.counts) in
    let fewer : counted inv.exits < c.args.requests = omega (arith, inv.counts, c.loop-wanted-test.true) in
    let more : counted (inv.exits ++ exit ∷ []) ≡ counted inv.exits + c.counted-wanted.result = counted_more inv.exits exit ∙ ap (λ n. counted inv.exits + n) (sym c.counted-wanted.ensures) in
    let within : c.counted-wanted.result ≤ c.loop-wanted.wanted =
    subst (λ n. n ≤ c.loop-wanted.wanted) (sym c.counted-wanted.ensures)
    (counts_at_most exit c.loop-wanted.wanted c.loop-wanted-test.true c.serve_connection-exit.ensures.most) in
    record {
      exits = inv.exits ++ exit ∷ [];
      served = served_more g.S.StoreState.status (g.G.Gate.users c.args.counter.now.clerk.gate) g.C.Clock.may_give c.args.requests
          (record { store = c.args.counter.now.bank.store; clock = c.args.counter.now.clock })
          (record { store = c.loop-wanted.counter.bank.store; clock = c.loop-wanted.counter.clock })
          (record { store = c.serve_connection-exit.new.counter.bank.store; clock = c.serve_connection-exit.new.counter.clock })
          inv.exits exit inv.served fewer
          (subst (λ most. IsConnection g.S.StoreState.status (g.G.Gate.users c.args.counter.now.clerk.gate) g.C.Clock.may_give most
          (record { store = c.loop-wanted.counter.bank.store; clock = c.loop-wanted.counter.clock }) None None
          (record { store = c.serve_connection-exit.new.counter.bank.store; clock = c.serve_connection-exit.new.counter.clock }) exit)
          left
          (subst (λ known. IsConnection g.S.StoreState.status known g.C.Clock.may_give c.loop-wanted.wanted
          (record { store = c.loop-wanted.counter.bank.store; clock = c.loop-wanted.counter.clock }) None None
          (record { store = c.serve_connection-exit.new.counter.bank.store; clock = c.serve_connection-exit.new.counter.clock }) exit)
          inv.same_users c.serve_connection-exit.ensures.connection));
      counts = omega (arith, more, inv.counts, within);
      calls = ends_more _ _ _ inv.exits exit (subst (λ (x : CallFailures). CountEnds c.args.listener.now.calls x inv.exits) (sym c.in_ok-stream.ensures.calls) inv.calls) c.serve_connection-exit.ensures.calls;
      never = c.in_ok-stream.ensures.ok ∙ inv.never;
      same_users = c.serve_connection-exit.ensures.same_users ∙ inv.same_users;
    }

pub returns-in_err-stream : goal.returns-in_err-stream
returns-in_err-stream g c =
    let inv = c.loop-wanted.invariant in
    record {
      exits = inv.exits;
      served = inv.served;
      day = one_day g.S.StoreState.status (g.G.Gate.users c.args.counter.now.clerk.gate) g.C.Clock.may_give c.args.requests _ inv.exits _ inv.served;
      replied = all_replied g.S.StoreState.status (g.G.Gate.users c.args.counter.now.clerk.gate) g.C.Clock.may_give c.args.requests _ inv.exits _ inv.served;
      calls = subst (λ (x : CallFailures). CountEnds c.args.listener.now.calls x inv.exits) (sym c.in_err-stream.ensures.calls) inv.calls;
      ends = ends_by_fault c.from_residual.result _ _ _ c.from_residual.ensures.1 (omega (arith, inv.counts, c.loop-wanted-test.true), c.in_err-stream.ensures.err ∙ ap counted_once_more inv.never);
    }

pub returns : goal.returns
returns g c =
    let inv = c.loop-wanted.invariant in
    record {
      exits = inv.exits;
      served = inv.served;
      day = one_day g.S.StoreState.status (g.G.Gate.users c.args.counter.now.clerk.gate) g.C.Clock.may_give c.args.requests _ inv.exits _ inv.served;
      replied = all_replied g.S.StoreState.status (g.G.Gate.users c.args.counter.now.clerk.gate) g.C.Clock.may_give c.args.requests _ inv.exits _ inv.served;
      calls = inv.calls;
      ends = (omega (arith, inv.counts, c.loop-wanted-test.false), inv.never);
    }

-- What it holds stays as it was.
use Rattle.std.proofs.Common.{refl, sym}
use Rattle.counter_loop.proofs.FitLemmas.{fit_registered}
use Rattle.counter_loop.proofs.clients.Clients.register.Goals as goal

pub returns-in-Some-clause-fit : goal.returns-in-Some-clause-fit
returns-in-Some-clause-fit g c =
    fit_registered g.T.TwoWay.begins g.T.TwoWay.ways g.T.TwoWay.full g.T.TwoWay.failed c.args.self.now _ c.args.key c.in-Some.client.now c.register.new.self (sym c.in-Some.ensures.value) refl refl refl c.register.ensures.drains
    c.register.ensures.same.0 c.register.ensures.same.1 c.register.ensures.times c.register.ensures.full

-- One that is late was waited for too long.
use Rattle.std.proofs.Common.{◌≡◌, ◌≢◌, ◌⊎◌, true, rules, subst, ◌∙◌}
use Rattle.counter_loop.specs.Ends.{IsTooLate}
use Rattle.counter_loop.specs.declared.client.Client.{Client}
use Rattle.counter_loop.specs.declared.client.WaitsFor.TheVariants.{Visit}
use Rattle.counter_loop.proofs.BoxLemmas.{some_same}
use Rattle.counter_loop.proofs.FitLemmas.{fit_late}
use Rattle.counter_loop.proofs.clients.Clients.let_go_if_late.Goals as goal

pub returns-clause-fit : goal.returns-clause-fit
returns-clause-fit g c = fit_late g.T.TwoWay.begins g.T.TwoWay.ways g.T.TwoWay.full g.T.TwoWay.failed c.args.now c.args.self.now c.let_go.new.self c.args.key c.let_go.ensures.next c.let_go.ensures.gone c.let_go.ensures.parted
    (λ client got. subst (λ (x : Client g.row.T.Denot). (x.connection.is_closing ≡ true) ⊎ ((x.waits_for ≢ Visit) × IsTooLate c.args.now x.times)) (some_same c.in-Some.client.now client client (c.in-Some.ensures ∙ got)) (c.is_late.ensures (search rules)))

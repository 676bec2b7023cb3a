-- One on which nothing is under way holds nothing.
use Rattle.std.proofs.Common.{◌≡◌, [], rules, subst, ◌∙◌}
use Rattle.counter_loop.specs.declared.client.Client.{Client}
use Rattle.counter_loop.proofs.BoxLemmas.{some_same}
use Rattle.counter_loop.proofs.FitLemmas.{idle_out}
use Rattle.counter_loop.proofs.clients.Clients.let_go_if_idle.Goals as goal

pub returns-clause-fit : goal.returns-clause-fit
returns-clause-fit g c = λ rounds boxes fits. c.let_go.ensures.fit
    (λ client got. idle_out g.T.TwoWay.begins g.T.TwoWay.ways g.T.TwoWay.full g.T.TwoWay.failed client
    (subst (λ (x : Client g.row.T.Denot). (x.connection.held ≡ []) × (x.connection.unsent ≡ [])) (some_same c.in-Some.client.now client client (c.in-Some.ensures ∙ got)) (c.is_idle.ensures (search rules))))
    rounds boxes fits

-- A connection that begins has the next number, and nothing came of it yet.
use Rattle.std.proofs.Common.{◌≡◌, true, ap, refl, sym, subst, ◌∙◌}
use Rattle.slab.specs.Slab.{Slab, get}
use Rattle.counter_loop.specs.declared.client.Client.{Client}
use Rattle.counter_loop.proofs.FitLemmas.{fit_begun, fit_refused}
use Rattle.counter_loop.proofs.clients.Clients.insert.Goals as goal

pub returns-in-Ok-insert-clause-fit : goal.returns-in-Ok-insert-clause-fit
returns-in-Ok-insert-clause-fit g c =
    fit_begun g.T.TwoWay.begins g.T.TwoWay.ways g.T.TwoWay.full g.T.TwoWay.failed c.args.self.now _ c.in-Ok-insert.key c.in-Ok.client c.in-Ok-insert.ensures.was_vacant c.in-Ok-insert.ensures.updates refl refl
    c.in-Ok.ensures.serial c.in-Ok.ensures.opened c.in-Ok.ensures.times (subst (λ s. g.T.TwoWay.begins (g.T.TwoWay.ways s) ≡ true) (sym c.in-Ok.ensures.stream) c.requires.begun)

pub returns-in-Err-clause-fit : goal.returns-in-Err-clause-fit
returns-in-Err-clause-fit g c =
    fit_refused g.T.TwoWay.begins g.T.TwoWay.ways g.T.TwoWay.full g.T.TwoWay.failed c.args.self.now _ c.in-Err.stream (λ key. refl) refl c.part.ensures
    (subst (λ s. g.T.TwoWay.begins (g.T.TwoWay.ways s) ≡ true) (sym c.in-Err.ensures.refused) c.requires.begun)

pub returns-in-Err-insert-clause-fit : goal.returns-in-Err-insert-clause-fit
returns-in-Err-insert-clause-fit g c =
    fit_refused g.T.TwoWay.begins g.T.TwoWay.ways g.T.TwoWay.full g.T.TwoWay.failed c.args.self.now _ c.into_stream.result (λ key. ap (λ (s : Slab (Client g.row.T.Denot)). get s key) c.in-Err-insert.ensures.err) refl c.part-in-Err-insert.ensures
    (subst (λ s. g.T.TwoWay.begins (g.T.TwoWay.ways s) ≡ true) (sym (c.into_stream.ensures ∙ ap (λ (x : Client g.row.T.Denot). x.stream) c.in-Err-insert.ensures.value_returned ∙ c.in-Ok.ensures.stream)) c.requires.begun)

-- One was let go, and the others stay as they were.
use Rattle.std.proofs.Common.{[], ◌∷◌, ◌++◌, ap, refl, subst, ◌∙◌}
use Rattle.counter_loop.specs.Boxes.{IsPartedAfter}
use Rattle.counter_loop.proofs.FitLemmas.{fit_removed}
use Rattle.counter_loop.proofs.SuitLemmas.{removed}
use Rattle.counter_loop.proofs.clients.Clients.let_go.Goals as goal

pub returns-in-Some-clause-parted : goal.returns-in-Some-clause-parted
returns-in-Some-clause-parted g c =
    subst (IsPartedAfter c.args.self.now.parted.log.items c.part.new.self.log.items) c.in-Some.ensures.value
    (c.part.ensures ∙ ap (λ (s : g.row.T.Denot). c.args.self.now.parted.log.items ++ s ∷ []) c.into_stream.ensures)

pub returns-in-Some-clause-suited : goal.returns-in-Some-clause-suited
returns-in-Some-clause-suited g c =
    removed g.T.TwoWay.begins g.T.TwoWay.ways g.T.TwoWay.full g.T.TwoWay.failed c.args.self.now _ c.args.key refl c.in-Some.ensures.updates
    (subst (IsPartedAfter c.args.self.now.parted.log.items c.part.new.self.log.items) c.in-Some.ensures.value
    (c.part.ensures ∙ ap (λ (s : g.row.T.Denot). c.args.self.now.parted.log.items ++ s ∷ []) c.into_stream.ensures))

pub returns-in-Some-clause-fit : goal.returns-in-Some-clause-fit
returns-in-Some-clause-fit g c =
    fit_removed g.T.TwoWay.begins g.T.TwoWay.ways g.T.TwoWay.full g.T.TwoWay.failed c.args.self.now _ c.args.key refl c.in-Some.ensures.updates
    (subst (IsPartedAfter c.args.self.now.parted.log.items c.part.new.self.log.items) c.in-Some.ensures.value
    (c.part.ensures ∙ ap (λ (s : g.row.T.Denot). c.args.self.now.parted.log.items ++ s ∷ []) c.into_stream.ensures))

-- Each is visited, and then round after round.
use Rattle.std.specs.Prelude.{⊤}
use Rattle.std.proofs.Common.{inl, refl, ◌∙◌}
use Rattle.counter_loop.proofs.ReportLemmas.{shown_before}
use Rattle.counter_loop.proofs.RoundLemmas.{go_failed, go_on, goes_first, goes_more, round_by, round_of_each}
use Rattle.counter_loop.proofs.rounds.end_serving.Goals as goal

pub loop-init : goal.loop-init
loop-init g c = record {
  goes = goes_first g.T.TwoWay.begins g.T.TwoWay.ways g.T.TwoWay.used_up g.T.TwoWay.full g.T.TwoWay.failed (g.R.Readiness.shows c.args.system.now) g.E.Service.status g.E.Service.users g.E.Service.may_give c.args.now _ _ _ _ _
      (round_of_each g.T.TwoWay.begins g.T.TwoWay.ways g.T.TwoWay.used_up g.T.TwoWay.full g.T.TwoWay.failed c.args.now g.E.Service.status g.E.Service.users g.E.Service.may_give (λ _. ⊤) _ _ _ _ (λ x. inl tt) c.visit_last.ensures);
  clock = refl;
}

pub returns-in_err-began : goal.returns-in_err-began
returns-in_err-began g c =
    go_on g.T.TwoWay.begins g.T.TwoWay.ways g.T.TwoWay.used_up g.T.TwoWay.full g.T.TwoWay.failed (g.R.Readiness.shows c.args.system.now) g.E.Service.status g.E.Service.users g.E.Service.may_give c.args.now _ _ _ _ _ _
    (goes_first g.T.TwoWay.begins g.T.TwoWay.ways g.T.TwoWay.used_up g.T.TwoWay.full g.T.TwoWay.failed (g.R.Readiness.shows c.args.system.now) g.E.Service.status g.E.Service.users g.E.Service.may_give c.args.now _ _ _ _ _
    (round_of_each g.T.TwoWay.begins g.T.TwoWay.ways g.T.TwoWay.used_up g.T.TwoWay.full g.T.TwoWay.failed c.args.now g.E.Service.status g.E.Service.users g.E.Service.may_give (λ _. ⊤) _ _ _ _ (λ x. inl tt) c.visit_last.ensures))

pub loop-preserved : goal.loop-preserved
loop-preserved g c = record {
  goes = goes_more g.T.TwoWay.begins g.T.TwoWay.ways g.T.TwoWay.used_up g.T.TwoWay.full g.T.TwoWay.failed (g.R.Readiness.shows c.args.system.now) g.E.Service.status g.E.Service.users g.E.Service.may_give c.args.now _ _ _ _ _ _ _ _ _ _ _ c.loop.invariant.goes c.wait.ensures.reported (inl (shown_before _ _ _ _ _ c.loop.invariant.clock refl c.in_ok-now.ensures))
      (round_by g.T.TwoWay.begins g.T.TwoWay.ways g.T.TwoWay.used_up g.T.TwoWay.full g.T.TwoWay.failed _ g.E.Service.status g.E.Service.users g.E.Service.may_give _ _ _ _ _ _ c.deref.ensures.value c.serve_round.ensures);
  clock = c.wait.ensures.clock ∙ c.loop.invariant.clock;
}

pub returns-in_err-now : goal.returns-in_err-now
returns-in_err-now g c = go_on g.T.TwoWay.begins g.T.TwoWay.ways g.T.TwoWay.used_up g.T.TwoWay.full g.T.TwoWay.failed (g.R.Readiness.shows c.args.system.now) g.E.Service.status g.E.Service.users g.E.Service.may_give c.args.now _ _ _ _ _ _ c.loop.invariant.goes

pub returns-in_err-wait : goal.returns-in_err-wait
returns-in_err-wait g c = go_failed g.T.TwoWay.begins g.T.TwoWay.ways g.T.TwoWay.used_up g.T.TwoWay.full g.T.TwoWay.failed (g.R.Readiness.shows c.args.system.now) g.E.Service.status g.E.Service.users g.E.Service.may_give c.args.now _ _ _ _ _ _ _ _ c.loop.invariant.goes c.wait.ensures.reported

pub returns : goal.returns
returns g c = go_on g.T.TwoWay.begins g.T.TwoWay.ways g.T.TwoWay.used_up g.T.TwoWay.full g.T.TwoWay.failed (g.R.Readiness.shows c.args.system.now) g.E.Service.status g.E.Service.users g.E.Service.may_give c.args.now _ _ _ _ _ _ c.loop.invariant.goes

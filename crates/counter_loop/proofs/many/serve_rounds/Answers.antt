-- Round after round, from no connection on.
use Rattle.std.proofs.Common.{◌∷◌, [], ◌++◌, Contains, ap, arith, inr, refl, rules, sym, ◌∙◌}
use Rattle.counter_door.specs.Readiness.{with_reports}
use Rattle.counter_loop.specs.Turns.{nothing_yet}
use Rattle.counter_door.specs.declared.readiness.Ready.TheVariants.{End}
use Rattle.counter_loop.proofs.ChainLemmas.{going_none, going_on, going_to_end, next_to_end, served_none, served_now, served_so}
use Rattle.counter_loop.proofs.FitLemmas.{fit_nobody}
use Rattle.counter_loop.proofs.RoundLemmas.{go_on_same, round_by}
use Rattle.counter_loop.proofs.ReportLemmas.{ended, however, reports_after, reports_by, reports_then, shown_before, with_more, with_none}
use Rattle.counter_loop.proofs.many.serve_rounds.Goals as goal

pub loop-init : goal.loop-init
loop-init g c =
    let fits = c.let_in.ensures.fit [] nothing_yet (fit_nobody g.D.Stream.TwoWay.begins g.D.Stream.TwoWay.ways g.D.Stream.TwoWay.full g.D.Stream.TwoWay.failed [] _ c.requires.held c.requires.next c.requires.parted) in (
      [],
      going_none g.D.Stream.TwoWay.begins g.D.Stream.TwoWay.ways g.D.Stream.TwoWay.used_up g.D.Stream.TwoWay.full g.D.Stream.TwoWay.failed g.E.Service.status g.E.Service.users g.E.Service.may_give (g.R.Readiness.shows c.args.system.now) _ c.let_in.new.clients _ fits,
      sym (with_none _),
      refl,
      (let next = c.requires.next in let given = c.let_in.ensures.given in omega (arith, next, given)),
    )

pub loop-preserved : goal.loop-preserved
loop-preserved g c = (
  c.loop.invariant.0 ++ c.wait.new.ready.items ∷ [],
  going_on g.D.Stream.TwoWay.begins g.D.Stream.TwoWay.ways g.D.Stream.TwoWay.used_up g.D.Stream.TwoWay.full g.D.Stream.TwoWay.failed g.E.Service.status g.E.Service.users g.E.Service.may_give (g.R.Readiness.shows c.args.system.now) _ _
      c.loop.invariant.0 c.wait.new.ready.items c.loop.clients c.serve_round.new.clients c.sweep-swept.new.clients _ _ _ c.loop.invariant.1
      (inr (shown_before _ _ _ _ _ (c.wait.ensures.clock ∙ c.loop.invariant.3) (c.wait.ensures.reported ∙ ap (λ o. with_reports o (c.wait.new.ready.items ∷ [])) c.loop.invariant.2) c.in_ok-now.ensures))
      (round_by g.D.Stream.TwoWay.begins g.D.Stream.TwoWay.ways g.D.Stream.TwoWay.used_up g.D.Stream.TwoWay.full g.D.Stream.TwoWay.failed _ g.E.Service.status g.E.Service.users g.E.Service.may_give _ _ _ _ _ _ c.deref-in-loop.ensures.value c.serve_round.ensures)
      (λ rounds boxes at fits. c.sweep-swept.ensures.fit rounds boxes at (c.let_in_if_reported.ensures.fit rounds boxes fits)),
  with_more _ _ _ c.loop.invariant.0 c.wait.new.ready.items c.loop.invariant.2 c.wait.ensures.reported,
  c.wait.ensures.clock ∙ c.loop.invariant.3,
  (
      let was = c.loop.invariant.4 in
      let round = c.serve_round.ensures.next in
      let reported = c.let_in_if_reported.ensures.given in
      let swept = c.sweep-swept.ensures.given in
      omega (arith, was, round, reported, swept)
      ),
)

pub returns-then-has_ended-clause-rounds : goal.returns-then-has_ended-clause-rounds
returns-then-has_ended-clause-rounds g c =
    served_so g.D.Stream.TwoWay.begins g.D.Stream.TwoWay.ways g.D.Stream.TwoWay.used_up g.D.Stream.TwoWay.full g.D.Stream.TwoWay.failed g.E.Service.status g.E.Service.users g.E.Service.may_give (g.R.Readiness.shows c.args.system.now) (c.loop.invariant.0 ++ c.wait.new.ready.items ∷ c.end_serving.ensures.later) c.end_serving.ensures.last c.end_serving.new.clients _ _ _ _
    (going_to_end g.D.Stream.TwoWay.begins g.D.Stream.TwoWay.ways g.D.Stream.TwoWay.used_up g.D.Stream.TwoWay.full g.D.Stream.TwoWay.failed g.E.Service.status g.E.Service.users g.E.Service.may_give (g.R.Readiness.shows c.args.system.now) _ _ c.loop.invariant.0 c.wait.new.ready.items
    c.loop.clients c.end_serving.new.clients _ _ _ _ _ c.loop.invariant.1 (with_more _ _ _ c.loop.invariant.0 c.wait.new.ready.items c.loop.invariant.2 c.wait.ensures.reported) (inr (shown_before _ _ _ _ _ (c.wait.ensures.clock ∙ c.loop.invariant.3) (c.wait.ensures.reported ∙ ap (λ o. with_reports o (c.wait.new.ready.items ∷ [])) c.loop.invariant.2) c.in_ok-now.ensures))
    (go_on_same g.D.Stream.TwoWay.begins g.D.Stream.TwoWay.ways g.D.Stream.TwoWay.used_up g.D.Stream.TwoWay.full g.D.Stream.TwoWay.failed _ _ g.E.Service.status g.E.Service.users g.E.Service.may_give _ _ _ _ _ _ _ (c.wait.ensures.clock ∙ c.loop.invariant.3) c.end_serving.ensures))
    c.end_serving.ensures.one
    (reports_after _ _ _ _ c.loop.invariant.0 c.wait.new.ready.items c.end_serving.ensures.later c.end_serving.ensures.last (reports_by _ _ c.loop.invariant.0 c.loop.invariant.2) (reports_by _ _ (c.wait.new.ready.items ∷ []) c.wait.ensures.reported) c.end_serving.ensures.reported)

pub returns-then-has_ended-clause-ended : goal.returns-then-has_ended-clause-ended
returns-then-has_ended-clause-ended g c =
    let is : Contains c.wait.new.ready.items End = search (rules, c.has_ended.ensures c.if-has_ended.true) in
    however _ c.end_serving.result (ended _ _ _ _ c.loop.invariant.0 (c.end_serving.ensures.later ++ c.end_serving.ensures.last) c.wait.new.ready.items (reports_by _ _ c.loop.invariant.0 c.loop.invariant.2) (reports_by _ _ (c.wait.new.ready.items ∷ []) c.wait.ensures.reported) c.end_serving.ensures.reported is)

pub returns-in_err-ready-clause-rounds : goal.returns-in_err-ready-clause-rounds
returns-in_err-ready-clause-rounds g c =
    served_none g.D.Stream.TwoWay.begins g.D.Stream.TwoWay.ways g.D.Stream.TwoWay.used_up g.D.Stream.TwoWay.full g.D.Stream.TwoWay.failed g.E.Service.status g.E.Service.users g.E.Service.may_give (g.R.Readiness.shows c.args.system.now) _ _ _
    (fit_nobody g.D.Stream.TwoWay.begins g.D.Stream.TwoWay.ways g.D.Stream.TwoWay.full g.D.Stream.TwoWay.failed [] _ c.requires.held c.requires.next c.requires.parted)

pub returns-in_err-swept-clause-rounds : goal.returns-in_err-swept-clause-rounds
returns-in_err-swept-clause-rounds g c =
    served_none g.D.Stream.TwoWay.begins g.D.Stream.TwoWay.ways g.D.Stream.TwoWay.used_up g.D.Stream.TwoWay.full g.D.Stream.TwoWay.failed g.E.Service.status g.E.Service.users g.E.Service.may_give (g.R.Readiness.shows c.args.system.now) _ _ _
    (fit_nobody g.D.Stream.TwoWay.begins g.D.Stream.TwoWay.ways g.D.Stream.TwoWay.full g.D.Stream.TwoWay.failed [] _ c.requires.held c.requires.next c.requires.parted)

pub returns-in_err-wait-clause-rounds : goal.returns-in_err-wait-clause-rounds
returns-in_err-wait-clause-rounds g c =
    served_so g.D.Stream.TwoWay.begins g.D.Stream.TwoWay.ways g.D.Stream.TwoWay.used_up g.D.Stream.TwoWay.full g.D.Stream.TwoWay.failed g.E.Service.status g.E.Service.users g.E.Service.may_give (g.R.Readiness.shows c.args.system.now) c.loop.invariant.0 (c.wait.new.ready.items ∷ []) c.loop.clients _ _ _ _ c.loop.invariant.1 (omega arith)
    (reports_then _ _ _ _ _ (reports_by _ _ c.loop.invariant.0 c.loop.invariant.2) (reports_by _ _ (c.wait.new.ready.items ∷ []) c.wait.ensures.reported))

pub returns-in_err-now-clause-rounds : goal.returns-in_err-now-clause-rounds
returns-in_err-now-clause-rounds g c =
    served_so g.D.Stream.TwoWay.begins g.D.Stream.TwoWay.ways g.D.Stream.TwoWay.used_up g.D.Stream.TwoWay.full g.D.Stream.TwoWay.failed g.E.Service.status g.E.Service.users g.E.Service.may_give (g.R.Readiness.shows c.args.system.now) c.loop.invariant.0 (c.wait.new.ready.items ∷ []) c.loop.clients _ _ _ _ c.loop.invariant.1 (omega arith)
    (reports_then _ _ _ _ _ (reports_by _ _ c.loop.invariant.0 c.loop.invariant.2) (reports_by _ _ (c.wait.new.ready.items ∷ []) c.wait.ensures.reported))

pub returns-clause-rounds : goal.returns-clause-rounds
returns-clause-rounds g c = served_now g.D.Stream.TwoWay.begins g.D.Stream.TwoWay.ways g.D.Stream.TwoWay.used_up g.D.Stream.TwoWay.full g.D.Stream.TwoWay.failed g.E.Service.status g.E.Service.users g.E.Service.may_give (g.R.Readiness.shows c.args.system.now) c.loop.invariant.0 c.loop.clients _ _ _ _ c.loop.invariant.1 (reports_by _ _ c.loop.invariant.0 c.loop.invariant.2)

pub returns-then-has_ended-clause-given : goal.returns-then-has_ended-clause-given
returns-then-has_ended-clause-given g c =
    let was = c.loop.invariant.4 in
    let next = next_to_end g.D.Stream.TwoWay.begins g.D.Stream.TwoWay.ways g.D.Stream.TwoWay.used_up g.D.Stream.TwoWay.full g.D.Stream.TwoWay.failed g.E.Service.status g.E.Service.users g.E.Service.may_give _ _ _ _ _ _ _ _ c.end_serving.ensures in
    omega (arith, was, next)

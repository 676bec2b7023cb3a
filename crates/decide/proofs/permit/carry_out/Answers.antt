use Rattle.std.proofs.Common.{None, ◌∙◌, ap, sym, subst, refl}
use mathlib.Core.Option.{some}
use Rattle.op_prepare.specs.declared.prepared.Ready.{Ready}
use Rattle.decide.specs.Permit.{ChangesNothing, IsApplied, IsReplyOf}
use Rattle.decide.specs.declared.permit.Reply.TheVariants as reply
use Rattle.decide.proofs.CarriedOut.{carries, settles}
use Rattle.decide.proofs.permit.carry_out.Goals as goal

pub returns-in_ok-apply_plan-in-Change : goal.returns-in_ok-apply_plan-in-Change
returns-in_ok-apply_plan-in-Change g c =
    let change = c.in-Change.field-0 in
    let applied : IsApplied (g.S.StoreState.status c.args.permit.bank.now.store) (g.S.StoreState.status c.new.result.bank.now.store) change.plan.items None =
    subst (λ b. IsApplied (g.S.StoreState.status c.args.permit.bank.now.store) (g.S.StoreState.status b.store) change.plan.items None) (sym c.new.ensures.bank) c.in_ok-apply_plan-in-Change.ensures.applied in (
      (ap some (sym c.new.ensures.same_reference), λ w. refl, tt),
      record {
        fault = tt;
        same_reference = c.new.ensures.same_reference;
        effect = carries _ _ c.args.permit change c.in-Change.is applied;
        replied = subst (λ (a : Ready). IsReplyOf a (reply.Done c.new.result)) (sym c.in-Change.is) (ap (λ body. body.items) c.new.ensures.body);
        settled = λ honest w leave holds. settles _ _ c.args.permit change c.in-Change.is applied honest w leave holds;
        asked = tt;
        untouched = λ none.
            c.new.ensures.bank ∙ ap (λ store. record { store = store }) (c.in_ok-apply_plan-in-Change.ensures.untouched (subst ChangesNothing c.in-Change.is none)).1;
      },
    )

-- What a plan that was applied, or a report that was counted, makes of the Worlds that authorized it.
use Rattle.std.proofs.Common.{◌≡◌, None, inl, inr, refl, subst, ◌⊎◌, sym}
use Rattle.bank_books.specs.WorldLists.{WorldLists}
use Rattle.store_rows.specs.Status.{Status}
use Rattle.bank_meaning.specs.Requests.{executes, verdict}
use Rattle.op_prepare.specs.declared.prepared.Prepared.{Prepared}
use Rattle.op_prepare.specs.declared.prepared.Ready.TheVariants as ready
use Rattle.reports.specs.declared.contents.Contents.{Contents}
use Rattle.reports.proofs.StatusLemmas.{keeps_still}
use Rattle.decide.specs.Permit.{CarriesOut, IsApplied, IsLeave, IsSettled, Makes}
use Rattle.decide.specs.declared.permit.Permit.{Permit}

module _ {S : Type 0} where
  -- ---- a change

  plan_makes : (w : WorldLists) (p : Permit S) (change : Prepared) → p.ready ≡ ready.Change change → IsLeave w p → Makes w (verdict (executes p.execution) w) (ready.Change change)
  plan_makes w p change is leave = subst (Makes w (verdict (executes p.execution) w)) is leave.makes

  pub carries : (old new : Status) (p : Permit S) (change : Prepared) → p.ready ≡ ready.Change change → IsApplied old new change.plan.items None → CarriesOut old new p None
  carries old new p change ready_is is = record {
    answers = is.answers;
    moved = λ w leave holds. subst new.holds (plan_makes w p change ready_is leave).0 (is.moved w holds);
    crash = λ honest w left leave holds may. subst (λ v. old.may_leave left ⊎ (left ≡ v)) (plan_makes w p change ready_is leave).0 (is.crash honest w left holds may);
    whole = is.whole;
  }

  pub settles : (old new : Status) (p : Permit S) (change : Prepared) → p.ready ≡ ready.Change change → IsApplied old new change.plan.items None → new.is_honest
      → (w : WorldLists) → IsLeave w p → old.holds w → IsSettled old new w p
  settles old new p change ready_is is honest w leave holds =
      subst (λ v. ((left : WorldLists) → new.may_leave left → left ≡ v) ⊎ ((v ≡ w) × ((left : WorldLists) → new.may_leave left → old.may_leave left))) (plan_makes w p change ready_is leave).0 (is.settled honest refl w holds)

  -- ---- a report

  report_makes : (w : WorldLists) (p : Permit S) (c : Contents) → p.ready ≡ ready.Report c → IsLeave w p → Makes w (verdict (executes p.execution) w) (ready.Report c)
  report_makes w p c is leave = subst (Makes w (verdict (executes p.execution) w)) is leave.makes

  pub reports : (s : Status) (p : Permit S) (c : Contents) → p.ready ≡ ready.Report c → CarriesOut s s p None
  reports s p c ready_is = record {
    answers = (keeps_still s).answers;
    moved = λ w leave holds. subst s.holds (sym (report_makes w p c ready_is leave).0) holds;
    crash = λ honest w left leave holds may. inl may;
    whole = λ honest w holds before. before;
  }

  pub report_settles : (s : Status) (p : Permit S) (c : Contents) → p.ready ≡ ready.Report c → (w : WorldLists) → IsLeave w p → IsSettled s s w p
  report_settles s p c ready_is w leave = inr ((report_makes w p c ready_is leave).0, λ left may. may)

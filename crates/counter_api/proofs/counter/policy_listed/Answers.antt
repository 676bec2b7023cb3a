use Rattle.std.proofs.Common.{rules, ◌≡◌, Ok, Err, refl, subst, sym}
use Rattle.money.specs.Counted.{stream_of}
use Rattle.money.specs.declared.fault.Fault.TheVariants.{Memory}
use Rattle.store_rows.specs.declared.bank.Bank.{Bank}
use Rattle.bank_meaning.specs.declared.request.Asked.TheVariants as asked
use Rattle.bank_meaning.specs.declared.request.Request.{Request}
use Rattle.counter_api.specs.CarriedOut.{IsCarried}
use Rattle.counter_api.specs.declared.counter.Outcome.TheVariants as outcome
use Rattle.counter_api.proofs.Reported.{report_carried}
use Rattle.counter_api.proofs.counter.policy_listed.Goals as goal

-- where the lender ends as the second, what holds of that holds of it
at_end : {B : Type 0} (P : B → Type 0) (x y : B) → x ≡ y → P y → P x
at_end P x y same h = subst P (sym same) h

pub returns-in_err-denied-in-Ok-Denied-clause-carried : goal.returns-in_err-denied-in-Ok-Denied-clause-carried
returns-in_err-denied-in-Ok-Denied-clause-carried g c =
    let stated : c.from_residual.result ≡ Err Memory = search rules in
    rw stated (search rules)

pub returns-in-Ok-Report-clause-carried : goal.returns-in-Ok-Report-clause-carried
returns-in-Ok-Report-clause-carried g c =
    let kept = rw c.in-Ok-Report.field-0-is at c.in-Ok-Report.ensures.kept in
    let reported = rw c.in-Ok-Report.field-0-is at c.in-Ok-Report.ensures.listed in
    let name = rw c.in-Ok-Report.field-0-is at c.in-Ok-Report.ensures.same_reference in
    let start = g.S.StoreState.status c.args.bank.now.store in
    let q : Request = record { who = c.args.who; moment = c.args.moment; asked = asked.Listing } in
    at_end (λ (b : Bank g.row.S.Denot). IsCarried start (g.S.StoreState.status b.store) (g.W.Write.contents (stream_of c.args.writer.now)) (g.W.Write.contents (stream_of c.streamed.new.writer)) c.args.message.now q (Ok (outcome.Report c.streamed.result)))
    c.bank-in-Ok-Report-1.given.0 c.streamed.new.report.0 (search rules)
    (report_carried start (g.S.StoreState.status c.in-Ok-Report.report.bank.now.store) _ _ _ c.args.message.now q c.in-Ok-Report.report.contents kept reported (λ honest w held. refl) (λ w. refl) c.in-Ok-Report.ensures.refused tt c.streamed.result c.streamed.ensures.streamed c.streamed.ensures.cause)

use Rattle.std.proofs.Common.{rules, ◌≡◌, true, None, Some, Ok, Err, refl, ap, subst, sym, ◌∙◌}
use Rattle.money.specs.Counted.{stream_of}
use Rattle.money.specs.declared.fault.Fault.TheVariants.{Memory}
use Rattle.store_rows.specs.Status.{Keeps, Tells}
use Rattle.store_rows.specs.declared.bank.Bank.{Bank}
use Rattle.bank_meaning.specs.Operations.{is_report}
use Rattle.bank_meaning.specs.Requests.{repeated, verdict}
use Rattle.bank_meaning.specs.Run.{reply}
use Rattle.bank_meaning.specs.declared.request.Asked.TheVariants as asked
use Rattle.bank_meaning.specs.declared.request.Request.{Request}
use Rattle.decide.specs.OneRequest.{Moves, Settles}
use Rattle.decide.specs.Permit.{CarriesOut, IsReadyFor, reply_bank}
use Rattle.decide.specs.declared.permit.Reply.{Reply}
use Rattle.op_prepare.specs.Judged.{IsReported}
use Rattle.op_prepare.specs.declared.prepared.Ready.{Ready}
use Rattle.counter_api.specs.CarriedOut.{IsCarried, IsCarriedOut}
use Rattle.counter_api.specs.Run.{IsResponse, reply_parts}
use Rattle.counter_api.specs.declared.counter.Outcome.TheVariants as outcome
use Rattle.counter_api.proofs.CarriedOut.{HasContents, IsText, denial_forgotten, done_reported, nothing_changed, permit_fresh, permit_leaves, permit_moves, permit_reported, permit_stays, permit_whole, ready_is, settles}
use Rattle.counter_api.proofs.Reported.{report_carried}
use Rattle.counter_api.proofs.counter.Clerk.operation_done.Goals as goal

-- where the lender ends as the second, what holds of that holds of it
at_end : {B : Type 0} (P : B → Type 0) (x y : B) → x ≡ y → P y → P x
at_end P x y same h = subst P (sym same) h

pub returns-in_err-denied-in-Ok-Denied-clause-carried : goal.returns-in_err-denied-in-Ok-Denied-clause-carried
returns-in_err-denied-in-Ok-Denied-clause-carried g c =
    let kept = rw c.in-Ok-Denied.field-0-is at c.in-Ok-Denied.ensures.kept in
    let decided = rw c.in-Ok-Denied.field-0-is at c.in-Ok-Denied.ensures.decided in
    let name = rw c.in-Ok-Denied.field-0-is at c.in-Ok-Denied.ensures.same_reference in
    let start = g.S.StoreState.status c.args.bank.now.store in
    let d = c.in-Ok-Denied.denial in
    let q : Request = record { who = c.args.asker.who; moment = c.args.asker.moment; asked = asked.Operation c.args.op.now } in
    let stated : c.from_residual.result ≡ Err Memory = search rules in
    rw stated
    (at_end (λ (b : Bank g.row.S.Denot). IsCarriedOut IsResponse start (g.S.StoreState.status b.store) q (Err Memory)) _ d.bank.now (search (rules, name))
    (denial_forgotten start (g.S.StoreState.status d.bank.now.store) q d kept decided))

pub returns-in-Ok-Done-clause-carried : goal.returns-in-Ok-Done-clause-carried
returns-in-Ok-Done-clause-carried g c =
    let kept = rw c.in-Ok-Allowed.field-0-is at c.in-Ok-Allowed.ensures.kept in
    let decided = rw c.in-Ok-Allowed.field-0-is at c.in-Ok-Allowed.ensures.decided in
    let permit_name = rw c.in-Ok-Allowed.field-0-is at c.in-Ok-Allowed.ensures.same_reference in
    let start = g.S.StoreState.status c.args.bank.now.store in
    let mid = g.S.StoreState.status c.in-Ok-Allowed.permit.bank.now.store in
    let end = g.S.StoreState.status (reply_bank c.in-Ok-Done.field-0).now.store in
    let q : Request = record { who = c.args.asker.who; moment = c.args.asker.moment; asked = asked.Operation c.args.op.now } in
    let settled : Settles start end q None = settles start mid end q c.in-Ok-Allowed.permit kept decided c.in-Ok-Done.ensures.effect c.in-Ok-Done.ensures.settled in
    let text : IsText c.in-Ok-Done.field-0 c.into_body-in-Ok-Done.result.items =
    subst (λ (r : Reply g.row.S.Denot). IsText r c.into_body-in-Ok-Done.result.items) (sym c.in-Ok-Done.field-0-is) (ap (λ body. body.items) c.into_body-in-Ok-Done.ensures.body) in
    let stated = done_reported start mid end q c.in-Ok-Allowed.permit c.in-Ok-Done.field-0 c.into_body-in-Ok-Done.result.items kept decided c.in-Ok-Done.ensures.effect c.in-Ok-Done.ensures.replied text in
    let replied : Tells start end (λ w. c.done-in-Ok-Done.result ≡ reply_parts (reply w q)) = λ honest w holds. c.done-in-Ok-Done.ensures ∙ stated honest w holds in
    record {
      answers = search rules;
      moved = at_end (λ (b : Bank g.row.S.Denot). Moves start (g.S.StoreState.status b.store) q None) _ (reply_bank c.in-Ok-Done.field-0).now (search rules)
          (permit_moves start mid end q c.in-Ok-Allowed.permit kept decided c.in-Ok-Done.ensures.effect);
      replied = at_end (λ (b : Bank g.row.S.Denot). Tells start (g.S.StoreState.status b.store) (λ w. c.done-in-Ok-Done.result ≡ reply_parts (reply w q))) _ (reply_bank c.in-Ok-Done.field-0).now (search rules) replied;
      room = search rules;
      crash = search rules;
      whole = search rules;
      settled = at_end (λ (b : Bank g.row.S.Denot). Settles start (g.S.StoreState.status b.store) q None) _ (reply_bank c.in-Ok-Done.field-0).now (search rules) settled;
      refused = search rules;
      stranger = search rules;
    }

pub returns-in-Ok-Report-clause-carried : goal.returns-in-Ok-Report-clause-carried
returns-in-Ok-Report-clause-carried g c =
    let kept = rw c.in-Ok-Allowed.field-0-is at c.in-Ok-Allowed.ensures.kept in
    let decided = rw c.in-Ok-Allowed.field-0-is at c.in-Ok-Allowed.ensures.decided in
    let permit_name = rw c.in-Ok-Allowed.field-0-is at c.in-Ok-Allowed.ensures.same_reference in
    let start = g.S.StoreState.status c.args.bank.now.store in
    let permit = c.in-Ok-Allowed.permit in
    let contents = c.in-Ok-Report.report.contents in
    let q : Request = record { who = c.args.asker.who; moment = c.args.asker.moment; asked = asked.Operation c.args.op.now } in
    let has : HasContents c.in-Ok-Report.field-0 contents = subst (λ (r : Reply g.row.S.Denot). HasContents r contents) (sym c.in-Ok-Report.field-0-is) refl in
    let ready = ready_is permit.ready c.in-Ok-Report.field-0 contents c.in-Ok-Report.ensures.replied has in
    let same : c.in-Ok-Report.report.bank.now ≡ permit.bank.now =
    ap (λ (r : Reply g.row.S.Denot). (reply_bank r).now) (sym c.in-Ok-Report.field-0-is) ∙ c.in-Ok-Report.ensures.untouched (nothing_changed permit.ready contents ready) in
    let kept_on : Keeps start (g.S.StoreState.status c.in-Ok-Report.report.bank.now.store) None = subst (λ (b : Bank g.row.S.Denot). Keeps start (g.S.StoreState.status b.store) None) (sym same) kept in
    let reported : Tells start (g.S.StoreState.status c.in-Ok-Report.report.bank.now.store) (λ w. IsReported w (verdict q w) contents) =
    subst (λ (b : Bank g.row.S.Denot). Tells start (g.S.StoreState.status b.store) (λ w. IsReported w (verdict q w) contents)) (sym same)
    (λ honest w holds. permit_reported w q permit contents ready (decided honest w holds)) in
    let fresh : Tells start (g.S.StoreState.status c.in-Ok-Report.report.bank.now.store) (λ w. repeated w q ≡ None) =
    subst (λ (b : Bank g.row.S.Denot). Tells start (g.S.StoreState.status b.store) (λ w. repeated w q ≡ None)) (sym same)
    (λ honest w holds. permit_fresh w q permit (decided honest w holds)) in
    let asks : is_report c.args.op.now ≡ true = subst (λ (r : Ready). IsReadyFor (is_report c.args.op.now) r) ready (rw c.in-Ok-Allowed.field-0-is at c.in-Ok-Allowed.ensures.reports) in
    at_end (λ (b : Bank g.row.S.Denot). IsCarried start (g.S.StoreState.status b.store) (g.W.Write.contents (stream_of c.args.writer.now)) (g.W.Write.contents (stream_of c.streamed.new.writer)) c.args.message.now q (Ok (outcome.Report c.streamed.result)))
    c.bank-in-Ok-Report-1.given.0 c.streamed.new.report.0 (search rules)
    (report_carried start (g.S.StoreState.status c.in-Ok-Report.report.bank.now.store) _ _ _ c.args.message.now q contents kept_on reported fresh (λ w. refl) c.in-Ok-Allowed.ensures.refused asks c.streamed.result c.streamed.ensures.streamed c.streamed.ensures.cause)

pub returns-in-Err-carry_out-clause-carried : goal.returns-in-Err-carry_out-clause-carried
returns-in-Err-carry_out-clause-carried g c =
    let kept = rw c.in-Ok-Allowed.field-0-is at c.in-Ok-Allowed.ensures.kept in
    let decided = rw c.in-Ok-Allowed.field-0-is at c.in-Ok-Allowed.ensures.decided in
    let permit_name = rw c.in-Ok-Allowed.field-0-is at c.in-Ok-Allowed.ensures.same_reference in
    let start = g.S.StoreState.status c.args.bank.now.store in
    let mid = g.S.StoreState.status c.in-Ok-Allowed.permit.bank.now.store in
    let end = g.S.StoreState.status c.carry_out.follows.lender-at-none.store in
    let q : Request = record { who = c.args.asker.who; moment = c.args.asker.moment; asked = asked.Operation c.args.op.now } in
    let p = c.in-Ok-Allowed.permit in
    let fault = c.in-Err-carry_out.fault in
    let carried : CarriesOut mid end p (Some fault) = rw c.in-Err-carry_out.is at c.carry_out.follows.holds-at-none in
    let done : IsCarriedOut IsResponse start end q (Err fault) = record {
      answers = search (rules, kept, carried);
      moved = permit_stays start mid end q p fault kept decided carried;
      replied = λ honest w holds. tt;
      room = λ honest w holds accepted. absurd cc;
      crash = permit_leaves start mid end q p (Some fault) kept decided carried;
      whole = permit_whole start mid end p (Some fault) kept carried;
      settled = λ none. absurd cc;
      refused = search rules;
      stranger = search rules;
    } in
    at_end (λ (b : Bank g.row.S.Denot). IsCarriedOut IsResponse start (g.S.StoreState.status b.store) q (Err fault)) _ c.carry_out.follows.lender-at-none (search (rules, permit_name)) done

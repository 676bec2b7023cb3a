use Rattle.std.proofs.Common.{rules, Result, Ok, ap, sym, subst, ◌∙◌}
use Rattle.bank_books.specs.Effects.{applied}
use Rattle.op_prepare.specs.Judged.{IsReady, LeavesPolicyReady, ReportsOnly}
use Rattle.bank_meaning.specs.Meaning.{by_books}
use Rattle.bank_terms.specs.declared.rule.Rule.{Rule}
use Rattle.bank_meaning.specs.Operations.{is_report, meaning_of}
use Rattle.bank_meaning.specs.PolicyRules.{used_by}
use Rattle.bank_meaning.proofs.PolicyLemmas.{leave_refused}
use Rattle.op_prepare.specs.declared.prepared.Ready.{Ready}
use Rattle.op_prepare.specs.declared.prepared.Ready.TheVariants as ready
use Rattle.op_prepare.proofs.CountedDenials.{counted_from, none_denies, read_counted}
use Rattle.decide.proofs.CountedDenials.{on_fault}
use Rattle.decide.proofs.JoinedVerdict.{books_deny, denied_by_books, prepared, reported}
use Rattle.decide.proofs.judge.prepare.Goals as goal

pub returns-in-Err-clause-judged : goal.returns-in-Err-clause-judged
returns-in-Err-clause-judged g c = record {
  stated = λ honest w holds known. leave_refused w c.args.execution.now c.in-Err.rule (sym (c.in_ok-rule.ensures.stated honest w holds known) ∙ c.in-Err.is);
  kept = search rules;
}

pub returns-in-Err-2-clause-judged : goal.returns-in-Err-2-clause-judged
returns-in-Err-2-clause-judged g c = record {
  stated = λ honest w holds known.
      let before = c.prepare_by_books.ensures.judged.kept.answers.honest honest in
      let leave = sym (c.in_ok-rule.ensures.stated before w holds known) ∙ c.in-Ok.is in
      let books = subst (IsReady (λ v. by_books (meaning_of c.args.execution.now.op c.signature-by.result v)) w) c.in-Err-2.is
      (c.in_ok-plan-in-Ok.ensures.judged.stated honest w (c.in_ok-rule.ensures.kept.kept w holds)) in
      denied_by_books w c.args.execution.now c.in-Ok.leave c.in-Err-2.rule leave (ap (λ by. (by_books (meaning_of c.args.execution.now.op by w)).first) (sym c.signature-by.ensures) ∙ books);
  kept = search rules;
}

pub returns-in_ok-plan-in-Ok-Change-clause-judged : goal.returns-in_ok-plan-in-Ok-Change-clause-judged
returns-in_ok-plan-in-Ok-Change-clause-judged g c =
    let change = c.in-Ok-Change.is ∙ ap (λ (a : Ready). Ok a) c.in-Ok-Change.field-0-is in
    record {
      stated = λ honest w holds known.
          let before = c.in_ok-plan-in-Ok.ensures.judged.kept.answers.honest honest in
          let leave = sym (c.in_ok-rule.ensures.stated before w holds known) ∙ c.in-Ok.is in
          let judged = subst (IsReady (λ v. by_books (meaning_of c.args.execution.now.op c.signature-by.result v)) w) change
          (c.in_ok-plan-in-Ok.ensures.judged.stated honest w (c.in_ok-rule.ensures.kept.kept w holds)) in
          let books = subst (λ by. IsReady (λ v. by_books (meaning_of c.args.execution.now.op by v)) w (Ok (ready.Change c.in-Ok-Change.field-0-0))) c.signature-by.ensures judged in
          let policy = subst (λ (r : Result Ready Rule). LeavesPolicyReady (Ok r)) change c.in_ok-plan-in-Ok.ensures.policy in
          prepared w c.args.execution.now c.in-Ok.leave c.in-Ok-Change.field-0-0 c.in_ok-plan-in-Ok-Change.plan leave books
          (c.in_ok-plan-in-Ok-Change.ensures.used policy w ∙ ap (λ by. used_by c.in-Ok.leave by.user (applied c.in-Ok-Change.field-0-0.plan.items w)) c.signature-by.ensures);
      kept = search rules;
    }

pub returns-in-Ok-Report-clause-judged : goal.returns-in-Ok-Report-clause-judged
returns-in-Ok-Report-clause-judged g c =
    let report = c.in-Ok-Report.is ∙ ap (λ (a : Ready). Ok a) c.in-Ok-Report.field-0-is in
    record {
      stated = λ honest w holds known.
          let before = c.in_ok-plan-in-Ok.ensures.judged.kept.answers.honest honest in
          let leave = sym (c.in_ok-rule.ensures.stated before w holds known) ∙ c.in-Ok.is in
          let judged = subst (IsReady (λ v. by_books (meaning_of c.args.execution.now.op c.signature-by.result v)) w) report
          (c.in_ok-plan-in-Ok.ensures.judged.stated honest w (c.in_ok-rule.ensures.kept.kept w holds)) in
          let books = subst (λ by. IsReady (λ v. by_books (meaning_of c.args.execution.now.op by v)) w (Ok (ready.Report c.in-Ok-Report.contents))) c.signature-by.ensures judged in
          let is = subst (λ (r : Result Ready Rule). ReportsOnly (is_report c.args.execution.now.op) (Ok r)) report c.in_ok-plan-in-Ok.ensures.reports in
          reported w c.args.execution.now c.in-Ok.leave c.in-Ok-Report.contents is leave books;
      kept = search rules;
    }

pub returns-in_err-rule-clause-denied : goal.returns-in_err-rule-clause-denied
returns-in_err-rule-clause-denied g c = λ honest w holds known some. read_counted _ _ _ c.in_err-rule.ensures.counted

-- the rules of the books, of what the policy authorized
pub returns-in_err-plan-in-Ok-clause-denied : goal.returns-in_err-plan-in-Ok-clause-denied
returns-in_err-plan-in-Ok-clause-denied g c = λ honest w holds known some.
    let before = c.prepare_by_books.ensures.judged.kept.answers.honest honest in
    let leave = sym (c.in_ok-rule.ensures.stated before w holds known) ∙ c.in-Ok.is in
    let counted = c.in_err-plan-in-Ok.ensures.denied honest w (c.in_ok-rule.ensures.kept.kept w holds) (books_deny w c.args.execution.now c.in-Ok.leave c.signature-by.result c.signature-by.ensures leave some) in
    counted_from _ _ _ _ c.in_ok-rule.ensures.counted (on_fault _ counted)

pub returns-in_err-plan-in-Ok-Change-clause-denied : goal.returns-in_err-plan-in-Ok-Change-clause-denied
returns-in_err-plan-in-Ok-Change-clause-denied g c = λ honest w holds known some.
    let change = c.in-Ok-Change.is ∙ ap (λ (a : Ready). Ok a) c.in-Ok-Change.field-0-is in
    let before = c.in_ok-plan-in-Ok.ensures.judged.kept.answers.honest honest in
    let leave = sym (c.in_ok-rule.ensures.stated before w holds known) ∙ c.in-Ok.is in
    let books = subst (IsReady (λ v. by_books (meaning_of c.args.execution.now.op c.signature-by.result v)) w) change
    (c.in_ok-plan-in-Ok.ensures.judged.stated honest w (c.in_ok-rule.ensures.kept.kept w holds)) in
    none_denies _ books.allowed (books_deny w c.args.execution.now c.in-Ok.leave c.signature-by.result c.signature-by.ensures leave some)

pub returns-in_ok-plan-in-Ok-Change-clause-policy : goal.returns-in_ok-plan-in-Ok-Change-clause-policy
returns-in_ok-plan-in-Ok-Change-clause-policy g c =
    let change = c.in-Ok-Change.is ∙ ap (λ (a : Ready). Ok a) c.in-Ok-Change.field-0-is in
    c.in_ok-plan-in-Ok-Change.ensures.policy ∙ subst (λ (r : Result Ready Rule). LeavesPolicyReady (Ok r)) change c.in_ok-plan-in-Ok.ensures.policy

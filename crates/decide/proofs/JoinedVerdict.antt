-- What the policy and the books say of an operation, joined.
use Rattle.std.proofs.Common.{◌≡◌, ◌&&◌, ◌||◌, true, List, [], ◌∷◌, Some, None, Ok, ap, sym, subst, ◌∙◌, refl, arith}
use Rattle.std.specs.Prelude.{if◌then◌else◌, IsSome}
use Rattle.std.proofs.lemmas.Bool.{le-leb, not-false}
use Rattle.std.proofs.Math.Bool.{and-true}
use Rattle.std.specs.Global.{Vec}
use Rattle.bank_terms.specs.declared.rule.Rule.{Rule}
use Rattle.bank_terms.specs.declared.rule.Rule.TheVariants as rule
use Rattle.bank_terms.specs.declared.item.Cdi.{Cdi}
use Rattle.bank_policy.specs.HeldRows.{HeldTriple}
use Rattle.bank_policy.specs.Tests.{holds, is_held, is_held_for}
use Rattle.counter_ops.specs.declared.op.Op.{Op}
use Rattle.counter_ops.specs.Touched.{amount}
use Rattle.reports.specs.declared.contents.Contents.{Contents}
use Rattle.bank_books.specs.Effects.{applied}
use Rattle.bank_books.specs.WorldLists.{WorldLists}
use Rattle.bank_books.specs.declared.row_write.RowWrite.{RowWrite}
use Rattle.bank_books.specs.declared.signature.Signature.{Signature}
use Rattle.rule_tests.proofs.RuleTests.{no_denial}
use Rattle.bank_meaning.specs.Executions.{books_meaning, execution_verdict, signature_of}
use Rattle.op_prepare.specs.Judged.{IsPrepared, IsReported}
use Rattle.bank_meaning.specs.Meaning.{by_books}
use Rattle.bank_meaning.specs.Operations.{is_report, meaning_of}
use Rattle.bank_meaning.specs.PolicyRules.{asker, first_of_policy, grounds, leave_by_policy, leave_of, policy_tests, used_by}
use Rattle.bank_meaning.specs.declared.execution.Execution.{Execution}
use Rattle.bank_meaning.specs.declared.leave.Authorization.{Authorization}
use Rattle.bank_meaning.specs.declared.leave.Authorization.TheVariants as leave
use Rattle.op_prepare.specs.declared.prepared.Prepared.{Prepared}
use Rattle.bank_meaning.proofs.PolicyLemmas.{books_decide, leave_given}
use Rattle.bank_meaning.proofs.Forms.{law_of}

-- where the policy authorizes it, what the books say is all that is said
pub denied_by_books : (w : WorldLists) (x : Execution) (l : Authorization) (r : Rule) → leave_by_policy (grounds w x) ≡ Ok l → (by_books (books_meaning w x)).first ≡ Some r → (execution_verdict x w).first ≡ Some r
denied_by_books w x l r leave books = books_decide w x (leave_given (grounds w x) l leave).0 ∙ books

-- so a rule that denies is one of the books
pub books_deny : (w : WorldLists) (x : Execution) (l : Authorization) (by : Signature) → by ≡ signature_of x → leave_by_policy (grounds w x) ≡ Ok l → IsSome (execution_verdict x w).first
    → IsSome (by_books (meaning_of x.op by w)).first
books_deny w x l by is leave some =
    let same : (execution_verdict x w).first ≡ (by_books (meaning_of x.op by w)).first = books_decide w x (leave_given (grounds w x) l leave).0 ∙ ap (λ s. (by_books (meaning_of x.op s w)).first) (sym is) in
    subst IsSome same some

-- and the plan of the books, with what the authorization takes, makes the effect
pub prepared : (w : WorldLists) (x : Execution) (l : Authorization) (p : Prepared) (plan : Vec RowWrite) → leave_by_policy (grounds w x) ≡ Ok l → IsPrepared w (by_books (books_meaning w x)) p
    → applied plan.items w ≡ used_by l (asker x.who) (applied p.plan.items w) → IsPrepared w (execution_verdict x w) (record { plan = plan; text = p.text })
prepared w x l p plan leave books takes =
    let given = leave_given (grounds w x) l leave in
    record {
      allowed = books_decide w x given.0 ∙ books.allowed;
      plan = takes ∙ ap (λ v. used_by l (asker x.who) v) books.plan ∙ ap (λ given. used_by given (asker x.who) (books_meaning w x).effect) (sym given.1);
      reply = books.reply;
    }

-- ---- a report comes to no amount, so a triple that holds what it touches reaches that

no_amount : (o : Op) → is_report o ≡ true → amount o ≡ 0
no_amount o is = ((law_of o).asks ((law_of o).reports_ask is)).nothing

held_for_none : (rows : List HeldTriple) (items : List Cdi) → is_held_for rows items 0 ≡ is_held rows items
held_for_none [] items = refl
held_for_none (r ∷ rs) items = ap (λ b. b || is_held_for rs items 0) (ap (λ b. holds r.members items && b) (le-leb 0 r.triple.limit (omega arith)) ∙ and-true (holds r.members items)) ∙ ap (λ b. holds r.members items || b) (held_for_none rs items)

by_triple : (w : WorldLists) (x : Execution) → is_report x.op ≡ true → first_of_policy (grounds w x) ≡ None → leave_of (grounds w x) ≡ leave.Triple
by_triple w x report passes =
    let held : is_held (grounds w x).held (grounds w x).items ≡ true = not-false _ (no_denial (policy_tests (grounds w x)) rule.NoTriple passes) in
    ap (λ b. if b then leave.Triple else leave.Release x.who.release)
    (ap (is_held_for (grounds w x).held (grounds w x).items) (no_amount x.op report) ∙ held_for_none (grounds w x).held (grounds w x).items ∙ held)

-- where the policy authorizes it, a report of the books is one of all
pub reported : (w : WorldLists) (x : Execution) (l : Authorization) (c : Contents) → is_report x.op ≡ true → leave_by_policy (grounds w x) ≡ Ok l → IsReported w (by_books (books_meaning w x)) c
    → IsReported w (execution_verdict x w) c
reported w x l c report leave books =
    let given = leave_given (grounds w x) l leave in
    record {
      allowed = books_decide w x given.0 ∙ books.allowed;
      same = ap (λ by. used_by by (asker x.who) (books_meaning w x).effect) (by_triple w x report given.0) ∙ books.same;
      reply = books.reply;
      counted = books.counted;
    }

-- A report that was counted, and whose text is the reply.
use Rattle.std.proofs.Common.{◌≡◌, ℕ, Option, None, Some, refl, sym, ap, ◌∙◌}
use Rattle.std.specs.List.{find}
use Rattle.bank_books.specs.Records.{branch_record}
use Rattle.bank_books.specs.WorldLists.{WorldLists}
use Rattle.bank_books.specs.declared.records.BranchRecord.{BranchRecord}
use Rattle.counter_ops.specs.declared.proof.Proof.{Proof}
use Rattle.rule_tests.specs.Denial.{is_denial}
use Rattle.bank_meaning.specs.Meaning.{Verdict, by_books, plain, rules_after_policy}
use Rattle.bank_meaning.specs.Proof.{proof_tests, proof_meaning, proof_text}
use Rattle.reports.specs.Listing.{all_lines, proof_of, report_text}
use Rattle.reports.specs.Report.{IsCounted}
use Rattle.reports.specs.declared.contents.Contents.{Contents}
use Rattle.reports.specs.declared.listing.Listing.{Listing}
use Rattle.op_prepare.specs.Judged.{IsReported}

pub report_counted : (w : WorldLists) (v : Verdict) (first : Listing) (most : ℕ) (c : Contents) → v.first ≡ None → v.effect ≡ w → v.reply ≡ plain (report_text w first most)
    → c.first ≡ first → c.most ≡ most → IsCounted w c → IsReported w v c
report_counted w v first most c allowed same reply is_first is_most counted = record {
  allowed = allowed;
  same = same;
  reply = ap (λ l. plain (report_text w l c.most)) is_first ∙ ap (λ n. plain (report_text w first n)) is_most ∙ sym reply;
  counted = counted;
}

-- the proof of a branch that is there
pub proof_counted : (w : WorldLists) (form : Proof) (b : BranchRecord) (c : Contents) → branch_record w form.branch ≡ Some b → c.first ≡ proof_of b → c.most ≡ all_lines → IsCounted w c
    → IsReported w (by_books (proof_meaning form w)) c
proof_counted w form b c is = report_counted w (by_books (proof_meaning form w)) (proof_of b) all_lines c
    (ap (λ (row : Option BranchRecord). find (λ r. is_denial r (proof_tests row)) rules_after_policy) is) refl (ap (λ (row : Option BranchRecord). plain (proof_text w row)) is)

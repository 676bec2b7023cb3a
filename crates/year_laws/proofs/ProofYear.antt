-- A question for the proof of a branch at the bank that goes on and at the next year's.
use Rattle.std.proofs.Common.{refl, ℕ, ◌≡◌}
use Rattle.std.specs.Prelude.{is_none}
use Rattle.bank_books.specs.Records.{branch_record}
use Rattle.bank_books.specs.WorldLists.{WorldLists}
use Rattle.counter_ops.specs.declared.op.Op.TheVariants as op
use Rattle.counter_ops.specs.declared.proof.Proof.{Proof}
use Rattle.bank_meaning.specs.Proof.{proof_tests}
use Rattle.year_laws.specs.GoesOn.{GoesOn, IsSameBranch, Turn}
use Rattle.year_laws.proofs.AlikeRows.{none_same}
use Rattle.year_laws.proofs.IsYearForm.{IsYearForm}
use Rattle.year_laws.proofs.TestParts.{AreTestsAlike}

module _ (t : Turn) (old new : WorldLists) (on : GoesOn t old new) where
  no_branch : (key : ℕ) → is_none (branch_record old key) ≡ is_none (branch_record new key)
  no_branch key = none_same (IsSameBranch (t.entries key)) (branch_record old key) (branch_record new key) (on.branches key)

  proof_alike : (key : ℕ) → AreTestsAlike (proof_tests (branch_record old key)) (proof_tests (branch_record new key))
  proof_alike key = (refl, (λ z. no_branch key), tt)

pub proof_in_years : (form : Proof) → IsYearForm (op.Proof form)
proof_in_years form = record {
  tests = λ t old new on names by. proof_alike t old new on form.branch;
  replies = λ t old new on names by. tt;
  kept = λ t a b replied. tt;
  stays = λ t old new stay names by old_none new_none. stay;
}

-- A question for the proof of a branch: what it looks at in two Worlds, and what it changes.
use Rattle.std.proofs.Common.{ap₂}
use Rattle.counter_ops.specs.declared.op.Op.TheVariants as op
use Rattle.counter_ops.specs.declared.proof.Proof.{Proof}
use Rattle.two_worlds.proofs.IsLocalForm.{IsLocalForm}
use Rattle.two_worlds.proofs.PlanParts.{nothing_carried}
use Rattle.two_worlds.proofs.Reports.{proof_alike, same_books}

pub proof_is_local : (form : Proof) → IsLocalForm (op.Proof form)
proof_is_local form = record {
  rows_same = λ by w v bank bank' same held agree. ap₂ (λ row text. (row, text)) (same_books w v form.branch bank bank' same) (proof_alike w v form.branch bank bank' same);
  carried = λ by w distinct proper none. nothing_carried _ _ _;
}

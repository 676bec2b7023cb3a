-- An operation leaves the policy and its version as they are, whatever rows it finds.
use Rattle.std.proofs.Common.{ℕ, ◌==◌, Bool, true, false, subst, sym}
use Rattle.std.specs.Prelude.{if◌then◌else◌}
use Rattle.bank_books.specs.Effects.{written}
use Rattle.bank_books.specs.WorldLists.{WorldLists}
use Rattle.bank_books.specs.SlipRow.{SlipRow}
use Rattle.bank_books.specs.declared.row_write.RowWrite.TheVariants as write
use Rattle.bank_books.specs.declared.signature.Signature.{Signature}
use Rattle.bank_meaning.specs.Executions.{books_meaning, execution_meaning, signature_of}
use Rattle.bank_meaning.specs.Slips.{slip_named, slip_of}
use Rattle.counter_ops.specs.declared.op.Op.{Op}
use Rattle.bank_meaning.specs.Form.{changed_by}
use Rattle.bank_meaning.specs.Operations.{form_of, meaning_of}
use Rattle.bank_meaning.specs.PolicyRules.{asker, grounds, leave_of, used_by}
use Rattle.bank_meaning.specs.Requests.{effect, executes}
use Rattle.bank_meaning.specs.declared.execution.Execution.{Execution}
use Rattle.bank_meaning.specs.declared.leave.Authorization.{Authorization}
use Rattle.bank_meaning.specs.declared.leave.Authorization.TheVariants as leave
use Rattle.bank_meaning.proofs.BookChanges.{IsPolicyKept, policy_kept}
use Rattle.bank_meaning.proofs.Forms.{law_of}

by_form : (w : WorldLists) (o : Op) (by : Signature) → IsPolicyKept w (meaning_of o by w).effect
by_form w o by = subst (λ m. IsPolicyKept w m.effect) (sym ((law_of o).said by w)) (policy_kept (changed_by (form_of o) by w) w ((law_of o).books_alone ((form_of o).rows by w) by))

-- and a release that is used up with it is none of the policy
with_leave : (l : Authorization) (user : ℕ) (w after : WorldLists) → IsPolicyKept w after → IsPolicyKept w (used_by l user after)
with_leave leave.Triple user w after kept = kept
with_leave (leave.Release number) user w after kept = record { policy = kept.policy; version = kept.version }

pub plain_kept : (w : WorldLists) (x : Execution) → IsPolicyKept w (execution_meaning w x).effect
plain_kept w x = with_leave (leave_of (grounds w x)) (asker x.who) w (books_meaning w x).effect (by_form w x.op (signature_of x))

-- nor is a slip that is taken
with_taken : (b : Bool) (row : SlipRow) (w after : WorldLists) → IsPolicyKept w after → IsPolicyKept w (if b then after else written (write.Slip row) after)
with_taken true row w after kept = kept
with_taken false row w after kept = record { policy = kept.policy; version = kept.version }

pub operation_kept : (w : WorldLists) (x : Execution) → IsPolicyKept w (effect w (executes x))
operation_kept w x = with_taken (slip_named x == 0) (slip_of x (execution_meaning w x).reply.bytes) w (execution_meaning w x).effect (plain_kept w x)

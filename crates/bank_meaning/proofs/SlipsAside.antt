-- Nothing but a slip itself looks at the slips: with any others in their place an operation is denied by the same rules, is replied the same, and leaves the same beside them.
use Rattle.std.proofs.Common.{◌∙◌, ◌≡◌, ℕ, Bool, true, false, List, refl, ap, subst₂, sym}
use Rattle.std.specs.Prelude.{if◌then◌else◌}
use Rattle.bank_books.specs.Effects.{applied, in_full, written}
use Rattle.bank_books.specs.SlipRow.{SlipRow}
use Rattle.bank_books.specs.WorldLists.{WorldLists}
use Rattle.bank_books.specs.declared.row_write.RowWrite.TheVariants as write
use Rattle.bank_books.specs.declared.signature.Signature.{Signature}
use Rattle.bank_terms.specs.Limits.{max_version}
use Rattle.std.specs.Prelude.{nat_lt}
use Rattle.certify.specs.Commands.{command_changes}
use Rattle.policy_commands.specs.declared.policy_op.PolicyOp.{PolicyOp}
use Rattle.bank_meaning.specs.Executions.{books_meaning, execution_meaning, is_of_policy, signature_of}
use Rattle.bank_meaning.specs.Meaning.{Meaning}
use Rattle.bank_meaning.specs.Once.{with_slips}
use Rattle.counter_ops.specs.declared.op.Op.{Op}
use Rattle.rule_tests.specs.Denial.{is_denial}
use Rattle.bank_meaning.specs.Form.{changed_by}
use Rattle.bank_meaning.specs.Operations.{form_of, meaning_of}
use Rattle.bank_meaning.specs.PolicyRules.{asker, grounds, leave_of, policy_denies, used_by}
use Rattle.bank_meaning.specs.declared.execution.Execution.{Execution}
use Rattle.bank_meaning.specs.declared.leave.Authorization.{Authorization}
use Rattle.bank_meaning.specs.declared.leave.Authorization.TheVariants as leave
use Rattle.bank_meaning.proofs.BookChanges.{slips_aside}
use Rattle.bank_meaning.proofs.Forms.{law_of}

-- one meaning is the other in a World with these slips in the place of its own
pub record IsSameBeside (slips : List SlipRow) (m other : Meaning) : Type 0 where
  pub denies : other.denies ≡ m.denies
  pub effect : other.effect ≡ with_slips slips m.effect
  pub reply : other.reply ≡ m.reply

by_form : (s : List SlipRow) (w : WorldLists) (o : Op) (by : Signature) → IsSameBeside s (meaning_of o by w) (meaning_of o by (with_slips s w))
by_form s w o by =
    let law = law_of o in
    let same = law.no_slips s by w in
    subst₂ (IsSameBeside s) (sym (law.said by w)) (sym (law.said by (with_slips s w)))
    (record {
      denies = ap (λ rows r. is_denial r ((form_of o).tests rows by)) same;
      effect = ap (λ rows. applied ((form_of o).changes rows by) (with_slips s w)) same ∙ slips_aside s (changed_by (form_of o) by w) w (law.books_alone ((form_of o).rows by w) by);
      reply = ap (λ rows. (form_of o).reply rows by) same;
    })

-- a release that is used up is no slip
used_beside : (s : List SlipRow) (l : Authorization) (user : ℕ) (after other : WorldLists) → other ≡ with_slips s after → used_by l user other ≡ with_slips s (used_by l user after)
used_beside s leave.Triple user after other same = same
used_beside s (leave.Release number) user after other same = ap (written (write.Used (record { user = user; number = number }))) same

pub execution_beside : (s : List SlipRow) (w : WorldLists) (x : Execution) → IsSameBeside s (execution_meaning w x) (execution_meaning (with_slips s w) x)
execution_beside s w x =
    let books = by_form s w x.op (signature_of x) in
    record {
      denies = ap (λ d r. if is_of_policy r then policy_denies r (grounds w x) else d r) books.denies;
      effect = used_beside s (leave_of (grounds w x)) (asker x.who) (books_meaning w x).effect (books_meaning (with_slips s w) x).effect books.effect;
      reply = books.reply;
    }

-- nor does a command take one, at the greatest version too
pub command_beside : (s : List SlipRow) (w : WorldLists) (c : PolicyOp) (by : ℕ) → applied (command_changes c by) (with_slips s w) ≡ with_slips s (applied (command_changes c by) w)
command_beside s w c by = go (nat_lt w.version max_version)
  where
    go : (b : Bool) → (if b then in_full (command_changes c by) (with_slips s w) else with_slips s w) ≡ with_slips s (if b then in_full (command_changes c by) w else w)
    go true = refl
    go false = refl

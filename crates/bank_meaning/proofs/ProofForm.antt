-- The laws of a question for the proof of a branch: it changes nothing.
use Rattle.std.proofs.Common.{refl, None, subst, sym, ◌≡◌}
use Rattle.bank_terms.specs.declared.rule.Rule.TheVariants as rule
use Rattle.bank_meaning.proofs.JudgedParts.{branch_there}
use Rattle.counter_ops.specs.declared.op.Op.TheVariants as op
use Rattle.counter_ops.specs.declared.proof.Proof.{Proof}
use Rattle.bank_meaning.proofs.AmountParts.{no_amount}
use Rattle.bank_meaning.proofs.BookChanges.{none_at_all}
use Rattle.bank_meaning.proofs.IsForm.{IsForm}
use Rattle.bank_meaning.proofs.NoMoves.{none_within}
use Rattle.bank_meaning.proofs.Steps.{stands}
use Rattle.bank_meaning.specs.JudgedRows.{HasBranch}
use Rattle.bank_books.specs.WorldLists.{WorldLists}
use Rattle.bank_books.specs.Records.{branch_record, branch_record_of}
use Rattle.bank_meaning.specs.Proof.{first_against_proof}
use Rattle.std.specs.Prelude.{option_map}

proof_passes : (w : WorldLists) (form : Proof) → HasBranch w form.branch → first_against_proof (branch_record w form.branch) ≡ None
proof_passes w form (row, there) = subst (λ o. first_against_proof (option_map (branch_record_of w) o) ≡ None) (sym there) refl

pub proof_is_form : (form : Proof) → IsForm (op.Proof form)
proof_is_form form = record {
  said = λ by w. refl;
  books_alone = λ rows by. none_at_all;
  no_slips = λ s by w. refl;
  asks = λ is. record { nothing = refl; silent = λ rows by. refl };
  in_json = λ is rows by. absurd cc;
  reports_ask = λ is. refl;
  no_commands = λ rows by. refl;
  steps = λ by w checks proper signed none. stands w checks;
  judged = λ w who moment none. branch_there w form.branch (none rule.Unknown);
  denies_no_more = λ by w checks proper judged books. proof_passes w form judged;
  moves = none_within 0;
  cash = λ is by w branch place. no_amount 0;
  asked = λ by w judged. record { asked = refl; bear = tt; days = tt };
  replied = λ by w checks proper judged step. refl;
}

-- A transfer at the bank that goes on and at the next year's.
use Rattle.std.proofs.Common.{None, Option, Some, [], ap, not, refl, ℕ, ◌+ℤ◌, ◌≡◌}
use Rattle.std.specs.Option.{option_map_or}
use Rattle.std.specs.Prelude.{option_and_then, option_map}
use Rattle.bank_books.specs.Records.{account_record, branch_record}
use Rattle.bank_books.specs.WorldLists.{WorldLists}
use Rattle.bank_books.specs.declared.records.AccountRecord.{AccountRecord}
use Rattle.bank_books.specs.declared.records.BranchRecord.{BranchRecord}
use Rattle.bank_books.specs.declared.signature.Signature.{Signature}
use Rattle.counter_ops.specs.declared.op.Op.TheVariants as op
use Rattle.counter_ops.specs.declared.transfer.Transfer.{Transfer}
use Rattle.rule_tests.specs.BranchParts.{ledger_of}
use Rattle.postings.specs.Transfer.{given, taken, transfer_rows, transfer_tests, transferred, transferred_of}
use Rattle.bank_meaning.specs.Meaning.{json}
use Rattle.bank_meaning.specs.Operations.{meaning_of}
use Rattle.bank_meaning.specs.Transfer.{transferred_text}
use Rattle.year_laws.specs.GoesOn.{AreBoth, GoesOn, IsSameAccount, IsSameBranch, Turn, op_at_old}
use Rattle.year_laws.specs.RepliedAlike.{IsRepliedAlike, transferred_at_old}
use Rattle.year_laws.proofs.IsYearForm.{IsYearForm}
use Rattle.year_laws.proofs.NextNumbers.{next, second}
use Rattle.year_laws.proofs.TestParts.{AreTestsAlike, anew, both, either, floors, held_by, no_account, no_ledger, no_teller, of_branch}
use Rattle.year_laws.proofs.TransfersAlike.{transfer_stays}

-- ---- what is replied, by the records that it is made of

module _ (t : Turn) (n m : ℕ) where
  transfer_left : (transfer : Transfer) (a b x y : Option AccountRecord) (c d : Option BranchRecord) → AreBoth (IsSameAccount n) a b → AreBoth (IsSameAccount m) x y
      → AreBoth (IsSameBranch (t.entries transfer.branch)) c d
      → option_and_then (λ source. option_and_then (λ target. option_map (λ ledger. transferred transfer source target ledger) (option_map ledger_of c)) x) a
      ≡ option_map (transferred_at_old t) (option_and_then (λ source. option_and_then (λ target. option_map (λ ledger. transferred transfer source target ledger) (option_map ledger_of d)) y) b)
  transfer_left transfer None None x y c d same too also = refl
  transfer_left transfer (Some a) (Some b) None None c d same too also = refl
  transfer_left transfer (Some a) (Some b) (Some x) (Some y) None None same too also = refl
  transfer_left transfer (Some a) (Some b) (Some x) (Some y) (Some c) (Some d) same too also =
      let first = next c.entries d.entries (t.entries transfer.branch) also.entries in
      let after = second c.entries d.entries (t.entries transfer.branch) also.entries in
      let source = same.balance in
      let target = too.balance in
      λ i. Some (record { branch = transfer.branch; first = first i; second = after i; source = source i +ℤ taken transfer; target = target i +ℤ given transfer })
  transfer_left transfer None (Some b) x y c d same too also = absurd same
  transfer_left transfer (Some a) None x y c d same too also = absurd same
  transfer_left transfer (Some a) (Some b) None (Some y) c d same too also = absurd too
  transfer_left transfer (Some a) (Some b) (Some x) None c d same too also = absurd too
  transfer_left transfer (Some a) (Some b) (Some x) (Some y) None (Some d) same too also = absurd also
  transfer_left transfer (Some a) (Some b) (Some x) (Some y) (Some c) None same too also = absurd also

-- ---- at both banks

module _ (t : Turn) (old new : WorldLists) (on : GoesOn t old new) where
  transfer_alike : (transfer : Transfer) (by : Signature) → AreTestsAlike (transfer_tests (transfer_rows old transfer) transfer by) (transfer_tests (transfer_rows new transfer) transfer by)
  transfer_alike transfer by = (
    refl,
    (λ z. either (either (either (no_account on transfer.source) (no_account on transfer.target)) (no_teller on transfer.teller)) (no_ledger on transfer.branch)),
    (
      refl,
      (λ z. ap not (of_branch on transfer.teller transfer.branch)),
      (
        refl,
        (λ z. ap not (held_by on transfer.teller by.user)),
        (
          refl,
          (λ z. ap not (both (floors on transfer.source (taken transfer)) (floors on transfer.target (given transfer)))),
          (
            refl,
            (λ z. anew _ _ z),
            (
              refl,
              (λ z. anew _ _ z),
              tt,
            ),
          ),
        ),
      ),
    ),
  )

  transfer_replied : (f : Transfer) (by : Signature) → IsRepliedAlike t (op.Transfer f) (meaning_of (op_at_old t (op.Transfer f)) by old).reply (meaning_of (op.Transfer f) by new).reply
  transfer_replied f by = (
    transferred_of (transfer_rows new f) f,
    ap (λ o. json (option_map_or transferred_text o [])) (transfer_left t (t.turns f.source) (t.turns f.target) f
        (account_record old f.source) (account_record new f.source) (account_record old f.target) (account_record new f.target)
        (branch_record old f.branch) (branch_record new f.branch) (on.accounts f.source) (on.accounts f.target) (on.branches f.branch)),
    refl,
  )

pub transfer_in_years : (form : Transfer) → IsYearForm (op.Transfer form)
transfer_in_years form = record {
  tests = λ t old new on names by. transfer_alike t old new on form by;
  replies = λ t old new on names by. transfer_replied t old new on form by;
  kept = λ t a b replied. (replied.0, ap (λ r. json r.bytes) replied.1, ap (λ r. json r.bytes) replied.2);
  stays = λ t old new stay names by old_none new_none. transfer_stays t old new stay form by old_none new_none;
}

-- A transfer that no rule denies leaves both banks alike.
use Rattle.std.proofs.Common.{◌≡◌, ◌+◌, ◌∙◌, ℕ, None, ap, sym}
use Rattle.bank_books.specs.Effects.{applied, written}
use Rattle.bank_books.specs.Records.{branch_record_of}
use Rattle.bank_books.specs.WorldLists.{WorldLists}
use Rattle.bank_books.specs.declared.row_write.RowWrite.TheVariants as write
use Rattle.bank_books.specs.declared.rows.EntryForm.TheVariants as entry
use Rattle.bank_books.specs.declared.signature.Signature.{Signature}
use Rattle.counter_ops.specs.declared.transfer.Transfer.{Transfer}
use Rattle.postings.specs.Transfer.{first_against_transfer, given, taken, transfer_effect, transfer_rows}
use Rattle.postings.proofs.AllowedTransfer.{AreThere, are_there, changes_are, first_of, is_allowed, second_of}
use Rattle.year_laws.specs.GoesOn.{Turn, entry_at_old}
use Rattle.year_laws.specs.StaysAlike.{StayAlike}
use Rattle.year_laws.proofs.EntriesAlike.{entry_stays}
use Rattle.year_laws.proofs.FoundAlike.{entries_are, entry_after, first_is_some, named_at_old, one_more, same_account, same_branch, second_is_some, two_more}
use Rattle.year_laws.proofs.NextRows.{IsNextEntry}
use Rattle.year_laws.proofs.RowsAlike.{carried}

first_next : (w : WorldLists) (f : Transfer) (by : Signature) (there : AreThere w f) → IsNextEntry w.accounts w.entries (first_of w f there by)
first_next w f by there = record { number = ap (λ n. n + 1) (entries_are w f.branch there.branch there.branch_is); account = (there.source, there.source_is) }

second_next : (w : WorldLists) (f : Transfer) (by : Signature) (there : AreThere w f) → IsNextEntry w.accounts (written (write.Entry (first_of w f there by)) w).entries (second_of w f there by)
second_next w f by there = record {
  number = entry_after (first_of w f there by) w.entries (branch_record_of w there.branch).entries (entries_are w f.branch there.branch there.branch_is);
  account = (there.target, there.target_is);
}

module _ (t : Turn) (old new : WorldLists) (stay : StayAlike t old new) (f : Transfer) (by : Signature) where
  first_is : (o : AreThere old f) (n : AreThere new f) → first_of old f o by ≡ entry_at_old t (first_of new f n by)
  first_is o n =
      let account = same_account t old new stay.alike f.source o.source n.source o.source_is n.source_is in
      let branch = same_branch t old new stay.alike f.branch o.branch n.branch o.branch_is n.branch_is in
      let entries : ℕ = (branch_record_of new n.branch).entries in
      let number = one_more _ _ (t.entries f.branch) branch.entries in
      let partner = two_more _ _ (t.entries f.branch) branch.entries ∙ sym (named_at_old t f.branch (entries + 2) (second_is_some entries)) in
      let turn = one_more _ _ (t.turns f.source) account.turns in
      let day = branch.day in
      λ i. record {
        branch = f.branch;
        number = number i;
        account = f.source;
        turn = turn i;
        teller = f.teller;
        delta = taken f;
        moment = by.moment;
        day = day i;
        user = by.user;
        form = entry.TransferLeg;
        partner = partner i;
        undoes = 0;
      }

  second_is : (o : AreThere old f) (n : AreThere new f) → second_of old f o by ≡ entry_at_old t (second_of new f n by)
  second_is o n =
      let account = same_account t old new stay.alike f.target o.target n.target o.target_is n.target_is in
      let branch = same_branch t old new stay.alike f.branch o.branch n.branch o.branch_is n.branch_is in
      let entries : ℕ = (branch_record_of new n.branch).entries in
      let number = two_more _ _ (t.entries f.branch) branch.entries in
      let partner = one_more _ _ (t.entries f.branch) branch.entries ∙ sym (named_at_old t f.branch (entries + 1) (first_is_some entries)) in
      let turn = one_more _ _ (t.turns f.target) account.turns in
      let day = branch.day in
      λ i. record {
        branch = f.branch;
        number = number i;
        account = f.target;
        turn = turn i;
        teller = f.teller;
        delta = given f;
        moment = by.moment;
        day = day i;
        user = by.user;
        form = entry.TransferLeg;
        partner = partner i;
        undoes = 0;
      }

  pub transfer_stays : first_against_transfer (transfer_rows old f) f by ≡ None → first_against_transfer (transfer_rows new f) f by ≡ None → StayAlike t (transfer_effect old f by) (transfer_effect new f by)
  transfer_stays old_none new_none =
      let o = are_there old f by (is_allowed (transfer_rows old f) f by old_none) in
      let n = are_there new f by (is_allowed (transfer_rows new f) f by new_none) in
      let entered = entry_stays t old new stay (first_of old f o by) (first_of new f n by) (first_is o n) (first_next old f by o) (first_next new f by n) in
      carried (StayAlike t) _ _ _ _ (ap (λ changes. applied changes old) (changes_are old f o by)) (ap (λ changes. applied changes new) (changes_are new f n by))
      (entry_stays t (written (write.Entry (first_of old f o by)) old) (written (write.Entry (first_of new f n by)) new) entered (second_of old f o by) (second_of new f n by) (second_is o n)
      (second_next old f by o) (second_next new f by n))

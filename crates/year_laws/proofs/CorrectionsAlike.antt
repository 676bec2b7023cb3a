-- A correction that no rule denies leaves both banks alike: at the bank that goes on it names the entry by the number
-- that it has there.
use Rattle.std.proofs.Common.{◌≡◌, ◌≢◌, ◌==◌, ◌+◌, ◌∙◌, ℕ, Bool, true, false, Option, Some, None, refl, ap, sym}
use Rattle.std.specs.Prelude.{option_map}
use Rattle.std.proofs.lemmas.Bool.{and_parts, eqb-true}
use Rattle.keyed_rows.proofs.Rows.{find-found}
use Rattle.bank_books.specs.Effects.{applied, written}
use Rattle.bank_books.specs.Records.{branch_record_of}
use Rattle.bank_books.specs.WorldLists.{WorldLists}
use Rattle.bank_books.specs.declared.row_write.RowWrite.TheVariants as write
use Rattle.bank_books.specs.declared.rows.Entry.{Entry}
use Rattle.bank_books.specs.declared.rows.EntryForm.TheVariants as entry
use Rattle.bank_books.specs.declared.signature.Signature.{Signature}
use Rattle.counter_ops.specs.declared.correct.Correct.{Correct}
use Rattle.postings.specs.Correct.{correct_effect, correct_rows, first_against_correct, is_of_post, undoing}
use Rattle.postings.proofs.AllowedCorrect.{AreThere, IsAllowed, OtherIsThere, are_there, changes_of_legs, changes_of_post, entry_of, first_of, is_allowed, line_of, other_is_there, second_of}
use Rattle.world_reads.specs.BookReads.{is_entry}
use Rattle.year_laws.specs.GoesOn.{Turn, correct_at_old, entry_at_old, number_at_old}
use Rattle.year_laws.specs.StaysAlike.{StayAlike}
use Rattle.year_laws.proofs.EntriesAlike.{entry_stays}
use Rattle.year_laws.proofs.FoundAlike.{drawer_of, entries_are, entry_after, first_is_some, lines_are, named_at_old, one_more, same_account, same_branch, second_is_some, two_more}
use Rattle.year_laws.proofs.LinesAlike.{line_stays}
use Rattle.year_laws.proofs.NextRows.{IsNextEntry, IsNextLine}
use Rattle.year_laws.proofs.RowsAlike.{carried}

-- ---- of a post

entry_next : (w : WorldLists) (c : Correct) (by : Signature) (there : AreThere w c) → IsNextEntry w.accounts w.entries (entry_of w c there by)
entry_next w c by there = record { number = ap (λ n. n + 1) (entries_are w c.branch there.branch there.branch_is); account = (there.account, there.account_is) }

line_next : (w : WorldLists) (c : Correct) (by : Signature) (there : AreThere w c) → IsAllowed (correct_rows w c) c by → IsNextLine w.tellers w.lines (line_of w c there by)
line_next w c by there allowed = record {
  number = ap (λ n. n + 1) (lines_are w c.branch there.branch there.branch_is);
  place = λ some. drawer_of w c.branch c.teller there.teller there.teller_is allowed.of_branch;
}

-- ---- of a transfer

first_next : (w : WorldLists) (c : Correct) (by : Signature) (there : AreThere w c) → IsNextEntry w.accounts w.entries (first_of w c there by)
first_next w c by there = record { number = ap (λ n. n + 1) (entries_are w c.branch there.branch there.branch_is); account = (there.account, there.account_is) }

second_next : (w : WorldLists) (c : Correct) (by : Signature) (there : AreThere w c) (also : OtherIsThere w c)
    → IsNextEntry w.accounts (written (write.Entry (first_of w c there by)) w).entries (second_of w c there also by)
second_next w c by there also = record {
  number = entry_after (first_of w c there by) w.entries (branch_record_of w there.branch).entries (entries_are w c.branch there.branch there.branch_is);
  account = (also.other, also.other_is);
}

-- ---- at both banks

module _ (t : Turn) (old new : WorldLists) (stay : StayAlike t old new) (c : Correct) (names : c.entry ≢ 0) (by : Signature) where
  abbrev moved : Correct
  moved = correct_at_old t c

  undoes_is : c.entry + t.entries c.branch ≡ number_at_old t c.branch c.entry
  undoes_is = sym (named_at_old t c.branch c.entry names)

  entry_is : (o : AreThere old moved) (n : AreThere new c) → entry_of old moved o by ≡ entry_at_old t (entry_of new c n by)
  entry_is o n =
      let account = same_account t old new stay.alike c.account o.account n.account o.account_is n.account_is in
      let branch = same_branch t old new stay.alike c.branch o.branch n.branch o.branch_is n.branch_is in
      let number = one_more _ _ (t.entries c.branch) branch.entries in
      let turn = one_more _ _ (t.turns c.account) account.turns in
      let day = branch.day in
      let undoes = undoes_is in
      λ i. record {
        branch = c.branch;
        number = number i;
        account = c.account;
        turn = turn i;
        teller = c.teller;
        delta = undoing c;
        moment = by.moment;
        day = day i;
        user = by.user;
        form = entry.Correction;
        partner = 0;
        undoes = undoes i;
      }

  first_is : (o : AreThere old moved) (n : AreThere new c) → first_of old moved o by ≡ entry_at_old t (first_of new c n by)
  first_is o n =
      let account = same_account t old new stay.alike c.account o.account n.account o.account_is n.account_is in
      let branch = same_branch t old new stay.alike c.branch o.branch n.branch o.branch_is n.branch_is in
      let entries : ℕ = (branch_record_of new n.branch).entries in
      let number = one_more _ _ (t.entries c.branch) branch.entries in
      let partner = two_more _ _ (t.entries c.branch) branch.entries ∙ sym (named_at_old t c.branch (entries + 2) (second_is_some entries)) in
      let turn = one_more _ _ (t.turns c.account) account.turns in
      let day = branch.day in
      let undoes = undoes_is in
      λ i. record {
        branch = c.branch;
        number = number i;
        account = c.account;
        turn = turn i;
        teller = c.teller;
        delta = undoing c;
        moment = by.moment;
        day = day i;
        user = by.user;
        form = entry.Correction;
        partner = partner i;
        undoes = undoes i;
      }

  found_entry : (a b : Option Entry) (x y : Entry) → a ≡ Some x → b ≡ Some y → a ≡ option_map (entry_at_old t) b → x ≡ entry_at_old t y
  found_entry None b x y x_is y_is same = absurd cc
  found_entry (Some a) None x y x_is y_is same = absurd cc
  found_entry (Some a) (Some b) x y x_is y_is same =
      let one : a ≡ x = cc in
      let two : b ≡ y = cc in
      let at : a ≡ entry_at_old t b = cc in
      sym one ∙ at ∙ ap (entry_at_old t) two

  -- the other leg of the entry that is named
  partner_is : (o : AreThere old moved) (n : AreThere new c) → o.entry.partner ≡ number_at_old t c.branch n.entry.partner
  partner_is o n =
      let same = found_entry _ _ o.entry n.entry o.entry_is n.entry_is (stay.alike.entries c.branch c.entry names) in
      let of = and_parts (n.entry.branch == c.branch) (n.entry.number == c.entry) (find-found (is_entry c.branch c.entry) new.entries n.entry n.entry_is).1 in
      ap (λ (e : Entry). e.partner) same ∙ ap (λ k. number_at_old t k n.entry.partner) (eqb-true n.entry.branch c.branch of.0)

  second_is : (o : AreThere old moved) (n : AreThere new c) (p : OtherIsThere old moved) (q : OtherIsThere new c) → second_of old moved o p by ≡ entry_at_old t (second_of new c n q by)
  second_is o n p q =
      let account = same_account t old new stay.alike c.other p.other q.other p.other_is q.other_is in
      let branch = same_branch t old new stay.alike c.branch o.branch n.branch o.branch_is n.branch_is in
      let entries : ℕ = (branch_record_of new n.branch).entries in
      let number = two_more _ _ (t.entries c.branch) branch.entries in
      let partner = one_more _ _ (t.entries c.branch) branch.entries ∙ sym (named_at_old t c.branch (entries + 1) (first_is_some entries)) in
      let turn = one_more _ _ (t.turns c.other) account.turns in
      let day = branch.day in
      let undoes = partner_is o n in
      λ i. record {
        branch = c.branch;
        number = number i;
        account = c.other;
        turn = turn i;
        teller = c.teller;
        delta = c.delta;
        moment = by.moment;
        day = day i;
        user = by.user;
        form = entry.Correction;
        partner = partner i;
        undoes = undoes i;
      }

  of_post : IsAllowed (correct_rows old moved) moved by → IsAllowed (correct_rows new c) c by → is_of_post c ≡ true → StayAlike t (correct_effect old moved by) (correct_effect new c by)
  of_post old_allowed new_allowed is =
      let o = are_there old moved by old_allowed in
      let n = are_there new c by new_allowed in
      let entered = entry_stays t old new stay (entry_of old moved o by) (entry_of new c n by) (entry_is o n) (entry_next old moved by o) (entry_next new c by n) in
      carried (StayAlike t) _ _ _ _ (ap (λ changes. applied changes old) (changes_of_post old moved o by is)) (ap (λ changes. applied changes new) (changes_of_post new c n by is))
      (line_stays t (written (write.Entry (entry_of old moved o by)) old) (written (write.Entry (entry_of new c n by)) new) entered (line_of old moved o by) (line_of new c n by)
      (record { branch = refl; place = refl; amount = refl; form = refl; user = refl }) (line_next old moved by o old_allowed) (line_next new c by n new_allowed))

  of_legs : IsAllowed (correct_rows old moved) moved by → IsAllowed (correct_rows new c) c by → is_of_post c ≡ false → StayAlike t (correct_effect old moved by) (correct_effect new c by)
  of_legs old_allowed new_allowed is =
      let o = are_there old moved by old_allowed in
      let n = are_there new c by new_allowed in
      let p = other_is_there old moved by old_allowed is in
      let q = other_is_there new c by new_allowed is in
      let entered = entry_stays t old new stay (first_of old moved o by) (first_of new c n by) (first_is o n) (first_next old moved by o) (first_next new c by n) in
      carried (StayAlike t) _ _ _ _ (ap (λ changes. applied changes old) (changes_of_legs old moved o p by is)) (ap (λ changes. applied changes new) (changes_of_legs new c n q by is))
      (entry_stays t (written (write.Entry (first_of old moved o by)) old) (written (write.Entry (first_of new c n by)) new) entered (second_of old moved o p by) (second_of new c n q by)
      (second_is o n p q) (second_next old moved by o p) (second_next new c by n q))

  pub correct_stays : first_against_correct (correct_rows old moved) moved by ≡ None → first_against_correct (correct_rows new c) c by ≡ None → StayAlike t (correct_effect old moved by) (correct_effect new c by)
  correct_stays old_none new_none =
      let old_allowed = is_allowed (correct_rows old moved) moved by old_none in
      let new_allowed = is_allowed (correct_rows new c) c by new_none in
      by_kind (is_of_post c) refl (of_post old_allowed new_allowed) (of_legs old_allowed new_allowed)
    where
      by_kind : (b : Bool) → is_of_post c ≡ b → (is_of_post c ≡ true → StayAlike t (correct_effect old moved by) (correct_effect new c by))
          → (is_of_post c ≡ false → StayAlike t (correct_effect old moved by) (correct_effect new c by)) → StayAlike t (correct_effect old moved by) (correct_effect new c by)
      by_kind true is post legs = post is
      by_kind false is post legs = legs is

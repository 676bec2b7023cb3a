-- A correction: what it looks at in two Worlds, and what it changes.
use Rattle.std.proofs.Common.{Bool, Contains, List, None, Option, Some, ap, arith, false, inr, not, refl, sym, true, ℕ, ◌&&◌, ◌==◌, ◌∙◌, ◌≡◌, ◌≢◌}
use Rattle.std.specs.List.{find, list_any}
use Rattle.std.specs.Prelude.{if◌then◌else◌, option_and_then}
use Rattle.std.proofs.lemmas.Bool.{and_parts, eqb-true}
use Rattle.keyed_rows.proofs.Rows.{find-found}
use Rattle.bank_terms.specs.declared.item.Cdi.{Cdi}
use Rattle.bank_books.specs.Books.{Books}
use Rattle.bank_books.specs.Records.{account_record}
use Rattle.bank_books.specs.WorldLists.{WorldLists}
use Rattle.bank_books.specs.declared.rows.Entry.{Entry}
use Rattle.bank_books.specs.declared.rows.Teller.{Teller}
use Rattle.bank_books.specs.declared.signature.Signature.{Signature}
use Rattle.counter_ops.specs.Touched.{account_item, branch_item, drawer_item, history_item, teller_item, touched_at, touched_by_correct}
use Rattle.counter_ops.specs.declared.correct.Correct.{Correct}
use Rattle.counter_ops.specs.declared.op.Op.TheVariants as op
use Rattle.world_reads.specs.BookReads.{entry, is_entry, undoes_entry, undone}
use Rattle.postings.specs.Correct.{correct_changes, correct_rows, entry_named, is_of_post, other_account, partner_of, undoing_legs, undoing_post}
use Rattle.postings.specs.declared.correct.CorrectRows.{CorrectRows}
use Rattle.bank_meaning.specs.Operations.{meaning_of}
use Rattle.two_worlds.specs.Laws.{IsNotGiven}
use Rattle.two_worlds.specs.View.{view_of}
use Rattle.two_worlds.proofs.IsLocalForm.{IsLocalForm}
use Rattle.two_worlds.proofs.Places.{at_counter, other_there}
use Rattle.two_worlds.proofs.PlanParts.{IsCarried, by_row, not_nothing, passed_teller}
use Rattle.two_worlds.proofs.SameRows.{same_account, same_book, same_ledger, same_teller}
use Rattle.two_worlds.proofs.Seen.{entry_seen, undone_seen}
use Rattle.two_worlds.proofs.Within.{AreAlike, IsOfBranch}

-- ---- what it looks at

module _ (w v : WorldLists) (books : Books w) (books' : Books v) where
  same_entry : (key number : ℕ) → view_of w (history_item key) ≡ view_of v (history_item key) → entry w key number ≡ entry v key number
  same_entry key number same = entry_seen w key number ∙ ap (λ s. find (is_entry key number) s.entries) same ∙ sym (entry_seen v key number)

  same_undone : (key number : ℕ) → view_of w (history_item key) ≡ view_of v (history_item key) → undone w key number ≡ undone v key number
  same_undone key number same =
      undone_seen w key number ∙ ap (λ s. not (number == 0) && list_any (undoes_entry key number) s.entries) same ∙ sym (undone_seen v key number)

  other_same : (c : Correct) → AreAlike (touched_by_correct c) w v → other_account w c ≡ other_account v c
  other_same c same = go (c.other == 0) refl
    where
      go : (b : Bool) → (c.other == 0) ≡ b → (if b then None else account_record w c.other) ≡ (if b then None else account_record v c.other)
      go true is = refl
      go false is = same_account w v books books' c.other (same (account_item c.other) (other_there c is))

  -- the entry that is named, and the other of its transfer, are of one branch
  partner_same : (c : Correct) → view_of w (history_item c.branch) ≡ view_of v (history_item c.branch) → option_and_then (partner_of w) (entry_named w c) ≡ option_and_then (partner_of v) (entry_named v c)
  partner_same c same = go (entry_named w c) refl ∙ ap (option_and_then (partner_of v)) (same_entry c.branch c.entry same)
    where
      go : (o : Option Entry) → entry_named w c ≡ o → option_and_then (partner_of w) o ≡ option_and_then (partner_of v) o
      go None is = refl
      go (Some e) is =
          let of = eqb-true e.branch c.branch (and_parts (e.branch == c.branch) (e.number == c.entry) (find-found (is_entry c.branch c.entry) w.entries e is).1).0 in
          ap (λ o. if e.partner == 0 then None else o)
          (ap (λ b. entry w b e.partner) of ∙ same_entry c.branch e.partner same ∙ sym (ap (λ b. entry v b e.partner) of))

  rows_same : (c : Correct) → AreAlike (touched_by_correct c) w v → correct_rows w c ≡ correct_rows v c
  rows_same c same =
      let here : (item : Cdi) → Contains (touched_at c.teller c.branch) item → view_of w item ≡ view_of v item = λ item there. same item (at_counter c item there) in
      let branch = here (branch_item c.branch) (1, omega arith, refl) in
      let history = here (history_item c.branch) (2, omega arith, refl) in
      let account = same_account w v books books' c.account (same (account_item c.account) (0, omega arith, refl)) in
      let other = other_same c same in
      let teller = same_teller w v books books' c.teller (here (teller_item c.teller) (0, omega arith, refl)) (here (drawer_item c.teller) (3, omega arith, refl)) in
      let ledger = same_ledger w v books books' c.branch branch history in
      let book = same_book w v books books' c.branch branch in
      let named = same_entry c.branch c.entry history in
      let partner = partner_same c history in
      let undone = same_undone c.branch c.entry history in
      λ i. record { account = account i; other = other i; teller = teller i; ledger = ledger i; cash_book = book i; entry = named i; partner = partner i; is_undone = undone i }

-- ---- what it changes

corrects : (tellers : List Teller) (other : ℕ → ℕ → Type 0) (rows : CorrectRows) (c : Correct) (by : Signature) → c.teller ≢ 0 → IsOfBranch tellers c.teller c.branch
    → IsCarried (touched_by_correct c) tellers other (correct_changes rows c by)
corrects tellers other rows c by drawer of = go (is_of_post c) refl
  where
    go : (b : Bool) → (c.other == 0) ≡ b → IsCarried (touched_by_correct c) tellers other (if b then undoing_post rows c by else undoing_legs rows c by)
    go true is =
        by_row (touched_by_correct c) tellers other _ rows.account (λ account. by_row (touched_by_correct c) tellers other _ rows.ledger (λ ledger. by_row (touched_by_correct c) tellers other _ rows.cash_book (λ book. record {
          releases = λ user number is o. refl;
          within = (
            record {
              account = (0, omega arith, refl);
              teller = at_counter c (teller_item c.teller) (0, omega arith, refl);
              branch = at_counter c (branch_item c.branch) (1, omega arith, refl);
              history = at_counter c (history_item c.branch) (2, omega arith, refl);
              of = of;
            },
            (record { branch = at_counter c (branch_item c.branch) (1, omega arith, refl); place = inr (drawer, at_counter c (drawer_item c.teller) (3, omega arith, refl), of) }, tt),
          );
        })))
    go false is =
        by_row (touched_by_correct c) tellers other _ rows.account (λ account. by_row (touched_by_correct c) tellers other _ rows.other (λ also.
        by_row (touched_by_correct c) tellers other _ rows.ledger (λ ledger. by_row (touched_by_correct c) tellers other _ rows.entry (λ entry. record {
          releases = λ user number is o. refl;
          within = (
            record {
              account = (0, omega arith, refl);
              teller = at_counter c (teller_item c.teller) (0, omega arith, refl);
              branch = at_counter c (branch_item c.branch) (1, omega arith, refl);
              history = at_counter c (history_item c.branch) (2, omega arith, refl);
              of = of;
            },
            (
              record {
                account = other_there c is;
                teller = at_counter c (teller_item c.teller) (0, omega arith, refl);
                branch = at_counter c (branch_item c.branch) (1, omega arith, refl);
                history = at_counter c (history_item c.branch) (2, omega arith, refl);
                of = of;
              },
              tt,
            ),
          );
        }))))

pub correct_is_local : (form : Correct) → IsLocalForm (op.Correct form)
correct_is_local form = record {
  rows_same = λ by w v bank bank' same held agree. rows_same w v bank.books bank'.books form same;
  carried = λ by w distinct proper none.
      let of = passed_teller w (meaning_of (op.Correct form) by w) form.teller form.branch distinct refl none in
      corrects w.tellers (IsNotGiven w (op.Correct form)) (correct_rows w form) form by (not_nothing form.teller proper.teller) of;
}

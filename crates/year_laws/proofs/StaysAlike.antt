-- Two banks of one turn are such as stay alike when the year turns, and stay so by each operation that no rule denies.
use Rattle.std.proofs.Common.{◌≡◌, ◌≢◌, ◌<◌, ◌≤◌, ◌∙◌, ℕ, Option, Some, None, refl, ap, arith, sym, inl, inr}
use Rattle.keyed_rows.proofs.Rows.{Contains-map_source, find-found, find_of_key, none_there}
use Rattle.bank_terms.specs.Procedure.{number_of}
use Rattle.bank_terms.specs.declared.operation_row.OperationRow.{OperationRow}
use Rattle.bank_books.specs.Books.{Books}
use Rattle.bank_books.specs.Keys.{account_key, teller_key}
use Rattle.bank_books.specs.WorldLists.{WorldLists}
use Rattle.bank_books.specs.declared.rows.Release.{Release}
use Rattle.bank_books.specs.declared.rows.Teller.{Teller}
use Rattle.book_laws.proofs.BooksSplit.{books_parts}
use Rattle.counter_ops.specs.Releasable.{op_of}
use Rattle.counter_ops.specs.Rows.{row_of}
use Rattle.counter_ops.specs.declared.releasable.Releasable.{Releasable}
use Rattle.counter_ops.specs.declared.releasable.Releasable.TheVariants as form
use Rattle.world_reads.specs.BookReads.{is_release, release}
use Rattle.bank_meaning.specs.Order.{AreBooksInOrder}
use Rattle.year_forward.specs.Forward.{carried_teller, forward}
use Rattle.year_laws.specs.GoesOn.{AreBoth, turn_of}
use Rattle.year_laws.specs.StaysAlike.{AddsLast, BooksStayAlike, IsReleaseAlike, TurnsAlike}
use Rattle.year_laws.proofs.AccountsAlike.{no_turns}
use Rattle.year_laws.proofs.AtTheTurn.{year_turns}
use Rattle.year_laws.proofs.YearForms.{year_of}

-- ---- when the year turns

no_key : (key : ℕ) → 1 ≤ key → key ≢ 0
no_key key low zero = absurd (omega (arith, low, zero))

-- books in order
books_add : (w : WorldLists) → Books w → AreBooksInOrder w → AddsLast w
books_add w books order =
    let rows = ((books_parts w).0 books).0.rows in
    record {
      tellers = λ t there. no_key t.teller (rows.tellers.each t there).key.0;
      accounts = λ e there.
          let account = (rows.entries.each e there).account in
          (account.0, find_of_key account_key e.account w.accounts account.0 rows.accounts.keys account.1.0 account.1.1);
      entries = λ e there. (rows.entries.numbers e.branch).high e there refl;
      lines = λ l there. (rows.lines.numbers l.branch).high l there refl;
      places = λ l there some. elim (rows.lines.each l there).place [
        | inl zero ↦ absurd (some zero)
        | inr at ↦ (at.0, (find_of_key teller_key l.place w.tellers at.0 rows.tellers.keys at.1.0 at.1.1, at.1.2))
      ];
      order = order.lines;
      releases = λ r there. (rows.releases r there).numbered.high r there refl;
    }

-- a bank with no entries and no lines, with the same tellers
begun_adds : (w : WorldLists) → AddsLast w → AddsLast (forward w)
begun_adds w adds = record {
  tellers = λ t there.
      let source = Contains-map_source (carried_teller w) w.tellers t there in
      λ zero. adds.tellers source.0 source.1.0 (ap (λ (r : Teller). r.teller) source.1.1 ∙ zero);
  accounts = λ e there. absurd (none_there there);
  entries = λ e there. absurd (none_there there);
  lines = λ l there. absurd (none_there there);
  places = λ l there. absurd (none_there there);
  order = λ i j d low within. absurd (below_none j within);
  releases = adds.releases;
}
  where
    below_none : (j : ℕ) → j < 0 → ⊥
    below_none j within = omega arith

-- a release of the year that ends is the same in the next
past_release : (w : WorldLists) → Books w → (u n : ℕ) → AreBoth (IsReleaseAlike (turn_of w)) (release w u n) (release (forward w) u n)
past_release w books u n = go (release w u n) refl
  where
    by_form : (r : Release) (o : Releasable) → row_of (op_of o) ≡ r.operation → IsReleaseAlike (turn_of w) r r
    by_form r (form.Post f) is = inl (record { giver = refl; branch = refl; day = refl; used = refl; operation = (form.Post f, (sym is, sym is)) })
    by_form r (form.Transfer f) is = inl (record { giver = refl; branch = refl; day = refl; used = refl; operation = (form.Transfer f, (sym is, sym is)) })
    by_form r (form.Correct f) is = inr (refl, ap (λ (row : OperationRow). number_of row.form) (sym is))
    by_form r (form.DrawerOn f) is = inl (record { giver = refl; branch = refl; day = refl; used = refl; operation = (form.DrawerOn f, (sym is, sym is)) })
    by_form r (form.MoveCash f) is = inl (record { giver = refl; branch = refl; day = refl; used = refl; operation = (form.MoveCash f, (sym is, sym is)) })

    go : (o : Option Release) → release w u n ≡ o → AreBoth (IsReleaseAlike (turn_of w)) o o
    go None is = tt
    go (Some r) is =
        let holds = (((books_parts w).0 books).0.rows.releases r (find-found (is_release u n) w.releases r is).0).operation in
        by_form r holds.0 holds.1.1

pub turns_alike : TurnsAlike
turns_alike w books order closed =
    let adds = books_add w books order in
    record { alike = year_turns w books closed; old_adds = adds; new_adds = begun_adds w adds; turns = λ key none. no_turns w adds key none; given = λ user. refl; releases = past_release w books }

-- ---- every form

pub books_stay_alike : BooksStayAlike
books_stay_alike t old new stay x names by old_none new_none = (year_of x).stays t old new stay names by old_none new_none

-- A day that is closed: what it looks at in two Worlds, and what it changes.
use Rattle.std.proofs.Common.{List, ap, arith, refl, sym, ℕ, ◌∙◌, ◌≡◌}
use Rattle.std.specs.List.{list_any}
use Rattle.std.specs.Prelude.{is_some}
use Rattle.bank_books.specs.Books.{Books}
use Rattle.bank_books.specs.WorldLists.{WorldLists}
use Rattle.bank_books.specs.declared.rows.Teller.{Teller}
use Rattle.counter_ops.specs.Touched.{branch_item, history_item, touched_by_books, vault_item}
use Rattle.counter_ops.specs.declared.close_day.CloseDay.{CloseDay}
use Rattle.counter_ops.specs.declared.op.Op.TheVariants as op
use Rattle.world_reads.specs.BookReads.{roster}
use Rattle.drawers.specs.CloseDay.{close_day_changes, closing_rows}
use Rattle.drawers.specs.declared.close_day.ClosingRows.{ClosingRows}
use Rattle.two_worlds.specs.Laws.{IsNotGiven}
use Rattle.two_worlds.specs.View.{view_of}
use Rattle.two_worlds.proofs.IsLocalForm.{IsLocalForm}
use Rattle.two_worlds.proofs.PlanParts.{IsCarried, by_row}
use Rattle.two_worlds.proofs.SameRows.{same_ledger, same_vault}
use Rattle.two_worlds.proofs.Seen.{held_seen}
use Rattle.two_worlds.proofs.Within.{AreAlike}

-- ---- what it looks at

module _ (w v : WorldLists) (books : Books w) (books' : Books v) where
  same_held : (key : ℕ) → view_of w (branch_item key) ≡ view_of v (branch_item key) → list_any (λ t. is_some t.holder) (roster w key) ≡ list_any (λ t. is_some t.holder) (roster v key)
  same_held key same = held_seen w key ∙ ap (λ s. list_any (λ r. is_some r.holder) s.roster) same ∙ sym (held_seen v key)

  rows_same : (form : CloseDay) → AreAlike (touched_by_books form.branch) w v → closing_rows w form ≡ closing_rows v form
  rows_same form same =
      let branch = same (branch_item form.branch) (0, omega arith, refl) in
      let ledger = same_ledger w v books books' form.branch branch (same (history_item form.branch) (1, omega arith, refl)) in
      let vault = same_vault w v books books' form.branch (same (vault_item form.branch) (2, omega arith, refl)) in
      let held = same_held form.branch branch in
      λ i. record { ledger = ledger i; vault = vault i; holds_a_drawer = held i }

-- ---- what it changes

closes : (tellers : List Teller) (other : ℕ → ℕ → Type 0) (rows : ClosingRows) (form : CloseDay) → IsCarried (touched_by_books form.branch) tellers other (close_day_changes rows form)
closes tellers other rows form =
    let items = touched_by_books form.branch in
    by_row items tellers other _ rows.ledger (λ ledger. by_row items tellers other _ rows.vault (λ vault. record {
      releases = λ user number is o. refl;
      within = ((0, omega arith, refl), ((0, omega arith, refl), tt));
    }))

pub close_day_is_local : (form : CloseDay) → IsLocalForm (op.CloseDay form)
close_day_is_local form = record {
  rows_same = λ by w v bank bank' same held agree. rows_same w v bank.books bank'.books form same;
  carried = λ by w distinct proper none. closes w.tellers (IsNotGiven w (op.CloseDay form)) (closing_rows w form) form;
}

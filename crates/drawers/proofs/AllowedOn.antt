-- What is known of a drawer that no rule forbids to put on: its rows are there, its lines may come next, and there is room for them.
use Rattle.std.proofs.Common.{◌≡◌, ◌+◌, ◌≤◌, ℤ, pos, ◌+ℤ◌, [], ◌∷◌, true, false, not, refl, ap, arith, sym, ◌∙◌, subst, ◌==◌, Some, None, inl, inr, Bool}
use Rattle.std.specs.Prelude.{if◌then◌else◌}
use Rattle.std.proofs.lemmas.Bool.{and_parts, ltb-false, ne_eqb, not-false}
use Rattle.std.proofs.lemmas.Int.{ints}
use Rattle.counter_ops.specs.DrawerOn.{IsDrawerOn}
use Rattle.row_members.specs.Ranges.{IsCash}
use Rattle.counter_ops.specs.declared.drawer_on.DrawerOn.{DrawerOn}
use Rattle.money.specs.Range.{IsCents}
use Rattle.bank_terms.specs.Limits.{max_key}
use Rattle.bank_books.specs.Balances.{branch_row, teller_row}
use Rattle.bank_books.specs.Books.{Books}
use Rattle.bank_books.specs.Cash.{line_count}
use Rattle.bank_books.specs.Effects.{applied}
use Rattle.bank_books.specs.Keys.{branch_key, teller_key}
use Rattle.bank_books.specs.Range.{IsUserNumber}
use Rattle.bank_books.specs.Records.{branch_record_of, teller_record_of}
use Rattle.bank_books.specs.WorldLists.{WorldLists}
use Rattle.bank_books.specs.declared.row_write.RowWrite.TheVariants as write
use Rattle.bank_books.specs.declared.rows.CashLine.{CashLine}
use Rattle.bank_books.specs.declared.signature.Signature.{Signature}
use Rattle.book_laws.specs.Moves.{to_drawers}
use Rattle.book_laws.specs.Next.{lined}
use Rattle.book_laws.proofs.BooksSplit.{books_parts}
use Rattle.keyed_rows.proofs.Rows.{found_row}
use Rattle.rule_tests.proofs.RuleTests.{cents_from, passed_by}
use Rattle.rule_tests.specs.Rules.{cash_book_is_full, drawer_is_held, teller_is_of, vault_covers}
use Rattle.rule_tests.specs.Signed.{IsSigned}
use Rattle.rule_tests.proofs.FoundRows.{cash_from, for_found}
use Rattle.drawers.specs.Laws.{DrawerOnKeepsBooks}
use Rattle.drawers.specs.DrawerOn.{drawer_on_changes, drawer_on_effect, first_against_drawer_on, from_vault, given_line, into_drawer, is_in_range, taken_line}
use Rattle.drawers.specs.DrawerRows.{drawer_rows, is_unknown}
use Rattle.drawers.specs.declared.drawer_rows.DrawerRows.{DrawerRows}
use Rattle.drawers.proofs.DrawerThere.{AreThere, are_there, book_of, no_vault, rows_are, rows_of, teller_is}
use Rattle.drawers.proofs.PlacedLines.{AreCarried, carried_keep_books, not_below, opposite, still_cash, two_after}

-- ---- what the rules say

pub record IsAllowed (rows : DrawerRows) (form : DrawerOn) : Type 0 where
  pub known : is_unknown rows ≡ false
  pub of_branch : teller_is_of rows.teller form.branch ≡ true
  pub free : drawer_is_held rows.teller ≡ false
  pub covered : vault_covers rows.vault (from_vault form) ≡ true
  pub in_range : is_in_range rows form ≡ true
  pub room : cash_book_is_full rows.cash_book 2 ≡ false

pub is_allowed : (rows : DrawerRows) (form : DrawerOn) → first_against_drawer_on rows form ≡ None → IsAllowed rows form
is_allowed rows form none =
    let known = passed_by (is_unknown rows) _ _ none in
    let of_branch = passed_by (not (teller_is_of rows.teller form.branch)) _ _ known.1 in
    let free = passed_by (drawer_is_held rows.teller) _ _ of_branch.1 in
    let covered = passed_by (not (vault_covers rows.vault (from_vault form))) _ _ free.1 in
    let range = passed_by (not (is_in_range rows form)) _ _ covered.1 in
    let room = passed_by (cash_book_is_full rows.cash_book 2) _ _ range.1 in
    record {
      known = known.0;
      of_branch = not-false (teller_is_of rows.teller form.branch) of_branch.0;
      free = free.0;
      covered = not-false (vault_covers rows.vault (from_vault form)) covered.0;
      in_range = not-false (is_in_range rows form) range.0;
      room = room.0;
    }

-- ---- what it changes

-- its teller and its branch are there
abbrev pub IsThere : WorldLists → DrawerOn → Type 0
IsThere w form = AreThere w form.teller form.branch

-- the lines at the vault and at the drawer
abbrev pub given : (w : WorldLists) (form : DrawerOn) → IsThere w form → Signature → CashLine
given w form there by = given_line (book_of w form.teller form.branch there) form by

abbrev pub taken : (w : WorldLists) (form : DrawerOn) → IsThere w form → Signature → CashLine
taken w form there by = taken_line (book_of w form.teller form.branch there) form by

pub changes_are : (w : WorldLists) (form : DrawerOn) (there : IsThere w form) (by : Signature)
    → drawer_on_changes (drawer_rows w form.teller form.branch) form by ≡ write.Line (given w form there by) ∷ write.Line (taken w form there by) ∷ []
changes_are w form there by = ap (λ rows. drawer_on_changes rows form by) (rows_are w form.teller form.branch there)

pub effect_is : (w : WorldLists) (form : DrawerOn) (there : IsThere w form) (by : Signature)
    → drawer_on_effect w form by ≡ lined (given w form there by ∷ taken w form there by ∷ []) w
effect_is w form there by = ap (λ changes. applied changes w) (changes_are w form there by)

-- ---- its lines may come next, and there is room for them

into_drawers : (was z : ℤ) (b : Bool) → b ≡ false → was +ℤ z ≡ was +ℤ (pos 0 +ℤ (if not b then z else pos 0))
into_drawers was z true is = absurd cc
into_drawers was z false is = omega (arith, ints)

is_carried : (w : WorldLists) (form : DrawerOn) (by : Signature) (there : IsThere w form) → IsAllowed (rows_of w (Some there.holder) (Some there.home)) form → Books w → IsSigned w by
    → IsUserNumber by.user → IsDrawerOn form → AreCarried w form.branch (given w form there by) (taken w form there by)
is_carried w form by there allowed books signed number ranges =
    let parts = (books_parts w).0 books in
    let branch = found_row branch_key form.branch w.branches there.home there.home_is in
    let holder = found_row teller_key form.teller w.tellers there.holder there.holder_is in
    let day = (parts.0.rows.branches.each there.home branch.0).day in
    let drawer = no_vault form.teller ranges.teller in
    let range = and_parts _ _ allowed.in_range in
    let places = and_parts _ _ range.0 in
    record {
      placed = (
        record {
          of_branch = refl;
          sound = record { branch = (there.home, branch); place = inl refl; moment = signed.moment; day = day; user = signed.user };
          holder = number;
        },
        (
          record {
            of_branch = refl;
            sound = record { branch = (there.home, branch); place = inr (teller_is w form.teller form.branch there allowed.of_branch); moment = signed.moment; day = day; user = signed.user };
            holder = number;
          },
          tt,
        ),
      );
      numbered = (
        ap (λ k. line_count k w.lines + 1) branch.1,
        (ap (λ k. line_count k w.lines + 2) branch.1 ∙ two_after (line_count form.branch w.lines), tt),
      );
      two_places = λ same. drawer (sym same);
      opposite = opposite (pos form.cash);
      first_carries = (refl, refl);
      second_carries = (refl, refl);
      first_room = record {
        vault = λ zero b is.
            for_found (λ b. IsCash ((branch_record_of w b).vault +ℤ from_vault form)) (branch_row form.branch w.branches) there.home b there.home_is (cash_from _ allowed.covered places.0) is;
        drawer = λ vault. absurd (vault refl);
      };
      second_room = record {
        vault = λ zero. absurd (drawer zero);
        drawer = λ at t is.
            for_found (λ t. IsCash ((teller_record_of w t).cash +ℤ into_drawer form)) (teller_row form.teller w.tellers) there.holder t there.holder_is
            (still_cash _ _ (parts.1.tellers there.holder holder.0).cash.0 (not_below form.cash) (cents_from _ places.1)) is;
      };
      drawers = λ b is.
          for_found (λ b. IsCents ((branch_record_of w b).drawers +ℤ (to_drawers (given w form there by) +ℤ to_drawers (taken w form there by)))) (branch_row form.branch w.branches) there.home b
          there.home_is (subst IsCents (into_drawers _ (pos form.cash) (form.teller == 0) (ne_eqb form.teller 0 drawer)) (cents_from _ range.1)) is;
      lines = λ b is. for_found (λ b. (branch_record_of w b).lines + 2 ≤ max_key) (branch_row form.branch w.branches) there.home b there.home_is (ltb-false max_key _ allowed.room) is;
    }

-- ---- the law

-- of a user whose number is in its range
pub drawer_on_keeps_books : DrawerOnKeepsBooks
drawer_on_keeps_books w form by books signed number ranges none =
    let allowed = is_allowed (drawer_rows w form.teller form.branch) form none in
    let there = are_there w form.teller form.branch allowed.known in
    subst Books (sym (effect_is w form there by))
    (carried_keep_books w form.branch (given w form there by) (taken w form there by)
    (is_carried w form by there (subst (λ rows. IsAllowed rows form) (rows_are w form.teller form.branch there) allowed) books signed number ranges) books)

-- What is known of a drawer that no rule forbids to put off: its rows are there, its lines may come next, and there is room for them, since they leave the
-- drawer empty.
use Rattle.std.proofs.Common.{◌≡◌, ℕ, ◌+◌, ℤ, pos, neg_ℤ, ◌+ℤ◌, List, [], ◌∷◌, map, Bool, true, false, not, refl, ap, arith, sym, ◌∙◌, subst, ◌==◌, Some, None, inl, inr}
use Rattle.std.specs.Prelude.{if◌then◌else◌}
use Rattle.std.proofs.lemmas.Bool.{and_parts, eq-eqb, ltb-false, ne_eqb, not-false}
use Rattle.std.proofs.lemmas.Int.{ints}
use Rattle.keyed_rows.specs.Totals.{total}
use Rattle.bank_terms.specs.Limits.{max_key}
use Rattle.counter_ops.specs.DrawerOff.{IsDrawerOff}
use Rattle.row_members.specs.Ranges.{IsCash}
use Rattle.counter_ops.specs.declared.drawer_off.DrawerOff.{DrawerOff}
use Rattle.money.specs.Range.{IsCents}
use Rattle.bank_books.specs.Balances.{branch_row, teller_row}
use Rattle.bank_books.specs.Books.{Books}
use Rattle.bank_books.specs.Cash.{line_count}
use Rattle.bank_books.specs.Effects.{applied}
use Rattle.bank_books.specs.Keys.{branch_key}
use Rattle.bank_books.specs.Records.{branch_record_of, teller_record_of}
use Rattle.bank_books.specs.WorldLists.{WorldLists}
use Rattle.bank_books.specs.declared.row_write.RowWrite.TheVariants as write
use Rattle.bank_books.specs.declared.rows.CashLine.{CashLine}
use Rattle.bank_books.specs.declared.rows.Teller.{Teller}
use Rattle.bank_books.specs.declared.signature.Signature.{Signature}
use Rattle.book_laws.specs.Limits.{AreWithinLimits}
use Rattle.book_laws.specs.Moves.{HasCashRoom, HasDrawerRoom, HasRoomForLines, to_place}
use Rattle.book_laws.specs.Next.{lined}
use Rattle.book_laws.proofs.BooksSplit.{books_parts}
use Rattle.book_laws.proofs.LinesOfBranch.{lines_of_branch_keep_books}
use Rattle.keyed_rows.proofs.Rows.{found_row}
use Rattle.rule_tests.proofs.RuleTests.{cents_from, passed_by}
use Rattle.rule_tests.specs.Rules.{cash_book_is_full, drawer_is_held_by, teller_is_of}
use Rattle.rule_tests.specs.Signed.{IsSigned}
use Rattle.rule_tests.proofs.FoundRows.{for_found}
use Rattle.drawers.specs.DrawerOff.{difference, difference_line, drawer_off_changes, drawer_off_effect, emptied_line, first_against_drawer_off, is_in_range, returned_line}
use Rattle.drawers.specs.DrawerRows.{drawer_rows, is_unknown}
use Rattle.drawers.specs.Laws.{DrawerOffKeepsBooks}
use Rattle.drawers.specs.declared.drawer_rows.DrawerRows.{DrawerRows}
use Rattle.drawers.proofs.DrawerThere.{AreThere, are_there, book_of, no_vault, rows_are, rows_of, teller_is}
use Rattle.drawers.proofs.PlacedLines.{ArePlaced, next_lines, still_cash, two_after}

-- ---- what the rules say

pub record IsAllowed (rows : DrawerRows) (form : DrawerOff) (by : Signature) : Type 0 where
  pub known : is_unknown rows ≡ false
  pub of_branch : teller_is_of rows.teller form.branch ≡ true
  pub held : drawer_is_held_by rows.teller by.user ≡ true
  pub in_range : is_in_range rows form ≡ true
  pub room : cash_book_is_full rows.cash_book 3 ≡ false

pub is_allowed : (rows : DrawerRows) (form : DrawerOff) (by : Signature) → first_against_drawer_off rows form by ≡ None → IsAllowed rows form by
is_allowed rows form by none =
    let known = passed_by (is_unknown rows) _ _ none in
    let of_branch = passed_by (not (teller_is_of rows.teller form.branch)) _ _ known.1 in
    let held = passed_by (not (drawer_is_held_by rows.teller by.user)) _ _ of_branch.1 in
    let range = passed_by (not (is_in_range rows form)) _ _ held.1 in
    let room = passed_by (cash_book_is_full rows.cash_book 3) _ _ range.1 in
    record {
      known = known.0;
      of_branch = not-false (teller_is_of rows.teller form.branch) of_branch.0;
      held = not-false (drawer_is_held_by rows.teller by.user) held.0;
      in_range = not-false (is_in_range rows form) range.0;
      room = room.0;
    }

-- ---- what it changes

-- its teller and its branch are there
abbrev pub IsThere : WorldLists → DrawerOff → Type 0
IsThere w form = AreThere w form.teller form.branch

-- the lines of what its count differs by, of what it holds then, and of what the vault has back
abbrev pub counted : (w : WorldLists) (form : DrawerOff) → IsThere w form → Signature → CashLine
counted w form there by = difference_line (book_of w form.teller form.branch there) (teller_record_of w there.holder) form by

abbrev pub emptied : (w : WorldLists) (form : DrawerOff) → IsThere w form → Signature → CashLine
emptied w form there by = emptied_line (book_of w form.teller form.branch there) form by

abbrev pub returned : (w : WorldLists) (form : DrawerOff) → IsThere w form → Signature → CashLine
returned w form there by = returned_line (book_of w form.teller form.branch there) form by

abbrev pub lines_of : (w : WorldLists) (form : DrawerOff) → IsThere w form → Signature → List CashLine
lines_of w form there by = counted w form there by ∷ emptied w form there by ∷ returned w form there by ∷ []

pub changes_are : (w : WorldLists) (form : DrawerOff) (there : IsThere w form) (by : Signature)
    → drawer_off_changes (drawer_rows w form.teller form.branch) form by
    ≡ write.Line (counted w form there by) ∷ write.Line (emptied w form there by) ∷ write.Line (returned w form there by) ∷ []
changes_are w form there by = ap (λ rows. drawer_off_changes rows form by) (rows_are w form.teller form.branch there)

pub effect_is : (w : WorldLists) (form : DrawerOff) (there : IsThere w form) (by : Signature) → drawer_off_effect w form by ≡ lined (lines_of w form there by) w
effect_is w form there by = ap (λ changes. applied changes w) (changes_are w form there by)

-- ---- its lines may come next

three_after : (n : ℕ) → n + 3 ≡ ((n + 1) + 1) + 1
three_after n = omega arith

are_placed : (w : WorldLists) (form : DrawerOff) (by : Signature) (there : IsThere w form) → IsAllowed (rows_of w (Some there.holder) (Some there.home)) form by → Books w → IsSigned w by
    → ArePlaced w form.branch (lines_of w form there by)
are_placed w form by there allowed books signed =
    let branch = found_row branch_key form.branch w.branches there.home there.home_is in
    let day = (((books_parts w).0 books).0.rows.branches.each there.home branch.0).day in
    let teller = teller_is w form.teller form.branch there allowed.of_branch in (
      record {
        of_branch = refl;
        sound = record { branch = (there.home, branch); place = inr teller; moment = signed.moment; day = day; user = signed.user };
        holder = tt;
      },
      (
        record {
          of_branch = refl;
          sound = record { branch = (there.home, branch); place = inr teller; moment = signed.moment; day = day; user = signed.user };
          holder = tt;
        },
        (
          record {
            of_branch = refl;
            sound = record { branch = (there.home, branch); place = inl refl; moment = signed.moment; day = day; user = signed.user };
            holder = tt;
          },
          tt,
        ),
      ),
    )

-- ---- there is room for them

-- what the three lines come to, with what is counted and what the cash of the drawer was
counted_in_vault : (was d c : ℤ) (b : Bool) → b ≡ false → was +ℤ c ≡ was +ℤ ((if b then d else pos 0) +ℤ ((if b then neg_ℤ c else pos 0) +ℤ (c +ℤ pos 0)))
counted_in_vault was d c true is = absurd cc
counted_in_vault was d c false is = omega (arith, ints)

out_of_drawers : (was c cash : ℤ) (b : Bool) → b ≡ false
    → was +ℤ neg_ℤ cash ≡ was +ℤ ((if not b then c +ℤ neg_ℤ cash else pos 0) +ℤ ((if not b then neg_ℤ c else pos 0) +ℤ (pos 0 +ℤ pos 0)))
out_of_drawers was c cash true is = absurd cc
out_of_drawers was c cash false is = omega (arith, ints)

leaves_nothing : (c cash : ℤ) (at vault : Bool) → at ≡ true → vault ≡ false
    → pos 0 ≡ cash +ℤ ((if at then c +ℤ neg_ℤ cash else pos 0) +ℤ ((if at then neg_ℤ c else pos 0) +ℤ ((if vault then c else pos 0) +ℤ pos 0)))
leaves_nothing c cash true false at vault = omega (arith, ints)
leaves_nothing c cash false vault at none = absurd cc
leaves_nothing c cash true true at vault = absurd cc

one_alone : (was d : ℤ) → was +ℤ d ≡ was +ℤ (d +ℤ (pos 0 +ℤ (pos 0 +ℤ pos 0)))
one_alone was d = omega (arith, ints)

none_of_three : (was : ℤ) → was ≡ was +ℤ (pos 0 +ℤ (pos 0 +ℤ (pos 0 +ℤ pos 0)))
none_of_three was = omega (arith, ints)

no_gap : (c : ℤ) → pos 0 +ℤ (neg_ℤ c +ℤ (c +ℤ pos 0)) ≡ pos 0
no_gap c = omega (arith, ints)

nothing_is_cash : IsCash (pos 0)
nothing_is_cash = (omega (arith, ints), omega (arith, ints))

cash_room : (w : WorldLists) (form : DrawerOff) (by : Signature) (there : IsThere w form) → IsAllowed (rows_of w (Some there.holder) (Some there.home)) form by → AreWithinLimits w → IsDrawerOff form
    → HasCashRoom (branch_record_of w there.home) (lines_of w form there by)
cash_room w form by there allowed limits ranges =
    let was = (limits.branches there.home (found_row branch_key form.branch w.branches there.home there.home_is).0).cash in
    let no_vault_here = ne_eqb form.teller 0 (no_vault form.teller ranges.teller) in
    let range = and_parts _ _ allowed.in_range in
    let book = and_parts _ _ range.1 in
    let differences = and_parts _ _ book.0 in
    record {
      vault_within =
          subst IsCash (counted_in_vault (branch_record_of w there.home).vault (difference form (teller_record_of w there.holder)) form.counted (form.teller == 0) no_vault_here)
          (still_cash _ _ was.vault_within.0 ranges.counted.0 (cents_from _ range.0));
      drawers_within =
          subst IsCents (out_of_drawers (branch_record_of w there.home).drawers form.counted (teller_record_of w there.holder).cash (form.teller == 0) no_vault_here) (cents_from _ book.1);
      cash_entries_within = subst IsCents (none_of_three (branch_record_of w there.home).cash_entries) was.cash_entries_within;
      differences_within =
          subst IsCents (one_alone (branch_record_of w there.home).differences (difference form (teller_record_of w there.holder))) (cents_from _ differences.1);
      lines_within = ltb-false max_key _ allowed.room;
    }

drawer_room : (w : WorldLists) (form : DrawerOff) (by : Signature) (there : IsThere w form) → HasDrawerRoom w form.branch (lines_of w form there by) form.teller
drawer_room w form by there drawer t is of =
    let left : Teller → ℤ = λ t. (teller_record_of w t).cash +ℤ total (map (to_place form.teller) (lines_of w form there by)) in
    let none = leaves_nothing form.counted (teller_record_of w there.holder).cash (form.teller == form.teller) (0 == form.teller) (eq-eqb form.teller form.teller refl)
    (ne_eqb 0 form.teller (λ same. drawer (sym same))) in
    for_found (λ t. IsCash (left t)) (teller_row form.teller w.tellers) there.holder t there.holder_is (subst IsCash none nothing_is_cash) is

has_room : (w : WorldLists) (form : DrawerOff) (by : Signature) (there : IsThere w form) → IsAllowed (rows_of w (Some there.holder) (Some there.home)) form by → AreWithinLimits w → IsDrawerOff form
    → HasRoomForLines w form.branch (lines_of w form there by)
has_room w form by there allowed limits ranges = record {
  cash = λ b is.
      for_found (λ b. HasCashRoom (branch_record_of w b) (lines_of w form there by)) (branch_row form.branch w.branches) there.home b there.home_is (cash_room w form by there allowed limits ranges) is;
  drawers = (drawer_room w form by there, (drawer_room w form by there, ((λ vault. absurd (vault refl)), tt)));
}

-- ---- the law

pub drawer_off_keeps_books : DrawerOffKeepsBooks
drawer_off_keeps_books w form by books signed ranges none =
    let found = is_allowed (drawer_rows w form.teller form.branch) form by none in
    let there = are_there w form.teller form.branch found.known in
    let allowed = subst (λ rows. IsAllowed rows form by) (rows_are w form.teller form.branch there) found in
    let following = ap (λ k. line_count k w.lines) (found_row branch_key form.branch w.branches there.home there.home_is).1 in
    subst Books (sym (effect_is w form there by))
    (lines_of_branch_keep_books w form.branch (lines_of w form there by)
    (next_lines w form.branch (lines_of w form there by) (are_placed w form by there allowed books signed)
    (ap (λ n. n + 1) following, (ap (λ n. n + 2) following ∙ two_after (line_count form.branch w.lines), (ap (λ n. n + 3) following ∙ three_after (line_count form.branch w.lines), tt))))
    (refl, (refl, (refl, tt))) (no_gap form.counted) (has_room w form by there allowed ((books_parts w).0 books).1 ranges) books)

-- Lines of cash at the places of one branch: when they may come next one after another, and when two that carry cash from one place to another keep the
-- books.
use Rattle.std.proofs.Common.{◌≡◌, ◌≢◌, ℕ, ◌+◌, ◌≤◌, ℤ, pos, neg_ℤ, ◌+ℤ◌, List, [], ◌∷◌, Bool, true, false, refl, ap, arith, sym, ◌∙◌, subst, ◌==◌, ◌||◌, ◌⊎◌, inl, inr, Some}
use Rattle.std.specs.Prelude.{◌≤ℤ◌, IfSome, ⊤, if◌then◌else◌}
use Rattle.std.specs.List.{AllByRecursion}
use Rattle.std.proofs.lemmas.Bool.{cases_Bool, eq-eqb, eqb-true, ne_eqb}
use Rattle.std.proofs.lemmas.Int.{ints}
use Rattle.keyed_rows.specs.Ordered.{add_row}
use Rattle.bank_terms.specs.Limits.{max_key}
use Rattle.row_members.specs.Ranges.{IsCash}
use Rattle.money.specs.Range.{IsCents}
use Rattle.bank_books.specs.Balances.{branch_row, teller_row}
use Rattle.bank_books.specs.Books.{Books}
use Rattle.bank_books.specs.Cash.{holder_after, is_cash_entry, is_difference, line_count}
use Rattle.bank_books.specs.Keys.{branch_key, line_key}
use Rattle.bank_books.specs.Range.{IsUserNumber}
use Rattle.bank_books.specs.Records.{branch_record_of, teller_record_of}
use Rattle.bank_books.specs.WorldLists.{WorldLists}
use Rattle.bank_books.specs.declared.rows.Branch.{Branch}
use Rattle.bank_books.specs.declared.rows.CashLine.{CashLine}
use Rattle.bank_books.specs.declared.rows.Teller.{Teller}
use Rattle.book_laws.specs.CashGap.{gap_share}
use Rattle.book_laws.specs.Ledger.{IsLineSound}
use Rattle.book_laws.specs.Limits.{AreWithinLimits}
use Rattle.book_laws.specs.Moves.{HasRoomForLines, to_drawers, to_place}
use Rattle.book_laws.specs.Next.{AreNextLines, lined}
use Rattle.book_laws.proofs.BooksSplit.{books_parts}
use Rattle.book_laws.proofs.LinesOfBranch.{lines_of_branch_keep_books}
use Rattle.keyed_rows.proofs.Rows.{count_named, found_row}

-- ---- one after another

-- what a line of the branch has to be, beside its number
pub record IsPlaced (w : WorldLists) (branch : ℕ) (l : CashLine) : Type 0 where
  pub of_branch : l.branch ≡ branch
  pub sound : IsLineSound w.branches w.tellers w.policy.users l
  pub holder : IfSome (holder_after l l.form) IsUserNumber

abbrev pub ArePlaced : WorldLists → ℕ → List CashLine → Type 0
ArePlaced w branch lines = AllByRecursion (IsPlaced w branch) lines

-- numbered one by one, from n + 1 on
abbrev pub AreNumberedAfter : ℕ → List CashLine → Type 0
AreNumberedAfter n [] = ⊤
AreNumberedAfter n (l ∷ lines) = (l.number ≡ n + 1) × AreNumberedAfter (n + 1) lines

-- with the lines that are there by then
next_after : (w : WorldLists) (book : List CashLine) (branch : ℕ) (lines : List CashLine) → ArePlaced w branch lines → AreNumberedAfter (line_count branch book) lines
    → AreNextLines (record w { lines = book }) lines
next_after w book branch [] placed numbered = tt
next_after w book branch (l ∷ lines) placed numbered = (
  record {
    sound = placed.0.sound;
    number = subst (λ k. l.number ≡ line_count k book + 1) (sym placed.0.of_branch) numbered.0;
    holder = placed.0.holder;
  },
  next_after w (add_row line_key l book) branch lines placed.1
      (subst (λ n. AreNumberedAfter n lines) (sym (count_named line_key (λ x. x.branch == branch) l book (eq-eqb l.branch branch placed.0.of_branch))) numbered.1),
)

pub next_lines : (w : WorldLists) (branch : ℕ) (lines : List CashLine) → ArePlaced w branch lines → AreNumberedAfter (line_count branch w.lines) lines → AreNextLines w lines
next_lines w branch lines placed numbered = next_after w w.lines branch lines placed numbered

pub two_after : (n : ℕ) → n + 2 ≡ (n + 1) + 1
two_after n = omega arith

-- ---- room

-- the cash of a place of the branch, with this added, may be there
pub record HasRoomAt (w : WorldLists) (branch place : ℕ) (added : ℤ) : Type 0 where
  pub vault : place ≡ 0 → (b : Branch) → branch_row branch w.branches ≡ Some b → IsCash ((branch_record_of w b).vault +ℤ added)
  pub drawer : place ≢ 0 → (t : Teller) → teller_row place w.tellers ≡ Some t → IsCash ((teller_record_of w t).cash +ℤ added)

pub not_below : (n : ℕ) → pos 0 ≤ℤ pos n
not_below n = omega (arith, ints)

pub opposite : (z : ℤ) → neg_ℤ z +ℤ z ≡ pos 0
opposite z = omega (arith, ints)

-- what is added to cash is not below zero, and the sum is an amount of money
pub still_cash : (cash added : ℤ) → pos 0 ≤ℤ cash → pos 0 ≤ℤ added → IsCents (cash +ℤ added) → IsCash (cash +ℤ added)
still_cash cash added was more within = (sum_not_below cash added was more, within.1)
  where
    sum_not_below : (a b : ℤ) → pos 0 ≤ℤ a → pos 0 ≤ℤ b → pos 0 ≤ℤ (a +ℤ b)
    sum_not_below a b first second = omega (arith, ints)

-- what is added up of two lines, where one passes a test, the other does, or none of them
pub first_alone : (was x y : ℤ) (f s : Bool) → f ≡ true → s ≡ false → was +ℤ ((if f then x else pos 0) +ℤ ((if s then y else pos 0) +ℤ pos 0)) ≡ was +ℤ x
first_alone was x y true false here other = omega (arith, ints)
first_alone was x y false s here other = absurd cc
first_alone was x y true true here other = absurd cc

pub second_alone : (was x y : ℤ) (f s : Bool) → f ≡ false → s ≡ true → was +ℤ ((if f then x else pos 0) +ℤ ((if s then y else pos 0) +ℤ pos 0)) ≡ was +ℤ y
second_alone was x y false true other here = omega (arith, ints)
second_alone was x y true s other here = absurd cc
second_alone was x y false false other here = absurd cc

pub none_of_two : (was x y : ℤ) (f s : Bool) → f ≡ false → s ≡ false → was +ℤ ((if f then x else pos 0) +ℤ ((if s then y else pos 0) +ℤ pos 0)) ≡ was
none_of_two was x y false false first second = omega (arith, ints)
none_of_two was x y true s first second = absurd cc
none_of_two was x y false true first second = absurd cc

-- ---- two lines

-- it is no cash of an entry, and no difference
abbrev pub IsCarrying : CashLine → Type 0
IsCarrying l = (is_cash_entry l.form ≡ false) × (is_difference l.form ≡ false)

-- the first takes from one place of the branch what the second gives another, and both have room for it
pub record AreCarried (w : WorldLists) (branch : ℕ) (first second : CashLine) : Type 0 where
  pub placed : ArePlaced w branch (first ∷ second ∷ [])
  pub numbered : AreNumberedAfter (line_count branch w.lines) (first ∷ second ∷ [])
  pub two_places : first.place ≢ second.place
  pub opposite : first.amount +ℤ second.amount ≡ pos 0
  pub first_carries : IsCarrying first
  pub second_carries : IsCarrying second
  pub first_room : HasRoomAt w branch first.place first.amount
  pub second_room : HasRoomAt w branch second.place second.amount
  pub drawers : (b : Branch) → branch_row branch w.branches ≡ Some b → IsCents ((branch_record_of w b).drawers +ℤ (to_drawers first +ℤ to_drawers second))
  pub lines : (b : Branch) → branch_row branch w.branches ≡ Some b → (branch_record_of w b).lines + 2 ≤ max_key

share_is : (l : CashLine) → IsCarrying l → gap_share l ≡ l.amount
share_is l carries =
    ap (λ b. if b || is_difference l.form then pos 0 else l.amount) carries.0 ∙ ap (λ b. if b then pos 0 else l.amount) carries.1

last_nothing : (a b c : ℤ) → a +ℤ (b +ℤ c) ≡ a +ℤ (b +ℤ (c +ℤ pos 0))
last_nothing a b c = omega (arith, ints)

nothing_together : (a b x y : ℤ) → a ≡ x → b ≡ y → x +ℤ y ≡ pos 0 → a +ℤ (b +ℤ pos 0) ≡ pos 0
nothing_together a b x y first second none = omega (arith, ints)

vault_room : (w : WorldLists) (branch : ℕ) (first second : CashLine) → AreCarried w branch first second → AreWithinLimits w → (b : Branch) → branch_row branch w.branches ≡ Some b
    → IsCash ((branch_record_of w b).vault +ℤ (to_place 0 first +ℤ (to_place 0 second +ℤ pos 0)))
vault_room w branch first second carried limits b is = go (cases_Bool (first.place == 0)) (cases_Bool (second.place == 0))
  where
    was : ℤ
    was = (branch_record_of w b).vault

    go : ((first.place == 0) ≡ true) ⊎ ((first.place == 0) ≡ false) → ((second.place == 0) ≡ true) ⊎ ((second.place == 0) ≡ false)
        → IsCash (was +ℤ (to_place 0 first +ℤ (to_place 0 second +ℤ pos 0)))
    go (inl f) (inl s) = absurd (carried.two_places (eqb-true first.place 0 f ∙ sym (eqb-true second.place 0 s)))
    go (inl f) (inr s) =
        subst IsCash (sym (first_alone was first.amount second.amount (first.place == 0) (second.place == 0) f s)) (carried.first_room.vault (eqb-true first.place 0 f) b is)
    go (inr f) (inl s) =
        subst IsCash (sym (second_alone was first.amount second.amount (first.place == 0) (second.place == 0) f s)) (carried.second_room.vault (eqb-true second.place 0 s) b is)
    go (inr f) (inr s) =
        subst IsCash (sym (none_of_two was first.amount second.amount (first.place == 0) (second.place == 0) f s))
        (limits.branches b (found_row branch_key branch w.branches b is).0).cash.vault_within

room_for_two : (w : WorldLists) (branch : ℕ) (first second : CashLine) → AreCarried w branch first second → AreWithinLimits w → HasRoomForLines w branch (first ∷ second ∷ [])
room_for_two w branch first second carried limits = record {
  cash = λ b is.
      let was = (limits.branches b (found_row branch_key branch w.branches b is).0).cash in
      record {
        vault_within = vault_room w branch first second carried limits b is;
        drawers_within = subst IsCents (last_nothing (branch_record_of w b).drawers (to_drawers first) (to_drawers second)) (carried.drawers b is);
        cash_entries_within =
            subst IsCents (sym (none_of_two (branch_record_of w b).cash_entries first.amount second.amount (is_cash_entry first.form) (is_cash_entry second.form) carried.first_carries.0 carried.second_carries.0))
            was.cash_entries_within;
        differences_within =
            subst IsCents (sym (none_of_two (branch_record_of w b).differences first.amount second.amount (is_difference first.form) (is_difference second.form) carried.first_carries.1 carried.second_carries.1))
            was.differences_within;
        lines_within = carried.lines b is;
      };
  drawers = (
    λ drawer t is of.
        subst IsCash (sym (first_alone (teller_record_of w t).cash first.amount second.amount (first.place == first.place) (second.place == first.place) (eq-eqb first.place first.place refl)
        (ne_eqb second.place first.place (λ same. carried.two_places (sym same))))) (carried.first_room.drawer drawer t is),
    (
      λ drawer t is of.
          subst IsCash (sym (second_alone (teller_record_of w t).cash first.amount second.amount (first.place == second.place) (second.place == second.place)
          (ne_eqb first.place second.place carried.two_places) (eq-eqb second.place second.place refl))) (carried.second_room.drawer drawer t is),
      tt,
    ),
  );
}

pub carried_keep_books : (w : WorldLists) (branch : ℕ) (first second : CashLine) → AreCarried w branch first second → Books w → Books (lined (first ∷ second ∷ []) w)
carried_keep_books w branch first second carried books =
    lines_of_branch_keep_books w branch (first ∷ second ∷ []) (next_lines w branch (first ∷ second ∷ []) carried.placed carried.numbered)
    (carried.placed.0.of_branch, (carried.placed.1.0.of_branch, tt))
    (nothing_together (gap_share first) (gap_share second) first.amount second.amount (share_is first carried.first_carries) (share_is second carried.second_carries) carried.opposite)
    (room_for_two w branch first second carried ((books_parts w).0 books).1) books

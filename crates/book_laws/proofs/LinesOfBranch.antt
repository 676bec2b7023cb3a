-- Several lines of one branch, with room for what they come to, keep the books.
use Rattle.std.proofs.Common.{◌≡◌, ◌≢◌, ℕ, suc, ◌+◌, ◌≤◌, ℤ, pos, ◌+ℤ◌, List, [], ◌∷◌, map, length, Bool, true, false, not, refl, ap, arith, sym, ◌∙◌, subst, ◌==◌, ◌&&◌, Contains, ◌⊎◌, inl, inr}
use Rattle.std.specs.Prelude.{if◌then◌else◌}
use Rattle.std.specs.List.{AllByRecursion}
use Rattle.std.proofs.lemmas.Bool.{cases_Bool, eq-eqb, eqb-false, eqb-true, ne_eqb}
use Rattle.std.proofs.lemmas.Int.{ints}
use Rattle.keyed_rows.specs.Totals.{total}
use Rattle.bank_books.specs.Cash.{is_cash_entry, is_difference, line_count, place_cash}
use Rattle.bank_books.specs.Effects.{written}
use Rattle.bank_books.specs.Keys.{branch_key, line_key, teller_key}
use Rattle.bank_books.specs.Records.{branch_record_of}
use Rattle.bank_books.specs.WorldLists.{WorldLists}
use Rattle.bank_books.specs.declared.row_write.RowWrite.TheVariants as write
use Rattle.bank_books.specs.declared.rows.Branch.{Branch}
use Rattle.bank_books.specs.declared.rows.CashLine.{CashLine}
use Rattle.bank_books.specs.declared.rows.Teller.{Teller}
use Rattle.row_members.specs.Ranges.{IsCash}
use Rattle.money.specs.Range.{IsCents}
use Rattle.book_laws.specs.CashGap.{gap_share}
use Rattle.book_laws.specs.Laws.{LinesOfBranchKeepBooks}
use Rattle.book_laws.specs.Ledger.{IsOpenLedger}
use Rattle.book_laws.specs.Limits.{AreWithinLimits, IsBranchWithin}
use Rattle.book_laws.specs.Moves.{HasDrawerRoom, HasRoomForLines, to_place}
use Rattle.book_laws.specs.Next.{lined}
use Rattle.book_laws.proofs.BooksSplit.{books_parts}
use Rattle.book_laws.proofs.LineAdded.{share_moves}
use Rattle.book_laws.proofs.LinesBooks.{lines_keep_books, one_more}
use Rattle.keyed_rows.proofs.Rows.{above, count_named, count_other, find_of_key}

abbrev AreOf : ℕ → List CashLine → Type 0
AreOf branch lines = AllByRecursion (λ l. l.branch ≡ branch) lines

-- what a line adds where it is of the branch and passes, and where it passes
abbrev share : ℕ → (CashLine → Bool) → CashLine → ℤ
share branch p l = if l.branch == branch && p l then l.amount else pos 0

abbrev part : (CashLine → Bool) → CashLine → ℤ
part p l = if p l then l.amount else pos 0

-- ---- the lines alone

-- they touch the cash book, and nothing else
lines_alone : (lines : List CashLine) (w : WorldLists) → lined lines w ≡ record w { lines = (lined lines w).lines }
lines_alone [] w = refl
lines_alone (l ∷ lines) w = lines_alone lines (written (write.Line l) w)

plus_zero : (a : ℤ) → a ≡ a +ℤ pos 0
plus_zero a = omega (arith, ints)

two_parts : (a b c d : ℤ) → a ≡ c → b ≡ d → a +ℤ b ≡ c +ℤ d
two_parts a b c d first rest = ap (λ z. z +ℤ b) first ∙ ap (λ z. c +ℤ z) rest

nothing_twice : pos 0 +ℤ pos 0 ≡ pos 0
nothing_twice = omega (arith, ints)

shares_of_it : (branch : ℕ) (p : CashLine → Bool) (lines : List CashLine) → AreOf branch lines → total (map (share branch p) lines) ≡ total (map (part p) lines)
shares_of_it branch p [] of = refl
shares_of_it branch p (l ∷ lines) of =
    two_parts (share branch p l) (total (map (share branch p) lines)) (part p l) (total (map (part p) lines))
    (ap (λ b. if b && p l then l.amount else pos 0) (eq-eqb l.branch branch of.0)) (shares_of_it branch p lines of.1)

shares_of_other : (branch other : ℕ) (p : CashLine → Bool) (lines : List CashLine) → AreOf branch lines → branch ≢ other → total (map (share other p) lines) ≡ pos 0
shares_of_other branch other p [] of apart = refl
shares_of_other branch other p (l ∷ lines) of apart =
    two_parts (share other p l) (total (map (share other p) lines)) (pos 0) (pos 0)
    (ap (λ b. if b && p l then l.amount else pos 0) (ne_eqb l.branch other (λ same. apart (sym of.0 ∙ same)))) (shares_of_other branch other p lines of.1 apart)
    ∙ nothing_twice

gaps_of_it : (branch : ℕ) (lines : List CashLine) → AreOf branch lines → total (map (λ l. if l.branch == branch then gap_share l else pos 0) lines) ≡ total (map gap_share lines)
gaps_of_it branch [] of = refl
gaps_of_it branch (l ∷ lines) of =
    two_parts (if l.branch == branch then gap_share l else pos 0) (total (map (λ x. if x.branch == branch then gap_share x else pos 0) lines)) (gap_share l) (total (map gap_share lines))
    (ap (λ b. if b then gap_share l else pos 0) (eq-eqb l.branch branch of.0)) (gaps_of_it branch lines of.1)

gaps_of_other : (branch other : ℕ) (lines : List CashLine) → AreOf branch lines → branch ≢ other → total (map (λ l. if l.branch == other then gap_share l else pos 0) lines) ≡ pos 0
gaps_of_other branch other [] of apart = refl
gaps_of_other branch other (l ∷ lines) of apart =
    two_parts (if l.branch == other then gap_share l else pos 0) (total (map (λ x. if x.branch == other then gap_share x else pos 0) lines)) (pos 0) (pos 0)
    (ap (λ b. if b then gap_share l else pos 0) (ne_eqb l.branch other (λ same. apart (sym of.0 ∙ same)))) (gaps_of_other branch other lines of.1 apart)
    ∙ nothing_twice

-- no branch's gap is moved by all of them
gaps_are_none : (branch : ℕ) (lines : List CashLine) → AreOf branch lines → total (map gap_share lines) ≡ pos 0 → (other : ℕ)
    → total (map (λ l. if l.branch == other then gap_share l else pos 0) lines) ≡ pos 0
gaps_are_none branch lines of none other = elim (cases_Bool (branch == other)) [
  | inl is ↦ gaps_of_it other lines (subst (λ k. AreOf k lines) (eqb-true branch other is) of) ∙ none
  | inr is ↦ gaps_of_other branch other lines of (eqb-false branch other is)
]

-- ---- the cash book with them

shares_along : (w : WorldLists) (branch : ℕ) (p : CashLine → Bool) (lines : List CashLine)
    → total (map (share branch p) (lined lines w).lines) ≡ total (map (share branch p) w.lines) +ℤ total (map (share branch p) lines)
shares_along w branch p [] = plus_zero (total (map (share branch p) w.lines))
shares_along w branch p (l ∷ lines) =
    one_more (total (map (share branch p) (lined lines (written (write.Line l) w)).lines)) (total (map (share branch p) (written (write.Line l) w).lines)) (total (map (share branch p) w.lines))
    (share branch p l) (total (map (share branch p) lines)) (shares_along (written (write.Line l) w) branch p lines) (share_moves l w.lines branch p)

gains_parts : (w : WorldLists) (branch : ℕ) (p : CashLine → Bool) (lines : List CashLine) → AreOf branch lines
    → total (map (share branch p) (lined lines w).lines) ≡ total (map (share branch p) w.lines) +ℤ total (map (part p) lines)
gains_parts w branch p lines of = shares_along w branch p lines ∙ ap (λ z. total (map (share branch p) w.lines) +ℤ z) (shares_of_it branch p lines of)

gains_nothing : (w : WorldLists) (branch other : ℕ) (p : CashLine → Bool) (lines : List CashLine) → AreOf branch lines → branch ≢ other
    → total (map (share other p) (lined lines w).lines) ≡ total (map (share other p) w.lines)
gains_nothing w branch other p lines of apart =
    shares_along w other p lines ∙ ap (λ z. total (map (share other p) w.lines) +ℤ z) (shares_of_other branch other p lines of apart) ∙ sym (plus_zero (total (map (share other p) w.lines)))

one_line_more : (n m k : ℕ) → m ≡ (n + 1) + k → m ≡ n + suc k
one_line_more n m k is = omega arith

none_more : (n : ℕ) → n ≡ n + 0
none_more n = omega arith

counts_them : (w : WorldLists) (branch : ℕ) (lines : List CashLine) → AreOf branch lines → line_count branch (lined lines w).lines ≡ line_count branch w.lines + length lines
counts_them w branch [] of = none_more (line_count branch w.lines)
counts_them w branch (l ∷ lines) of =
    one_line_more (line_count branch w.lines) (line_count branch (lined lines (written (write.Line l) w)).lines) (length lines)
    (counts_them (written (write.Line l) w) branch lines of.1
    ∙ ap (λ n. n + length lines) (count_named line_key (λ x. x.branch == branch) l w.lines (eq-eqb l.branch branch of.0)))

counts_none : (w : WorldLists) (branch other : ℕ) (lines : List CashLine) → AreOf branch lines → branch ≢ other → line_count other (lined lines w).lines ≡ line_count other w.lines
counts_none w branch other [] of apart = refl
counts_none w branch other (l ∷ lines) of apart =
    counts_none (written (write.Line l) w) branch other lines of.1 apart ∙ count_other line_key (λ x. x.branch == other) l w.lines (ne_eqb l.branch other (λ same. apart (sym of.0 ∙ same)))

-- ---- the limits

-- the World with another cash book
abbrev with_book : WorldLists → List CashLine → WorldLists
with_book w book = record w { lines = book }

branch_within : (w : WorldLists) (branch : ℕ) (lines : List CashLine) → AreOf branch lines → HasRoomForLines w branch lines → IsOpenLedger w → AreWithinLimits w → (row : Branch) → Contains w.branches row
    → IsBranchWithin (branch_record_of (with_book w (lined lines w).lines) row)
branch_within w branch lines of room ledger limits row there = elim (cases_Bool (branch == row.branch)) [
  | inl is ↦ of_it (eqb-true branch row.branch is)
  | inr is ↦ of_other (eqb-false branch row.branch is)
]
  where
    was : IsBranchWithin (branch_record_of w row)
    was = limits.branches row there

    of_it : branch ≡ row.branch → IsBranchWithin (branch_record_of (with_book w (lined lines w).lines) row)
    of_it same =
        let all = subst (λ k. AreOf k lines) same of in
        let within = room.cash row (find_of_key branch_key branch w.branches row ledger.branches.keys there (sym same)) in
        record {
          history = was.history;
          cash = record {
            vault_within = subst IsCash (sym (above row.cash (place_cash row.branch 0 w.lines) _ _ (gains_parts w row.branch (λ x. x.place == 0) lines all))) within.vault_within;
            drawers_within = subst IsCents (sym (gains_parts w row.branch (λ x. not (x.place == 0)) lines all)) within.drawers_within;
            cash_entries_within = subst IsCents (sym (gains_parts w row.branch (λ x. is_cash_entry x.form) lines all)) within.cash_entries_within;
            differences_within = subst IsCents (sym (gains_parts w row.branch (λ x. is_difference x.form) lines all)) within.differences_within;
            lines_within = subst (λ n. n ≤ 999999999) (sym (counts_them w row.branch lines all)) within.lines_within;
          };
          accounts = was.accounts;
        }

    of_other : branch ≢ row.branch → IsBranchWithin (branch_record_of (with_book w (lined lines w).lines) row)
    of_other apart = record {
      history = was.history;
      cash = record {
        vault_within = subst IsCash (sym (ap (λ z. row.cash +ℤ z) (gains_nothing w branch row.branch (λ x. x.place == 0) lines of apart))) was.cash.vault_within;
        drawers_within = subst IsCents (sym (gains_nothing w branch row.branch (λ x. not (x.place == 0)) lines of apart)) was.cash.drawers_within;
        cash_entries_within = subst IsCents (sym (gains_nothing w branch row.branch (λ x. is_cash_entry x.form) lines of apart)) was.cash.cash_entries_within;
        differences_within = subst IsCents (sym (gains_nothing w branch row.branch (λ x. is_difference x.form) lines of apart)) was.cash.differences_within;
        lines_within = subst (λ n. n ≤ 999999999) (sym (counts_none w branch row.branch lines of apart)) was.cash.lines_within;
      };
      accounts = was.accounts;
    }

-- a place that one of the lines names, or none does
room_at : (w : WorldLists) (branch : ℕ) (all : List CashLine) (place : ℕ) (lines : List CashLine) → AllByRecursion (λ l. HasDrawerRoom w branch all l.place) lines
    → HasDrawerRoom w branch all place ⊎ (total (map (to_place place) lines) ≡ pos 0)
room_at w branch all place [] room = inr refl
room_at w branch all place (l ∷ lines) room = go (cases_Bool (l.place == place)) (room_at w branch all place lines room.1)
  where
    go : ((l.place == place) ≡ true) ⊎ ((l.place == place) ≡ false) → HasDrawerRoom w branch all place ⊎ (total (map (to_place place) lines) ≡ pos 0)
        → HasDrawerRoom w branch all place ⊎ (total (map (to_place place) (l ∷ lines)) ≡ pos 0)
    go (inl at) rest = inl (subst (HasDrawerRoom w branch all) (eqb-true l.place place at) room.0)
    go (inr off) (inl there) = inl there
    go (inr off) (inr none) =
        inr (two_parts (to_place place l) (total (map (to_place place) lines)) (pos 0) (pos 0) (ap (λ b. if b then l.amount else pos 0) off) none ∙ nothing_twice)

some_key : (n : ℕ) → 1 ≤ n → n ≢ 0
some_key n some is = omega arith

drawer_within : (w : WorldLists) (branch : ℕ) (lines : List CashLine) → AreOf branch lines → HasRoomForLines w branch lines → IsOpenLedger w → AreWithinLimits w → (t : Teller) → Contains w.tellers t
    → IsCash (place_cash t.branch t.teller (lined lines w).lines)
drawer_within w branch lines of room ledger limits t there = elim (cases_Bool (branch == t.branch)) [
  | inl is ↦ of_it (eqb-true branch t.branch is) (room_at w branch lines t.teller lines room.drawers)
  | inr is ↦ subst IsCash (sym (gains_nothing w branch t.branch (λ x. x.place == t.teller) lines of (eqb-false branch t.branch is))) (limits.tellers t there).cash
]
  where
    of_it : branch ≡ t.branch → HasDrawerRoom w branch lines t.teller ⊎ (total (map (to_place t.teller) lines) ≡ pos 0) → IsCash (place_cash t.branch t.teller (lined lines w).lines)
    of_it same (inl room) =
        subst IsCash (sym (gains_parts w t.branch (λ x. x.place == t.teller) lines (subst (λ k. AreOf k lines) same of)))
        (room (some_key t.teller (ledger.tellers.each t there).key.0) t (find_of_key teller_key t.teller w.tellers t ledger.tellers.keys there refl) (sym same))
    of_it same (inr none) =
        subst IsCash (sym (gains_parts w t.branch (λ x. x.place == t.teller) lines (subst (λ k. AreOf k lines) same of)
        ∙ ap (λ z. place_cash t.branch t.teller w.lines +ℤ z) none ∙ sym (plus_zero (place_cash t.branch t.teller w.lines)))) (limits.tellers t there).cash

pub lines_keep_limits : (w : WorldLists) (branch : ℕ) (lines : List CashLine) → AreOf branch lines → HasRoomForLines w branch lines → IsOpenLedger w → AreWithinLimits w → AreWithinLimits (lined lines w)
lines_keep_limits w branch lines of room ledger limits = subst AreWithinLimits (sym (lines_alone lines w)) (record {
  branches = branch_within w branch lines of room ledger limits;
  tellers = λ t there. record { balance = (limits.tellers t there).balance; cash = drawer_within w branch lines of room ledger limits t there };
  accounts = limits.accounts;
  entries = limits.entries;
})

pub lines_of_branch_keep_books : LinesOfBranchKeepBooks
lines_of_branch_keep_books w branch lines next of none room books =
    let parts = (books_parts w).0 books in
    lines_keep_books w lines next (gaps_are_none branch lines of none) (lines_keep_limits w branch lines of room parts.0.rows parts.1) books

-- A cash line that may come next: what it keeps, and what it moves.
use Rattle.std.proofs.Common.{◌≡◌, ℕ, ◌+◌, ℤ, pos, ◌+ℤ◌, List, map, Bool, true, false, cond, not, refl, ap, arith, sym, ◌∙◌, subst, ◌==◌, ◌&&◌, ◌||◌, Contains, inl, inr}
use Rattle.std.specs.Prelude.{IfSome, if◌then◌else◌, neg_ℤ, option_and_then}
use Rattle.std.proofs.lemmas.Bool.{and_left, cases_Bool, eqb-true, false≢true}
use Rattle.std.proofs.lemmas.Int.{ints}
use Rattle.keyed_rows.specs.Ordered.{add_row}
use Rattle.keyed_rows.specs.Totals.{total}
use Rattle.bank_books.specs.Cash.{cash_entry_total, difference_total, drawer_total, holder_after, holder_of, is_cash_entry, is_difference, is_turnover, line_count, place_cash, vault_opening}
use Rattle.bank_books.specs.Conditions.{IsCashBalanced}
use Rattle.bank_books.specs.Effects.{written}
use Rattle.bank_books.specs.Keys.{branch_key, line_key, teller_key}
use Rattle.bank_books.specs.Range.{IsUserNumber}
use Rattle.row_members.specs.Ranges.{IsCash}
use Rattle.bank_books.specs.Records.{branch_record_of, teller_record_of}
use Rattle.bank_books.specs.WorldLists.{WorldLists}
use Rattle.bank_books.specs.declared.records.BranchRecord.{BranchRecord}
use Rattle.bank_books.specs.declared.row_write.RowWrite.TheVariants as write
use Rattle.bank_books.specs.declared.rows.Branch.{Branch}
use Rattle.bank_books.specs.declared.rows.CashLine.{CashLine}
use Rattle.bank_books.specs.declared.rows.LineForm.{LineForm}
use Rattle.bank_books.specs.declared.rows.LineForm.TheVariants as form
use Rattle.bank_books.specs.declared.rows.Teller.{Teller}
use Rattle.book_laws.specs.CashGap.{cash_gap, gap_share}
use Rattle.book_laws.specs.Laws.{CashBalances, LineKeepsBooks, LineKeepsLedger, LineMoves}
use Rattle.book_laws.specs.Ledger.{IsLineSound, IsOpenLedger}
use Rattle.book_laws.specs.Limits.{AreWithinLimits, IsBranchWithin}
use Rattle.book_laws.specs.Moves.{HasRoomForLine, branch_lined}
use Rattle.book_laws.specs.Next.{IsNextLine}
use Rattle.book_laws.proofs.BooksSplit.{books_parts}
use Rattle.book_laws.proofs.LastRow.{last_after}
use Rattle.book_laws.proofs.Numbered.{AreNumbered-add_row}
use Rattle.keyed_rows.proofs.Rows.{above, count-add_row, each_added, find_of_key, total-add_row}

-- ---- the holders of drawers

-- whoever holds a drawer held it before, or put it on by the line
holders_stay : (w : WorldLists) (l : CashLine) → IsNextLine w l → (teller : ℕ) → IfSome (holder_of w.lines teller) IsUserNumber → IfSome (holder_of (add_row line_key l w.lines) teller) IsUserNumber
holders_stay w l next teller was = elim (last_after line_key (λ x. x.place == teller && is_turnover x.form) l w.lines) [
  | inl new ↦ subst (λ o. IfSome (option_and_then (λ line. holder_after line line.form) o) IsUserNumber) (sym new) next.holder
  | inr same ↦ subst (λ o. IfSome (option_and_then (λ line. holder_after line line.form) o) IsUserNumber) (sym same) was
]

-- ---- the ledger

pub line_keeps_ledger : LineKeepsLedger
line_keeps_ledger w l next ledger = record {
  branches = ledger.branches;
  tellers = record {
    keys = ledger.tellers.keys;
    each = λ t there.
        let was = ledger.tellers.each t there in
        record { key = was.key; branch = was.branch; holder = holders_stay w l next t.teller was.holder };
  };
  accounts = ledger.accounts;
  entries = ledger.entries;
  lines = record {
    each = each_added line_key l w.lines (IsLineSound w.branches w.tellers w.policy.users) next.sound ledger.lines.each;
    numbers = λ branch.
        AreNumbered-add_row line_key (λ x. x.branch) (λ x. x.number) l w.lines branch (ledger.lines.numbers branch)
        (λ of. subst (λ k. l.number ≡ line_count k w.lines + 1) of next.number);
  };
  proofs = ledger.proofs;
  releases = ledger.releases;
  slips = ledger.slips;
  users = ledger.users;
  version = ledger.version;
  sums = ledger.sums;
}

-- ---- what it moves

-- the sum of the lines of a branch that pass
pub share_moves : (l : CashLine) (xs : List CashLine) (branch : ℕ) (p : CashLine → Bool) → total (map (λ x. if x.branch == branch && p x then x.amount else pos 0) (add_row line_key l xs))
    ≡ total (map (λ x. if x.branch == branch && p x then x.amount else pos 0) xs) +ℤ (if l.branch == branch && p l then l.amount else pos 0)
share_moves l xs branch p = total-add_row line_key (λ x. if x.branch == branch && p x then x.amount else pos 0) l xs

plus_zero : (a : ℤ) → a +ℤ pos 0 ≡ a
plus_zero a = omega (arith, ints)

-- of its branch they gain its amount where it passes, and of another nothing
gains_if : (named passes : Bool) (amount t t' : ℤ) (b : Bool) → b ≡ named → t' ≡ t +ℤ (if b && passes then amount else pos 0) → t' ≡ (if named then t +ℤ (if passes then amount else pos 0) else t)
gains_if true passes amount t t' b is gains = gains ∙ ap (λ c. t +ℤ (if c && passes then amount else pos 0)) is
gains_if false passes amount t t' b is gains = gains ∙ ap (λ c. t +ℤ (if c && passes then amount else pos 0)) is ∙ plus_zero t

with_cash : (b : BranchRecord) (v v' d d' c c' e e' : ℤ) (n n' : ℕ) → v ≡ v' → d ≡ d' → c ≡ c' → e ≡ e' → n ≡ n'
    → record b { vault = v; drawers = d; cash_entries = c; differences = e; lines = n } ≡ record b { vault = v'; drawers = d'; cash_entries = c'; differences = e'; lines = n' }
with_cash b v v' d d' c c' e e' n n' vs ds cs es ns =
    ap (λ z. record b { vault = z; drawers = d; cash_entries = c; differences = e; lines = n }) vs ∙ ap (λ z. record b { vault = v'; drawers = z; cash_entries = c; differences = e; lines = n }) ds
    ∙ ap (λ z. record b { vault = v'; drawers = d'; cash_entries = z; differences = e; lines = n }) cs ∙ ap (λ z. record b { vault = v'; drawers = d'; cash_entries = c'; differences = z; lines = n }) es
    ∙ ap (λ z. record b { vault = v'; drawers = d'; cash_entries = c'; differences = e'; lines = z }) ns

no_more : (n : ℕ) → n + 0 ≡ n
no_more n = omega arith

branch_moves : (w : WorldLists) (l : CashLine) (row : Branch) (named : Bool) → (l.branch == row.branch) ≡ named
    → branch_record_of (written (write.Line l) w) row ≡ (if named then branch_lined l (branch_record_of w row) else branch_record_of w row)
branch_moves w l row true is =
    let gains = λ (p : CashLine → Bool). gains_if true (p l) l.amount _ _ (l.branch == row.branch) is (share_moves l w.lines row.branch p) in
    with_cash (branch_record_of w row) _ _ _ _ _ _ _ _ _ _
    (above row.cash (place_cash row.branch 0 w.lines) (place_cash row.branch 0 (add_row line_key l w.lines)) (if l.place == 0 then l.amount else pos 0) (gains (λ x. x.place == 0)))
    (gains (λ x. not (x.place == 0))) (gains (λ x. is_cash_entry x.form)) (gains (λ x. is_difference x.form))
    (count-add_row line_key (λ x. x.branch == row.branch) l w.lines ∙ ap (λ b. line_count row.branch w.lines + cond b 1 0) is)
branch_moves w l row false is =
    let stays = λ (p : CashLine → Bool). gains_if false (p l) l.amount _ _ (l.branch == row.branch) is (share_moves l w.lines row.branch p) in
    with_cash (branch_record_of w row) _ _ _ _ _ _ _ _ _ _ (ap (λ z. row.cash +ℤ z) (stays (λ x. x.place == 0)))
    (stays (λ x. not (x.place == 0))) (stays (λ x. is_cash_entry x.form)) (stays (λ x. is_difference x.form))
    (count-add_row line_key (λ x. x.branch == row.branch) l w.lines ∙ ap (λ b. line_count row.branch w.lines + cond b 1 0) is ∙ no_more (line_count row.branch w.lines))

-- ---- the gap

gap_moves : (p p' d d' c c' e e' s t u v : ℤ) → p' ≡ p +ℤ s → d' ≡ d +ℤ t → c' ≡ c +ℤ u → e' ≡ e +ℤ v
    → (p' +ℤ d') +ℤ neg_ℤ (c' +ℤ e') ≡ ((p +ℤ d) +ℤ neg_ℤ (c +ℤ e)) +ℤ ((s +ℤ t) +ℤ neg_ℤ (u +ℤ v))
gap_moves p p' d d' c c' e e' s t u v ps ds cs es = omega (arith, ints)

-- no line is both of an entry and of a difference
not_both : (f : LineForm) → (is_cash_entry f && is_difference f) ≡ false
not_both form.CashEntry = refl
not_both form.On = refl
not_both form.Off = refl
not_both form.Move = refl
not_both form.Difference = refl

shares_are : (of vault entry difference : Bool) (a : ℤ) → (entry && difference) ≡ false
    → ((if of && vault then a else pos 0) +ℤ (if of && not vault then a else pos 0)) +ℤ neg_ℤ ((if of && entry then a else pos 0) +ℤ (if of && difference then a else pos 0))
    ≡ (if of then (if entry || difference then pos 0 else a) else pos 0)
shares_are false vault entry difference a apart = omega (arith, ints)
shares_are true vault true true a apart = absurd (false≢true (sym apart))
shares_are true true true false a apart = omega (arith, ints)
shares_are true true false true a apart = omega (arith, ints)
shares_are true true false false a apart = omega (arith, ints)
shares_are true false true false a apart = omega (arith, ints)
shares_are true false false true a apart = omega (arith, ints)
shares_are true false false false a apart = omega (arith, ints)

pub line_moves : LineMoves
line_moves w l = record {
  cash = λ branch place.
      above (if place == 0 then vault_opening branch w.branches else pos 0) (place_cash branch place w.lines) (place_cash branch place (add_row line_key l w.lines))
      (if l.branch == branch && l.place == place then l.amount else pos 0) (share_moves l w.lines branch (λ x. x.place == place));
  gap = λ branch.
      gap_moves (place_cash branch 0 w.lines) _ (drawer_total branch w.lines) _ (cash_entry_total branch w.lines) _ (difference_total branch w.lines) _ _ _ _ _
      (share_moves l w.lines branch (λ x. x.place == 0)) (share_moves l w.lines branch (λ x. not (x.place == 0))) (share_moves l w.lines branch (λ x. is_cash_entry x.form))
      (share_moves l w.lines branch (λ x. is_difference x.form))
      ∙ ap (λ z. cash_gap branch w.lines +ℤ z) (shares_are (l.branch == branch) (l.place == 0) (is_cash_entry l.form) (is_difference l.form) l.amount (not_both l.form));
  branches = λ row. branch_moves w l row (l.branch == row.branch) refl;
  branch_balances = λ key. refl;
  teller_balances = λ key. refl;
  account_balances = λ key. refl;
}

-- the opening of the vault stands on both sides of the equation
no_gap : (o p d c e : ℤ) → (o +ℤ p) +ℤ d ≡ o +ℤ (c +ℤ e) → (p +ℤ d) +ℤ neg_ℤ (c +ℤ e) ≡ pos 0
no_gap o p d c e equal = omega (arith, ints)

equal_from : (o p d c e : ℤ) → (p +ℤ d) +ℤ neg_ℤ (c +ℤ e) ≡ pos 0 → (o +ℤ p) +ℤ d ≡ o +ℤ (c +ℤ e)
equal_from o p d c e none = omega (arith, ints)

pub cash_balances : CashBalances
cash_balances branches lines branch (row, (there, is)) = (
  λ balanced. subst (λ k. cash_gap k lines ≡ pos 0) is
      (no_gap row.cash (place_cash row.branch 0 lines) (drawer_total row.branch lines) (cash_entry_total row.branch lines) (difference_total row.branch lines) (balanced row there is)),
  λ none b among of.
      equal_from b.cash (place_cash b.branch 0 lines) (drawer_total b.branch lines) (cash_entry_total b.branch lines) (difference_total b.branch lines)
      (subst (λ k. cash_gap k lines ≡ pos 0) (sym of) none),
)

-- ---- a line alone

-- a line that explains itself leaves the gap
gap_stays : (w : WorldLists) (l : CashLine) → gap_share l ≡ pos 0 → (branch : ℕ) → cash_gap branch (add_row line_key l w.lines) ≡ cash_gap branch w.lines
gap_stays w l none branch = (line_moves w l).gap branch ∙ ap (λ z. cash_gap branch w.lines +ℤ (if l.branch == branch then z else pos 0)) none ∙ nothing (l.branch == branch) (cash_gap branch w.lines)
  where
    nothing : (b : Bool) (a : ℤ) → a +ℤ (if b then pos 0 else pos 0) ≡ a
    nothing true a = plus_zero a
    nothing false a = plus_zero a

balanced_still : (w : WorldLists) (l : CashLine) → gap_share l ≡ pos 0 → ((branch : ℕ) → IsCashBalanced w.branches w.lines branch) → (branch : ℕ) → IsCashBalanced w.branches (add_row line_key l w.lines) branch
balanced_still w l none was branch b there of =
    (cash_balances w.branches (add_row line_key l w.lines) branch (b, (there, of))).1 (gap_stays w l none branch ∙ (cash_balances w.branches w.lines branch (b, (there, of))).0 (was branch)) b there of

branches_within : (w : WorldLists) (l : CashLine) → HasRoomForLine w l → IsOpenLedger w → AreWithinLimits w → (row : Branch) → Contains w.branches row
    → IsBranchWithin (branch_record_of (written (write.Line l) w) row)
branches_within w l room ledger limits row there =
    let was = limits.branches row there in
    elim (cases_Bool (l.branch == row.branch)) [
      | inl named ↦ subst IsBranchWithin (sym (branch_moves w l row true named)) (record {
        history = was.history;
        cash = room.branch row (find_of_key branch_key l.branch w.branches row ledger.branches.keys there (sym (eqb-true l.branch row.branch named)));
        accounts = was.accounts;
      })
      | inr other ↦ subst IsBranchWithin (sym (branch_moves w l row false other)) was
    ]

drawer_within : (w : WorldLists) (l : CashLine) → HasRoomForLine w l → IsOpenLedger w → (t : Teller) → Contains w.tellers t → IsCash (teller_record_of w t).cash → (of at : Bool) → (l.branch == t.branch) ≡ of
    → (l.place == t.teller) ≡ at → IsCash (place_cash t.branch t.teller (add_row line_key l w.lines))
drawer_within w l room ledger t there was of at branch place = go of at branch place
  where
    moves : (b : Bool) → (l.branch == t.branch && l.place == t.teller) ≡ b → place_cash t.branch t.teller (add_row line_key l w.lines) ≡ place_cash t.branch t.teller w.lines +ℤ (if b then l.amount else pos 0)
    moves b is = share_moves l w.lines t.branch (λ x. x.place == t.teller) ∙ ap (λ c. place_cash t.branch t.teller w.lines +ℤ (if c then l.amount else pos 0)) is

    both : (a b c d : Bool) → a ≡ c → b ≡ d → (a && b) ≡ (c && d)
    both a b c d first second = ap (λ x. x && b) first ∙ ap (λ x. c && x) second

    go : (of at : Bool) → (l.branch == t.branch) ≡ of → (l.place == t.teller) ≡ at → IsCash (place_cash t.branch t.teller (add_row line_key l w.lines))
    go true true branch place =
        subst IsCash (sym (moves true (both _ _ _ _ branch place)))
        (room.teller t (find_of_key teller_key l.place w.tellers t ledger.tellers.keys there (sym (eqb-true l.place t.teller place))) (sym (eqb-true l.branch t.branch branch)))
    go true false branch place = subst IsCash (sym (moves false (both _ _ _ _ branch place) ∙ plus_zero _)) was
    go false at branch place = subst IsCash (sym (moves false (and_left _ _ branch) ∙ plus_zero _)) was

pub line_keeps_limits : (w : WorldLists) (l : CashLine) → HasRoomForLine w l → IsOpenLedger w → AreWithinLimits w → AreWithinLimits (written (write.Line l) w)
line_keeps_limits w l room ledger limits = record {
  branches = branches_within w l room ledger limits;
  tellers = λ t there.
      let was = limits.tellers t there in
      record { balance = was.balance; cash = drawer_within w l room ledger t there was.cash (l.branch == t.branch) (l.place == t.teller) refl refl };
  accounts = limits.accounts;
  entries = limits.entries;
}

pub line_keeps_books : LineKeepsBooks
line_keeps_books w l next none room books =
    let parts = (books_parts w).0 books in
    (books_parts (written (write.Line l) w)).1 (
      record { rows = line_keeps_ledger w l next parts.0.rows; named = parts.0.named; balanced = balanced_still w l none parts.0.balanced },
      line_keeps_limits w l room parts.0.rows parts.1,
    )

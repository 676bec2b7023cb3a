-- Several lines keep the books: the ledger one after the other, the equation of cash and the limits all together.
use Rattle.std.proofs.Common.{◌≡◌, ℕ, ℤ, pos, ◌+ℤ◌, List, [], ◌∷◌, map, refl, arith, subst, ◌==◌, Contains}
use Rattle.std.specs.Prelude.{if◌then◌else◌}
use Rattle.std.proofs.lemmas.Int.{ints}
use Rattle.keyed_rows.specs.Totals.{total}
use Rattle.bank_books.specs.Conditions.{IsCashBalanced}
use Rattle.bank_books.specs.Effects.{written}
use Rattle.bank_books.specs.WorldLists.{WorldLists}
use Rattle.bank_books.specs.declared.row_write.RowWrite.TheVariants as write
use Rattle.bank_books.specs.declared.rows.CashLine.{CashLine}
use Rattle.bank_books.specs.declared.rows.Entry.{Entry}
use Rattle.book_laws.specs.CashGap.{cash_gap, gap_share}
use Rattle.book_laws.specs.Laws.{LinesKeepBooks}
use Rattle.book_laws.specs.Ledger.{IsOpenLedger, NamesEntries}
use Rattle.book_laws.specs.Next.{AreNextLines, lined}
use Rattle.book_laws.proofs.BooksSplit.{books_parts}
use Rattle.book_laws.proofs.LineAdded.{cash_balances, line_keeps_ledger, line_moves}

rows_along : (w : WorldLists) (lines : List CashLine) → AreNextLines w lines → IsOpenLedger w → IsOpenLedger (lined lines w)
rows_along w [] next ledger = ledger
rows_along w (l ∷ lines) next ledger = rows_along (written (write.Line l) w) lines next.1 (line_keeps_ledger w l next.0 ledger)

-- lines name no entries, and touch no branch's row
named_along : (w : WorldLists) (lines : List CashLine) → ((e : Entry) → Contains w.entries e → NamesEntries w.entries e) → (e : Entry) → Contains (lined lines w).entries e
    → NamesEntries (lined lines w).entries e
named_along w [] named = named
named_along w (l ∷ lines) named = named_along (written (write.Line l) w) lines named

branches_along : (w : WorldLists) (lines : List CashLine) → (lined lines w).branches ≡ w.branches
branches_along w [] = refl
branches_along w (l ∷ lines) = branches_along (written (write.Line l) w) lines

plus_zero : (a : ℤ) → a ≡ a +ℤ pos 0
plus_zero a = omega (arith, ints)

pub one_more : (after between before first rest : ℤ) → after ≡ between +ℤ rest → between ≡ before +ℤ first → after ≡ before +ℤ (first +ℤ rest)
one_more after between before first rest later here = omega (arith, ints)

gap_along : (w : WorldLists) (lines : List CashLine) (branch : ℕ)
    → cash_gap branch (lined lines w).lines ≡ cash_gap branch w.lines +ℤ total (map (λ l. if l.branch == branch then gap_share l else pos 0) lines)
gap_along w [] branch = plus_zero (cash_gap branch w.lines)
gap_along w (l ∷ lines) branch =
    one_more (cash_gap branch (lined lines (written (write.Line l) w)).lines) (cash_gap branch (written (write.Line l) w).lines) (cash_gap branch w.lines)
    (if l.branch == branch then gap_share l else pos 0) (total (map (λ x. if x.branch == branch then gap_share x else pos 0) lines)) (gap_along (written (write.Line l) w) lines branch)
    ((line_moves w l).gap branch)

none_left : (gap before shares : ℤ) → gap ≡ before +ℤ shares → before ≡ pos 0 → shares ≡ pos 0 → gap ≡ pos 0
none_left gap before shares along zero none = omega (arith, ints)

balanced_along : (w : WorldLists) (lines : List CashLine) → ((branch : ℕ) → total (map (λ l. if l.branch == branch then gap_share l else pos 0) lines) ≡ pos 0)
    → ((branch : ℕ) → IsCashBalanced w.branches w.lines branch) → (branch : ℕ) → IsCashBalanced (lined lines w).branches (lined lines w).lines branch
balanced_along w lines none was branch b there of =
    let before : Contains w.branches b = subst (λ rows. Contains rows b) (branches_along w lines) there in
    (cash_balances (lined lines w).branches (lined lines w).lines branch (b, (there, of))).1
    (none_left (cash_gap branch (lined lines w).lines) (cash_gap branch w.lines) (total (map (λ l. if l.branch == branch then gap_share l else pos 0) lines)) (gap_along w lines branch)
    ((cash_balances w.branches w.lines branch (b, (before, of))).0 (was branch)) (none branch)) b there of

pub lines_keep_books : LinesKeepBooks
lines_keep_books w lines next none limits books =
    let ledger = ((books_parts w).0 books).0 in
    (books_parts (lined lines w)).1 (
      record { rows = rows_along w lines next ledger.rows; named = named_along w lines ledger.named; balanced = balanced_along w lines none ledger.balanced },
      limits,
    )

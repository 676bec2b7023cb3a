-- What a plan of entries and cash lines moves: each change by its share, and so all of them by the sum of theirs.
use Rattle.std.proofs.Common.{◌≡◌, ℕ, ◌+◌, ℤ, pos, ◌+ℤ◌, List, [], ◌∷◌, map, refl, ap, arith, sym, ◌∙◌, ◌==◌, ◌&&◌}
use Rattle.std.specs.Prelude.{if◌then◌else◌}
use Rattle.std.specs.List.{AllByRecursion, sum_by}
use Rattle.std.proofs.lemmas.Int.{ints}
use Rattle.std.proofs.lemmas.List.Sums.{sum_by-cons}
use Rattle.keyed_rows.specs.Ordered.{add_row}
use Rattle.keyed_rows.specs.Totals.{total}
use Rattle.bank_books.specs.Balances.{account_balance, account_deltas, account_opening, branch_balance, branch_deltas, branch_opening, entry_count, teller_balance, teller_deltas, teller_opening}
use Rattle.bank_books.specs.Cash.{cash_entry_total, is_cash_entry}
use Rattle.bank_books.specs.Effects.{all_written, written}
use Rattle.bank_books.specs.Keys.{entry_key, line_key}
use Rattle.bank_books.specs.WorldLists.{WorldLists}
use Rattle.bank_books.specs.declared.row_write.RowWrite.{RowWrite}
use Rattle.bank_books.specs.declared.row_write.RowWrite.TheVariants as write
use Rattle.bank_books.specs.declared.rows.CashLine.{CashLine}
use Rattle.bank_books.specs.declared.rows.Entry.{Entry}
use Rattle.book_laws.specs.Kept.{OnlyAdds}
use Rattle.book_laws.specs.Laws.{PlanMoves}
use Rattle.book_laws.specs.PlanMoves.{IsPosting, account_share, branch_share, cash_entry_share, entry_share, teller_share}
use Rattle.book_laws.proofs.Kept.{adds_nothing, adds_then, kept_beside, kept_same}
use Rattle.book_laws.proofs.LinesBooks.{one_more}
use Rattle.keyed_rows.proofs.Rows.{above, count-add_row, total-add_row}

-- ---- one change

-- what holds of every entry and of every line
by_posting : (P : RowWrite → Type 0) → ((e : Entry) → P (write.Entry e)) → ((l : CashLine) → P (write.Line l)) → (c : RowWrite) → IsPosting c → P c
by_posting P entry line (write.Account row) posting = absurd posting
by_posting P entry line (write.Entry row) posting = entry row
by_posting P entry line (write.Line row) posting = line row
by_posting P entry line (write.Proof row) posting = absurd posting
by_posting P entry line (write.Release row) posting = absurd posting
by_posting P entry line (write.Day d) posting = absurd posting
by_posting P entry line (write.Used k) posting = absurd posting
by_posting P entry line (write.Slip row) posting = absurd posting
by_posting P entry line (write.Session s) posting = absurd posting
by_posting P entry line (write.Policy change) posting = absurd posting

plus_zero : (a : ℤ) → a ≡ a +ℤ pos 0
plus_zero a = omega (arith, ints)

none_more : (n : ℕ) → n ≡ n + 0
none_more n = omega arith

branch_moves : (key : ℕ) (w : WorldLists) (c : RowWrite) → IsPosting c → branch_balance (written c w) key ≡ branch_balance w key +ℤ branch_share key c
branch_moves key w = by_posting (λ c. branch_balance (written c w) key ≡ branch_balance w key +ℤ branch_share key c)
    (λ e. above (branch_opening key w.branches) (branch_deltas key w.entries) (branch_deltas key (add_row entry_key e w.entries)) (if e.branch == key then e.delta else pos 0)
    (total-add_row entry_key (λ x. if x.branch == key then x.delta else pos 0) e w.entries))
    (λ l. plus_zero (branch_balance w key))

teller_moves : (key : ℕ) (w : WorldLists) (c : RowWrite) → IsPosting c → teller_balance (written c w) key ≡ teller_balance w key +ℤ teller_share key c
teller_moves key w = by_posting (λ c. teller_balance (written c w) key ≡ teller_balance w key +ℤ teller_share key c)
    (λ e. above (teller_opening key w.tellers) (teller_deltas key w.entries) (teller_deltas key (add_row entry_key e w.entries)) (if e.teller == key then e.delta else pos 0)
    (total-add_row entry_key (λ x. if x.teller == key then x.delta else pos 0) e w.entries))
    (λ l. plus_zero (teller_balance w key))

account_moves : (key : ℕ) (w : WorldLists) (c : RowWrite) → IsPosting c → account_balance (written c w) key ≡ account_balance w key +ℤ account_share key c
account_moves key w = by_posting (λ c. account_balance (written c w) key ≡ account_balance w key +ℤ account_share key c)
    (λ e. above (account_opening key w.accounts) (account_deltas key w.entries) (account_deltas key (add_row entry_key e w.entries)) (if e.account == key then e.delta else pos 0)
    (total-add_row entry_key (λ x. if x.account == key then x.delta else pos 0) e w.entries))
    (λ l. plus_zero (account_balance w key))

entries_move : (branch : ℕ) (w : WorldLists) (c : RowWrite) → IsPosting c → entry_count branch (written c w).entries ≡ entry_count branch w.entries + entry_share branch c
entries_move branch w = by_posting (λ c. entry_count branch (written c w).entries ≡ entry_count branch w.entries + entry_share branch c)
    (λ e. count-add_row entry_key (λ x. x.branch == branch) e w.entries) (λ l. none_more (entry_count branch w.entries))

cash_entries_move : (branch : ℕ) (w : WorldLists) (c : RowWrite) → IsPosting c → cash_entry_total branch (written c w).lines ≡ cash_entry_total branch w.lines +ℤ cash_entry_share branch c
cash_entries_move branch w = by_posting (λ c. cash_entry_total branch (written c w).lines ≡ cash_entry_total branch w.lines +ℤ cash_entry_share branch c)
    (λ e. plus_zero (cash_entry_total branch w.lines))
    (λ l. total-add_row line_key (λ x. if x.branch == branch && is_cash_entry x.form then x.amount else pos 0) l w.lines)

adds_one : (w : WorldLists) (c : RowWrite) → IsPosting c → OnlyAdds w (written c w)
adds_one w = by_posting (λ c. OnlyAdds w (written c w))
    (λ e. record { entries = kept_beside entry_key e w.entries; lines = kept_same w.lines; proofs = kept_same w.proofs })
    (λ l. record { entries = kept_same w.entries; lines = kept_beside line_key l w.lines; proofs = kept_same w.proofs })

-- ---- all of them

-- what each change moves by its share
moves_along : (of : WorldLists → ℤ) (share : RowWrite → ℤ) → ((w : WorldLists) (c : RowWrite) → IsPosting c → of (written c w) ≡ of w +ℤ share c) → (w : WorldLists) (cs : List RowWrite)
    → AllByRecursion IsPosting cs → of (all_written cs w) ≡ of w +ℤ total (map share cs)
moves_along of share step w [] postings = plus_zero (of w)
moves_along of share step w (c ∷ cs) postings =
    one_more (of (all_written cs (written c w))) (of (written c w)) (of w) (share c) (total (map share cs)) (moves_along of share step (written c w) cs postings.1) (step w c postings.0)

one_more_of : (after between before first rest : ℕ) → after ≡ between + rest → between ≡ before + first → after ≡ before + (first + rest)
one_more_of after between before first rest later here = omega arith

counts_along : (of : WorldLists → ℕ) (share : RowWrite → ℕ) → ((w : WorldLists) (c : RowWrite) → IsPosting c → of (written c w) ≡ of w + share c) → (w : WorldLists) (cs : List RowWrite)
    → AllByRecursion IsPosting cs → of (all_written cs w) ≡ of w + sum_by share cs
counts_along of share step w [] postings = none_more (of w)
counts_along of share step w (c ∷ cs) postings =
    one_more_of (of (all_written cs (written c w))) (of (written c w)) (of w) (share c) (sum_by share cs) (counts_along of share step (written c w) cs postings.1) (step w c postings.0)
    ∙ ap (λ n. of w + n) (sym (sum_by-cons share c cs))

-- what no entry and no line touches
stays_along : {X : Type 0} (of : WorldLists → X) → ((w : WorldLists) (c : RowWrite) → IsPosting c → of (written c w) ≡ of w) → (w : WorldLists) (cs : List RowWrite)
    → AllByRecursion IsPosting cs → of (all_written cs w) ≡ of w
stays_along of step w [] postings = refl
stays_along of step w (c ∷ cs) postings = stays_along of step (written c w) cs postings.1 ∙ step w c postings.0

adds_along : (w : WorldLists) (cs : List RowWrite) → AllByRecursion IsPosting cs → OnlyAdds w (all_written cs w)
adds_along w [] postings = adds_nothing w
adds_along w (c ∷ cs) postings = adds_then w (written c w) (all_written cs (written c w)) (adds_one w c postings.0) (adds_along (written c w) cs postings.1)

pub plan_moves : PlanMoves
plan_moves w changes postings = record {
  branch_balances = λ key. moves_along (λ v. branch_balance v key) (branch_share key) (branch_moves key) w changes postings;
  teller_balances = λ key. moves_along (λ v. teller_balance v key) (teller_share key) (teller_moves key) w changes postings;
  account_balances = λ key. moves_along (λ v. account_balance v key) (account_share key) (account_moves key) w changes postings;
  entries = λ branch. counts_along (λ v. entry_count branch v.entries) (entry_share branch) (entries_move branch) w changes postings;
  cash_entries = λ branch. moves_along (λ v. cash_entry_total branch v.lines) (cash_entry_share branch) (cash_entries_move branch) w changes postings;
  added = adds_along w changes postings;
  proofs = stays_along (λ v. v.proofs) (λ v. by_posting (λ c. (written c v).proofs ≡ v.proofs) (λ e. refl) (λ l. refl)) w changes postings;
  branches = stays_along (λ v. v.branches) (λ v. by_posting (λ c. (written c v).branches ≡ v.branches) (λ e. refl) (λ l. refl)) w changes postings;
  policy = stays_along (λ v. v.policy) (λ v. by_posting (λ c. (written c v).policy ≡ v.policy) (λ e. refl) (λ l. refl)) w changes postings;
}

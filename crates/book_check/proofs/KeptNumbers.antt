-- Kept rows that agree with the books in history and in cash are those that the books give.
use Rattle.std.proofs.Common.{◌≡◌, ℕ, List, [], ◌∷◌, map, Contains, refl, ap, arith, ◌∙◌, suc, rules}
use Rattle.bank_books.specs.declared.records.AccountRecord.{AccountRecord}
use Rattle.bank_books.specs.declared.records.BranchRecord.{BranchRecord}
use Rattle.bank_books.specs.declared.records.EntryRecord.{EntryRecord}
use Rattle.bank_books.specs.declared.records.TellerRecord.{TellerRecord}
use Rattle.bank_books.specs.Conditions.{CashAgrees, HistoryAgrees, home_of}
use Rattle.bank_books.specs.Range.{IsInRange}
use Rattle.bank_books.specs.Records.{KeptLists, account_record_of, branch_record_of, entry_record_of, kept_of, teller_record_of}
use Rattle.bank_books.specs.WorldLists.{WorldLists}
use Rattle.book_sums.proofs.SameRecords.{account_same, branch_same, entry_same, teller_same}

each_made : {T R : Type 0} (row : T → R) (record_of : R → T) (kept : List T) → ((x : T) → Contains kept x → x ≡ record_of (row x)) → kept ≡ map record_of (map row kept)
each_made row record_of [] each = refl
each_made row record_of (x ∷ xs) each =
    ap (λ y. y ∷ xs) (each x (0, omega arith, refl))
    ∙ ap (λ ys. record_of (row x) ∷ ys) (each_made row record_of xs (λ y there. each y (suc there.0, omega (arith, there.1), there.2)))

-- a list of rows that each are what a function makes of their sources
made_of_sources : {T R : Type 0} (row : T → R) (record_of : R → T) (kept : List T) (rows : List R) → map row kept ≡ rows →
    ((x : T) → Contains kept x → x ≡ record_of (row x)) → kept ≡ map record_of rows
made_of_sources row record_of kept rows same each = each_made row record_of kept each ∙ ap (map record_of) same

lists_same : (k l : KeptLists) → k.branches ≡ l.branches → k.tellers ≡ l.tellers → k.accounts ≡ l.accounts → k.entries ≡ l.entries → k.users ≡ l.users → k ≡ l
lists_same k l branches tellers accounts entries users = search (rules, branches, tellers, accounts, entries, users)

pub kept_is_computed : (w : WorldLists) (kept : KeptLists) → IsInRange w kept → ((b : ℕ) → HistoryAgrees w kept b) → ((b : ℕ) → CashAgrees w kept b) → kept ≡ kept_of w
kept_is_computed w kept in_range history cash = lists_same kept (kept_of w)
    (made_of_sources (λ (b : BranchRecord). b.row) (branch_record_of w) kept.branches w.branches in_range.rows.branches
    (λ b there. branch_same b (branch_record_of w b.row) refl ((history b.row.branch).given.branches b there refl) ((cash b.row.branch).given.branches b there refl)))
    (made_of_sources (λ (t : TellerRecord). t.row) (teller_record_of w) kept.tellers w.tellers in_range.rows.tellers
    (λ t there. teller_same t (teller_record_of w t.row) refl ((history t.row.branch).given.tellers t there refl) ((cash t.row.branch).given.tellers t there refl)))
    (made_of_sources (λ (a : AccountRecord). a.row) (account_record_of w) kept.accounts w.accounts in_range.rows.accounts
    (λ a there. account_same a (account_record_of w a.row) refl ((history a.row.home).given.accounts a there refl)))
    (made_of_sources (λ (e : EntryRecord). e.row) (entry_record_of w) kept.entries w.entries in_range.rows.entries
    (λ e there. entry_same e (entry_record_of w e.row) refl ((history (home_of w.accounts e.row.account)).given.entries e there refl)))
    in_range.rows.users

-- An entry that may come next keeps the open ledger.
use Rattle.std.proofs.Common.{◌≡◌, ◌+◌, ℤ, pos, ◌+ℤ◌, List, map, Bool, true, false, ap, arith, sym, ◌∙◌, subst, ◌==◌}
use Rattle.std.specs.Prelude.{if◌then◌else◌}
use Rattle.std.proofs.lemmas.Int.{ints}
use Rattle.keyed_rows.specs.Ordered.{add_row}
use Rattle.keyed_rows.specs.Totals.{total}
use Rattle.bank_books.specs.Balances.{account_deltas, branch_deltas, entry_count, teller_deltas, turn_count}
use Rattle.bank_books.specs.Keys.{account_key, entry_key, branch_key, teller_key}
use Rattle.bank_books.specs.WorldLists.{WorldLists}
use Rattle.bank_books.specs.declared.rows.Account.{Account}
use Rattle.bank_books.specs.declared.rows.Branch.{Branch}
use Rattle.bank_books.specs.declared.rows.Entry.{Entry}
use Rattle.bank_books.specs.declared.rows.Teller.{Teller}
use Rattle.book_laws.specs.Laws.{EntryKeepsLedger}
use Rattle.book_laws.specs.Ledger.{AreEntriesSound, AreSumsEqual, IsEntrySound, IsOpenLedger, account_sum, branch_sum, teller_sum}
use Rattle.book_laws.specs.Next.{IsNextEntry}
use Rattle.book_laws.proofs.Numbered.{AreNumbered-add_row}
use Rattle.keyed_rows.proofs.Rows.{above, each_added, total-add_row, total_gains}

-- ---- the sums

account_gains : (xs : List Entry) (e : Entry) (row : Account) → account_sum (add_row entry_key e xs) row ≡ account_sum xs row +ℤ (if e.account == row.account then e.delta else pos 0)
account_gains xs e row =
    above row.opening (account_deltas row.account xs) (account_deltas row.account (add_row entry_key e xs)) (if e.account == row.account then e.delta else pos 0)
    (total-add_row entry_key (λ x. if x.account == row.account then x.delta else pos 0) e xs)

teller_gains : (xs : List Entry) (e : Entry) (row : Teller) → teller_sum (add_row entry_key e xs) row ≡ teller_sum xs row +ℤ (if e.teller == row.teller then e.delta else pos 0)
teller_gains xs e row =
    above row.opening (teller_deltas row.teller xs) (teller_deltas row.teller (add_row entry_key e xs)) (if e.teller == row.teller then e.delta else pos 0)
    (total-add_row entry_key (λ x. if x.teller == row.teller then x.delta else pos 0) e xs)

branch_gains : (xs : List Entry) (e : Entry) (row : Branch) → branch_sum (add_row entry_key e xs) row ≡ branch_sum xs row +ℤ (if e.branch == row.branch then e.delta else pos 0)
branch_gains xs e row =
    above row.opening (branch_deltas row.branch xs) (branch_deltas row.branch (add_row entry_key e xs)) (if e.branch == row.branch then e.delta else pos 0)
    (total-add_row entry_key (λ x. if x.branch == row.branch then x.delta else pos 0) e xs)

-- what moves alike stays equal
same_moves : (a b a' b' d : ℤ) → a' ≡ a +ℤ d → b' ≡ b +ℤ d → a ≡ b → a' ≡ b'
same_moves a b a' b' d left right before = left ∙ ap (λ z. z +ℤ d) before ∙ sym right

-- what one of the tellers gains counts for its branch alone
share_gains : (of named : Bool) (before after d : ℤ) → after ≡ before +ℤ (if named then d else pos 0)
    → (if of then after else pos 0) ≡ (if of then before else pos 0) +ℤ (if named then (if of then d else pos 0) else pos 0)
share_gains true named before after d gains = gains
share_gains false true before after d gains = omega (arith, ints)
share_gains false false before after d gains = omega (arith, ints)

keeps_sums : (w : WorldLists) (e : Entry) → IsNextEntry w e → IsOpenLedger w → AreSumsEqual w.branches w.tellers w.accounts (add_row entry_key e w.entries)
keeps_sums w e next ledger =
    let xs = w.entries in
    let account = next.sound.account in
    let teller = next.sound.teller in
    let branch = next.sound.branch in
    let accounts =
    total_gains account_key (account_sum xs) (account_sum (add_row entry_key e xs)) (λ row. e.delta) e.account w.accounts account.0 ledger.accounts.keys account.1.0 account.1.1
    (λ row there. account_gains xs e row) in
    record {
      of_tellers =
          same_moves _ _ _ _ e.delta
          (total_gains teller_key (teller_sum xs) (teller_sum (add_row entry_key e xs)) (λ row. e.delta) e.teller w.tellers teller.0 ledger.tellers.keys teller.1.0 teller.1.1
          (λ row there. teller_gains xs e row)) accounts ledger.sums.of_tellers;
      of_branches =
          same_moves _ _ _ _ e.delta
          (total_gains branch_key (branch_sum xs) (branch_sum (add_row entry_key e xs)) (λ row. e.delta) e.branch w.branches branch.0 ledger.branches.keys branch.1.0 branch.1.1
          (λ row there. branch_gains xs e row)) accounts ledger.sums.of_branches;
      of_each_branch = λ b there.
          same_moves _ _ _ _ (if e.branch == b.branch then e.delta else pos 0) (branch_gains xs e b)
          (total_gains teller_key (λ t. if t.branch == b.branch then teller_sum xs t else pos 0) (λ t. if t.branch == b.branch then teller_sum (add_row entry_key e xs) t else pos 0)
          (λ t. if t.branch == b.branch then e.delta else pos 0) e.teller w.tellers teller.0 ledger.tellers.keys teller.1.0 teller.1.1
          (λ t among. share_gains (t.branch == b.branch) (e.teller == t.teller) (teller_sum xs t) (teller_sum (add_row entry_key e xs) t) e.delta (teller_gains xs e t))
          ∙ ap (λ k. total (map (λ t. if t.branch == b.branch then teller_sum xs t else pos 0) w.tellers) +ℤ (if k == b.branch then e.delta else pos 0)) teller.1.2)
          (ledger.sums.of_each_branch b there);
    }

-- ---- the entries

keeps_entries : (w : WorldLists) (e : Entry) → IsNextEntry w e → IsOpenLedger w → AreEntriesSound w.branches w.tellers w.accounts w.policy.users (add_row entry_key e w.entries)
keeps_entries w e next ledger = record {
  each = each_added entry_key e w.entries (IsEntrySound w.branches w.tellers w.accounts w.policy.users) next.sound ledger.entries.each;
  numbers = λ branch.
      AreNumbered-add_row entry_key (λ x. x.branch) (λ x. x.number) e w.entries branch (ledger.entries.numbers branch)
      (λ of. subst (λ k. e.number ≡ entry_count k w.entries + 1) of next.number);
  turns = λ account.
      AreNumbered-add_row entry_key (λ x. x.account) (λ x. x.turn) e w.entries account (ledger.entries.turns account)
      (λ of. subst (λ k. e.turn ≡ turn_count k w.entries + 1) of next.turn);
}

pub entry_keeps_ledger : EntryKeepsLedger
entry_keeps_ledger w e next ledger = record {
  branches = ledger.branches;
  tellers = ledger.tellers;
  accounts = ledger.accounts;
  entries = keeps_entries w e next ledger;
  lines = ledger.lines;
  proofs = ledger.proofs;
  releases = ledger.releases;
  slips = ledger.slips;
  users = ledger.users;
  version = ledger.version;
  sums = keeps_sums w e next ledger;
}

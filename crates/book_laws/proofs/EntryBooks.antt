-- An entry alone, with room for it, keeps the books.
use Rattle.std.proofs.Common.{◌≡◌, ℕ, ℤ, ◌+ℤ◌, Some, ap, sym, ◌∙◌, subst, ◌==◌, Contains, ◌⊎◌, inl, inr}
use Rattle.std.specs.Prelude.{◌^◌, ◌*◌, ◌+◌, if◌then◌else◌, pos}
use Rattle.std.specs.Option.{option_map_or}
use Rattle.std.proofs.lemmas.Bool.{cases_Bool, eqb-true}
use Rattle.keyed_rows.specs.Ordered.{add_row}
use Rattle.money.specs.Range.{IsCents}
use Rattle.bank_books.specs.Balances.{account_balance, account_deltas, account_opening, account_row}
use Rattle.bank_books.specs.Effects.{written}
use Rattle.bank_books.specs.Keys.{account_key, branch_key, entry_key, teller_key}
use Rattle.bank_books.specs.Range.{IsAccount, IsEntryOrNone}
use Rattle.bank_books.specs.Records.{account_record_of, branch_record_of, entry_record_of, teller_record_of}
use Rattle.bank_books.specs.WorldLists.{WorldLists}
use Rattle.bank_books.specs.declared.row_write.RowWrite.TheVariants as write
use Rattle.bank_books.specs.declared.rows.Account.{Account}
use Rattle.bank_books.specs.declared.rows.Branch.{Branch}
use Rattle.bank_books.specs.declared.rows.Entry.{Entry}
use Rattle.bank_books.specs.declared.rows.Teller.{Teller}
use Rattle.book_laws.specs.Laws.{EntryKeepsBooks}
use Rattle.book_laws.specs.Ledger.{IsOpenLedger, NamesEntries}
use Rattle.book_laws.specs.Limits.{AreWithinLimits, IsAccountWithin, IsBranchWithin, IsTellerWithin}
use Rattle.book_laws.specs.Moves.{HasRoomFor, account_entered, branch_entered, teller_entered}
use Rattle.book_laws.specs.Next.{IsNextEntry}
use Rattle.book_laws.proofs.BooksSplit.{books_parts}
use Rattle.book_laws.proofs.EntryAdded.{entry_keeps_ledger}
use Rattle.book_laws.proofs.EntryMoved.{entry_moves, entry_stands_last}
use Rattle.book_laws.proofs.LimitsKept.{limits_moved}
use Rattle.keyed_rows.proofs.Rows.{Contains-add_row_cases, HasRow-add_row, each_added, find_of_key}

-- ---- the entries that are named

-- those that were there are there with the new one
pub there_still : (w : WorldLists) (e : Entry) (branch number : ℕ) → IsEntryOrNone w.entries branch number → IsEntryOrNone (add_row entry_key e w.entries) branch number
there_still w e branch number (inl none) = inl none
there_still w e branch number (inr there) = inr (HasRow-add_row entry_key e w.entries (2 ^ 32 * branch + number) there)

pub names_still : (w : WorldLists) (e row : Entry) → NamesEntries w.entries row → NamesEntries (add_row entry_key e w.entries) row
names_still w e row was = record { partner = there_still w e row.branch row.partner was.partner; undoes = there_still w e row.branch row.undoes was.undoes }

-- ---- the limits

branches_within : (w : WorldLists) (e : Entry) → HasRoomFor w e → IsOpenLedger w → AreWithinLimits w → (row : Branch) → Contains w.branches row
    → (Contains w.branches row × (branch_record_of (written (write.Entry e) w) row ≡ branch_record_of w row)) ⊎ IsBranchWithin (branch_record_of (written (write.Entry e) w) row)
branches_within w e room ledger limits row there = elim (cases_Bool (e.branch == row.branch)) [
  | inl named ↦
      inr (subst IsBranchWithin (sym ((entry_moves w e).branches row ∙ ap (λ b. if b then branch_entered e.delta (branch_record_of w row) else branch_record_of w row) named)) (record {
        history = room.branch row (find_of_key branch_key e.branch w.branches row ledger.branches.keys there (sym (eqb-true e.branch row.branch named)));
        cash = (limits.branches row there).cash;
        accounts = (limits.branches row there).accounts;
      }))
  | inr other ↦ inl (there, (entry_moves w e).branches row ∙ ap (λ b. if b then branch_entered e.delta (branch_record_of w row) else branch_record_of w row) other)
]

tellers_within : (w : WorldLists) (e : Entry) → HasRoomFor w e → IsOpenLedger w → AreWithinLimits w → (row : Teller) → Contains w.tellers row
    → (Contains w.tellers row × (teller_record_of (written (write.Entry e) w) row ≡ teller_record_of w row)) ⊎ IsTellerWithin (teller_record_of (written (write.Entry e) w) row)
tellers_within w e room ledger limits row there = elim (cases_Bool (e.teller == row.teller)) [
  | inl named ↦
      inr (subst IsTellerWithin (sym ((entry_moves w e).tellers row ∙ ap (λ b. if b then teller_entered e.delta (teller_record_of w row) else teller_record_of w row) named)) (record {
        balance = room.teller row (find_of_key teller_key e.teller w.tellers row ledger.tellers.keys there (sym (eqb-true e.teller row.teller named)));
        cash = (limits.tellers row there).cash;
      }))
  | inr other ↦ inl (there, (entry_moves w e).tellers row ∙ ap (λ b. if b then teller_entered e.delta (teller_record_of w row) else teller_record_of w row) other)
]

accounts_within : (w : WorldLists) (e : Entry) → HasRoomFor w e → IsOpenLedger w → (row : Account) → Contains w.accounts row
    → (Contains w.accounts row × (account_record_of (written (write.Entry e) w) row ≡ account_record_of w row)) ⊎ IsAccountWithin (account_record_of (written (write.Entry e) w) row)
accounts_within w e room ledger row there = elim (cases_Bool (e.account == row.account)) [
  | inl named ↦
      inr (subst IsAccountWithin (sym ((entry_moves w e).accounts row ∙ ap (λ b. if b then account_entered e.delta (account_record_of w row) else account_record_of w row) named))
      (room.account row (find_of_key account_key e.account w.accounts row ledger.accounts.keys there (sym (eqb-true e.account row.account named)))))
  | inr other ↦ inl (there, (entry_moves w e).accounts row ∙ ap (λ b. if b then account_entered e.delta (account_record_of w row) else account_record_of w row) other)
]

-- the balance of an account by its key, where there is room for what it is moved by
pub balance_within : (w : WorldLists) (key : ℕ) (delta : ℤ) → IsOpenLedger w → IsAccount w.accounts key
    → ((a : Account) → account_row key w.accounts ≡ Some a → IsAccountWithin (account_entered delta (account_record_of w a))) → IsCents (account_balance w key +ℤ delta)
balance_within w key delta ledger account room =
    let found = find_of_key account_key key w.accounts account.0 ledger.accounts.keys account.1.0 account.1.1 in
    let opening : account_opening key w.accounts ≡ account.0.opening = ap (λ o. option_map_or (λ row. row.opening) o (pos 0)) found in
    subst IsCents (sym (ap (λ z. (z +ℤ account_deltas key w.entries) +ℤ delta) opening))
    (subst (λ k. IsCents ((account.0.opening +ℤ account_deltas k w.entries) +ℤ delta)) account.1.1 (room account.0 found).balance)

entries_within : (w : WorldLists) (e : Entry) → IsNextEntry w e → HasRoomFor w e → IsOpenLedger w → (row : Entry) → Contains (add_row entry_key e w.entries) row
    → (Contains w.entries row × (entry_record_of (written (write.Entry e) w) row ≡ entry_record_of w row)) ⊎ IsCents (entry_record_of (written (write.Entry e) w) row).balance_after
entries_within w e next room ledger row there = elim (Contains-add_row_cases entry_key e w.entries row there) [
  | inl is ↦ inr (subst (λ r. IsCents (entry_record_of (written (write.Entry e) w) r).balance_after) is
      (subst IsCents (sym (entry_stands_last w e next ledger).new) (balance_within w e.account e.delta ledger next.sound.account room.account)))
  | inr before ↦ inl (before, (entry_stands_last w e next ledger).earlier row before)
]

pub entry_keeps_limits : (w : WorldLists) (e : Entry) → IsNextEntry w e → HasRoomFor w e → IsOpenLedger w → AreWithinLimits w → AreWithinLimits (written (write.Entry e) w)
entry_keeps_limits w e next room ledger limits = limits_moved w (written (write.Entry e) w) limits (record {
  branches = branches_within w e room ledger limits;
  tellers = tellers_within w e room ledger limits;
  accounts = accounts_within w e room ledger;
  entries = entries_within w e next room ledger;
})

pub entry_keeps_books : EntryKeepsBooks
entry_keeps_books w e next names room books =
    let parts = (books_parts w).0 books in
    (books_parts (written (write.Entry e) w)).1 (
      record {
        rows = entry_keeps_ledger w e next parts.0.rows;
        named = each_added entry_key e w.entries (NamesEntries (add_row entry_key e w.entries)) (names_still w e e names) (λ row there. names_still w e row (parts.0.named row there));
        balanced = parts.0.balanced;
      },
      entry_keeps_limits w e next room parts.0.rows parts.1,
    )

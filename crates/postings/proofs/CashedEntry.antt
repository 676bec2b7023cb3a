-- An entry alone, with the line of its cash: what the tests of its rows say, and that the books hold with both.
use Rattle.std.proofs.Common.{◌≡◌, ◌≢◌, ℕ, ◌+◌, ℤ, pos, ◌+ℤ◌, false, true, not, refl, ap, arith, sym, subst, ◌==◌, Some}
use Rattle.std.specs.Prelude.{if◌then◌else◌}
use Rattle.std.proofs.lemmas.Bool.{and_parts, ltb-false, ne_eqb}
use Rattle.std.proofs.lemmas.Int.{ints}
use Rattle.bank_terms.specs.Limits.{max_key}
use Rattle.bank_books.specs.Balances.{account_row, branch_row, teller_row}
use Rattle.bank_books.specs.Books.{Books}
use Rattle.bank_books.specs.Cash.{line_count}
use Rattle.bank_books.specs.Effects.{written}
use Rattle.bank_books.specs.Keys.{branch_key, teller_key}
use Rattle.bank_books.specs.Records.{account_record_of, branch_record_of, teller_record_of}
use Rattle.bank_books.specs.WorldLists.{WorldLists}
use Rattle.bank_books.specs.declared.records.BranchRecord.{BranchRecord}
use Rattle.bank_books.specs.declared.records.TellerRecord.{TellerRecord}
use Rattle.bank_books.specs.declared.row_write.RowWrite.TheVariants as write
use Rattle.bank_books.specs.declared.rows.Account.{Account}
use Rattle.bank_books.specs.declared.rows.CashLine.{CashLine}
use Rattle.bank_books.specs.declared.rows.Entry.{Entry}
use Rattle.bank_books.specs.declared.rows.LineForm.TheVariants as line
use Rattle.book_laws.specs.Ledger.{NamesEntries}
use Rattle.book_laws.specs.Limits.{IsAccountWithin, IsCashWithin, IsHistoryWithin}
use Rattle.book_laws.specs.Moves.{HasRoomFor, HasRoomForLine, account_entered, branch_lined}
use Rattle.book_laws.specs.Next.{IsNextEntry, IsNextLine}
use Rattle.book_laws.proofs.BooksSplit.{books_parts}
use Rattle.book_laws.proofs.EntryBooks.{entry_keeps_books}
use Rattle.book_laws.proofs.LineAdded.{line_keeps_books}
use Rattle.keyed_rows.proofs.Rows.{found_row}
use Rattle.rule_tests.proofs.RuleTests.{cents_from}
use Rattle.row_members.specs.Ranges.{IsCash, IsKey}
use Rattle.money.specs.Range.{IsCents}
use Rattle.rule_tests.specs.BranchParts.{cash_book_of, ledger_of}
use Rattle.rule_tests.specs.Rules.{cash_book_is_full, cash_entries_in_range, drawer_covers, drawer_in_range, drawers_in_range, ledger_in_range, ledger_is_full, teller_in_range}
use Rattle.rule_tests.specs.declared.cash_book.CashBook.{CashBook}
use Rattle.rule_tests.proofs.FoundRows.{cash_from, for_found}
use Rattle.postings.proofs.AccountRoom.{HasAccountRoom, account_within}
use Rattle.postings.proofs.Counter.{IsCounter, line_is_sound}

-- the line of an entry's cash, at the drawer of its teller
abbrev pub cash_of_entry : CashBook → Entry → CashLine
cash_of_entry book e = record {
  branch = e.branch;
  number = book.lines + 1;
  place = e.teller;
  amount = e.delta;
  form = line.CashEntry;
  moment = e.moment;
  day = book.day;
  user = e.user;
}

-- ---- what the tests of its rows say

-- of the teller, the branch, and the cash
pub record HasCounterRoom (at : TellerRecord) (branch : BranchRecord) (added : ℤ) : Type 0 where
  pub covered : drawer_covers (Some at) added ≡ true
  pub teller : teller_in_range (Some at) added ≡ true
  pub ledger : ledger_in_range (Some (ledger_of branch)) added ≡ true
  pub drawer : drawer_in_range (Some at) added ≡ true
  pub drawers : drawers_in_range (Some (cash_book_of branch)) added ≡ true
  pub cash_entries : cash_entries_in_range (Some (cash_book_of branch)) added ≡ true
  pub entries : ledger_is_full (Some (ledger_of branch)) 1 ≡ false
  pub lines : cash_book_is_full (Some (cash_book_of branch)) 1 ≡ false

history_within : (branch : BranchRecord) (added : ℤ) → ledger_in_range (Some (ledger_of branch)) added ≡ true → ledger_is_full (Some (ledger_of branch)) 1 ≡ false
    → IsHistoryWithin (branch.balance +ℤ added) (branch.history +ℤ added) (branch.entries + 1)
history_within branch added in_range room =
    let cents = and_parts _ _ in_range in
    record {
      balance_within = cents_from (branch.balance +ℤ added) cents.0;
      history_within = cents_from (branch.history +ℤ added) cents.1;
      entries_within = ltb-false max_key (branch.entries + 1) room;
    }

nothing_more : (z : ℤ) → z ≡ z +ℤ pos 0
nothing_more z = omega (arith, ints)

-- the vault and the differences stay, as the line is at a drawer and no difference
cash_within : (branch : BranchRecord) (teller : TellerRecord) (book : CashBook) (e : Entry) → IsCashWithin branch.vault branch.drawers branch.cash_entries branch.differences branch.lines → (e.teller == 0) ≡ false
    → HasCounterRoom teller branch e.delta → (let after = branch_lined (cash_of_entry book e) branch in IsCashWithin after.vault after.drawers after.cash_entries after.differences after.lines)
cash_within branch teller book e was at_drawer room = record {
  vault_within = subst (λ b. IsCash (branch.vault +ℤ (if b then e.delta else pos 0))) (sym at_drawer) (subst IsCash (nothing_more branch.vault) was.vault_within);
  drawers_within = subst (λ b. IsCents (branch.drawers +ℤ (if not b then e.delta else pos 0))) (sym at_drawer) (cents_from (branch.drawers +ℤ e.delta) room.drawers);
  cash_entries_within = cents_from (branch.cash_entries +ℤ e.delta) room.cash_entries;
  differences_within = subst IsCents (nothing_more branch.differences) was.differences_within;
  lines_within = ltb-false max_key (branch.lines + 1) room.lines;
}

-- ---- the entry

pub entry_has_room : (w : WorldLists) (e : Entry) (at : IsCounter w e.branch e.teller) (account : Account) → account_row e.account w.accounts ≡ Some account
    → HasAccountRoom (account_record_of w account) e.delta → HasCounterRoom (teller_record_of w at.row) (branch_record_of w at.home) e.delta → HasRoomFor w e
entry_has_room w e at account is has room = record {
  branch = λ b. for_found (λ row. IsHistoryWithin ((branch_record_of w row).balance +ℤ e.delta) ((branch_record_of w row).history +ℤ e.delta) ((branch_record_of w row).entries + 1))
      (branch_row e.branch w.branches) at.home b at.home_is (history_within (branch_record_of w at.home) e.delta room.ledger room.entries);
  teller = λ t. for_found (λ row. IsCents ((teller_record_of w row).balance +ℤ e.delta)) (teller_row e.teller w.tellers) at.row t at.is
      (cents_from ((teller_record_of w at.row).balance +ℤ e.delta) room.teller);
  account = λ a. for_found (λ row. IsAccountWithin (account_entered e.delta (account_record_of w row))) (account_row e.account w.accounts) account a is
      (account_within (account_record_of w account) e.delta has);
}

-- ---- its cash line, in the World with the entry

at_a_drawer : (w : WorldLists) (branch teller : ℕ) → IsCounter w branch teller → Books w → (teller == 0) ≡ false
at_a_drawer w branch teller at books =
    let found = found_row teller_key teller w.tellers at.row at.is in
    ne_eqb teller 0 (not_zero teller (subst IsKey found.1 (((books_parts w).0 books).0.rows.tellers.each at.row found.0).key))
  where
    not_zero : (n : ℕ) → IsKey n → n ≢ 0
    not_zero n key none = omega (arith, key.0, none)

-- the branch of a counter, where the first counts of its rows are taken
line_number : (w : WorldLists) (branch teller : ℕ) (at : IsCounter w branch teller) → (cash_book_of (branch_record_of w at.home)).lines + 1 ≡ line_count branch w.lines + 1
line_number w branch teller at = ap (λ k. line_count k w.lines + 1) (found_row branch_key branch w.branches at.home at.home_is).1

pub cashed_keeps_books : (w : WorldLists) (e : Entry) (at : IsCounter w e.branch e.teller) (account : Account) → account_row e.account w.accounts ≡ Some account → IsNextEntry w e → NamesEntries w.entries e
    → HasAccountRoom (account_record_of w account) e.delta → HasCounterRoom (teller_record_of w at.row) (branch_record_of w at.home) e.delta → Books w
    → Books (written (write.Line (cash_of_entry (cash_book_of (branch_record_of w at.home)) e)) (written (write.Entry e) w))
cashed_keeps_books w e at account is next names has room books =
    let l = cash_of_entry (cash_book_of (branch_record_of w at.home)) e in
    let entered = written (write.Entry e) w in
    let limits = ((books_parts w).0 books).1 in
    let next_line : IsNextLine entered l = record {
      sound = line_is_sound w l at books (record { user = next.sound.user; moment = next.sound.moment }) refl;
      number = line_number w e.branch e.teller at;
      holder = tt;
    } in
    let line_room : HasRoomForLine entered l = record {
      branch = λ b. for_found (λ row. let after = branch_lined l (branch_record_of w row) in IsCashWithin after.vault after.drawers after.cash_entries after.differences after.lines)
          (branch_row e.branch w.branches) at.home b at.home_is
          (cash_within (branch_record_of w at.home) (teller_record_of w at.row) (cash_book_of (branch_record_of w at.home)) e
          (limits.branches at.home (found_row branch_key e.branch w.branches at.home at.home_is).0).cash (at_a_drawer w e.branch e.teller at books) room);
      teller = λ t found of. for_found (λ row. IsCash ((teller_record_of w row).cash +ℤ e.delta)) (teller_row e.teller w.tellers) at.row t at.is
          (cash_from ((teller_record_of w at.row).cash +ℤ e.delta) room.covered room.drawer) found;
    } in
    line_keeps_books entered l next_line refl line_room (entry_keeps_books w e next names (entry_has_room w e at account is has room) books)

-- Two entries at one counter that name each other and move an amount from one account to another: that the books hold with both.
use Rattle.std.proofs.Common.{◌≡◌, ◌≢◌, ℕ, ◌+◌, ◌≤◌, ℤ, neg_ℤ, false, refl, ap, arith, sym, ◌==◌, Some}
use Rattle.std.proofs.lemmas.Bool.{eq-eqb, ltb-false, ne_eqb}
use Rattle.std.proofs.lemmas.Int.{ints}
use Rattle.bank_terms.specs.Limits.{max_key}
use Rattle.bank_books.specs.Balances.{account_row, branch_row, entry_count, turn_count}
use Rattle.bank_books.specs.Books.{Books}
use Rattle.bank_books.specs.Effects.{written}
use Rattle.bank_books.specs.Keys.{account_key, branch_key, entry_key}
use Rattle.bank_books.specs.Range.{IsEntryOrNone}
use Rattle.bank_books.specs.Records.{account_record_of, branch_record_of}
use Rattle.bank_books.specs.WorldLists.{WorldLists}
use Rattle.bank_books.specs.declared.records.AccountRecord.{AccountRecord}
use Rattle.bank_books.specs.declared.row_write.RowWrite.TheVariants as write
use Rattle.bank_books.specs.declared.rows.Account.{Account}
use Rattle.bank_books.specs.declared.rows.Entry.{Entry}
use Rattle.bank_books.specs.declared.rows.EntryForm.{EntryForm}
use Rattle.bank_books.specs.declared.signature.Signature.{Signature}
use Rattle.book_laws.specs.Limits.{IsAccountWithin}
use Rattle.book_laws.specs.Moves.{AreLegs, HasRoomForOppositeLegs, account_entered}
use Rattle.book_laws.specs.Next.{IsNextEntry}
use Rattle.book_laws.proofs.LegsBooks.{opposite_legs_keep_books}
use Rattle.keyed_rows.proofs.Rows.{count_named, count_other, found_row}
use Rattle.row_members.specs.Ranges.{IsKeyOrZero}
use Rattle.rule_tests.specs.BranchParts.{ledger_of}
use Rattle.rule_tests.specs.Rules.{ledger_is_full}
use Rattle.rule_tests.specs.Signed.{IsSigned}
use Rattle.rule_tests.specs.declared.ledger.Ledger.{Ledger}
use Rattle.rule_tests.proofs.FoundRows.{for_found}
use Rattle.postings.proofs.AccountRoom.{HasAccountRoom, account_within}
use Rattle.postings.proofs.Counter.{IsCounter, entry_is_sound}

-- what the two are written from
pub record Legs : Type 0 where
  pub branch : ℕ
  pub teller : ℕ
  pub source : ℕ
  pub target : ℕ
  pub given : ℤ
  pub form : EntryForm
  pub source_undoes : ℕ
  pub target_undoes : ℕ
  pub by : Signature

abbrev pub source_leg : Legs → AccountRecord → Ledger → Entry
source_leg legs source ledger = record {
  branch = legs.branch;
  number = ledger.entries + 1;
  account = legs.source;
  turn = source.turns + 1;
  teller = legs.teller;
  delta = neg_ℤ legs.given;
  moment = legs.by.moment;
  day = ledger.day;
  user = legs.by.user;
  form = legs.form;
  partner = ledger.entries + 2;
  undoes = legs.source_undoes;
}

abbrev pub target_leg : Legs → AccountRecord → Ledger → Entry
target_leg legs target ledger = record {
  branch = legs.branch;
  number = ledger.entries + 2;
  account = legs.target;
  turn = target.turns + 1;
  teller = legs.teller;
  delta = legs.given;
  moment = legs.by.moment;
  day = ledger.day;
  user = legs.by.user;
  form = legs.form;
  partner = ledger.entries + 1;
  undoes = legs.target_undoes;
}

-- the rows that they name are there, and the tests of these rows let them pass
pub record AreLetThrough (w : WorldLists) (legs : Legs) : Type 0 where
  pub at : IsCounter w legs.branch legs.teller
  pub source : Account
  pub source_is : account_row legs.source w.accounts ≡ Some source
  pub target : Account
  pub target_is : account_row legs.target w.accounts ≡ Some target
  pub apart : legs.source ≢ legs.target
  pub source_room : HasAccountRoom (account_record_of w source) (neg_ℤ legs.given)
  pub target_room : HasAccountRoom (account_record_of w target) legs.given
  pub entries : ledger_is_full (Some (ledger_of (branch_record_of w at.home))) 2 ≡ false
  pub source_undoes : IsKeyOrZero legs.source_undoes × IsEntryOrNone w.entries legs.branch legs.source_undoes
  pub target_undoes : IsKeyOrZero legs.target_undoes × IsEntryOrNone w.entries legs.branch legs.target_undoes

abbrev pub source_of_legs : (w : WorldLists) (legs : Legs) → AreLetThrough w legs → Entry
source_of_legs w legs through = source_leg legs (account_record_of w through.source) (ledger_of (branch_record_of w through.at.home))

abbrev pub target_of_legs : (w : WorldLists) (legs : Legs) → AreLetThrough w legs → Entry
target_of_legs w legs through = target_leg legs (account_record_of w through.target) (ledger_of (branch_record_of w through.at.home))

-- ---- each may come next

first_number : (n most : ℕ) → n + 2 ≤ most → (0 ≤ n + 1) × (n + 1 ≤ most)
first_number n most fits = (omega arith, omega arith)

second_number : (n most : ℕ) → n + 2 ≤ most → (0 ≤ n + 2) × (n + 2 ≤ most)
second_number n most fits = (omega arith, fits)

next_but_one : (n before after : ℕ) → n ≡ before → after ≡ before + 1 → n + 2 ≡ after + 1
next_but_one n before after same more = omega (arith, same, more)

next_still : (n before after : ℕ) → n ≡ before → after ≡ before → n + 1 ≡ after + 1
next_still n before after same stays = omega (arith, same, stays)

source_is_next : (w : WorldLists) (legs : Legs) (through : AreLetThrough w legs) → Books w → IsSigned w legs.by → IsNextEntry w (source_of_legs w legs through)
source_is_next w legs through books signed =
    let account = found_row account_key legs.source w.accounts through.source through.source_is in
    let branch = found_row branch_key legs.branch w.branches through.at.home through.at.home_is in
    let fits = ltb-false max_key (entry_count through.at.home.branch w.entries + 2) through.entries in
    record {
      sound = entry_is_sound w (source_of_legs w legs through) through.at books signed (through.source, account) refl (second_number (entry_count through.at.home.branch w.entries) max_key fits)
          through.source_undoes.0;
      number = ap (λ k. entry_count k w.entries + 1) branch.1;
      turn = ap (λ k. turn_count k w.entries + 1) account.1;
    }

target_is_next : (w : WorldLists) (legs : Legs) (through : AreLetThrough w legs) → Books w → IsSigned w legs.by
    → IsNextEntry (written (write.Entry (source_of_legs w legs through)) w) (target_of_legs w legs through)
target_is_next w legs through books signed =
    let account = found_row account_key legs.target w.accounts through.target through.target_is in
    let branch = found_row branch_key legs.branch w.branches through.at.home through.at.home_is in
    let fits = ltb-false max_key (entry_count through.at.home.branch w.entries + 2) through.entries in
    let first = source_of_legs w legs through in
    record {
      sound = entry_is_sound w (target_of_legs w legs through) through.at books signed (through.target, account) refl (first_number (entry_count through.at.home.branch w.entries) max_key fits)
          through.target_undoes.0;
      number = next_but_one _ _ _ (ap (λ k. entry_count k w.entries) branch.1) (count_named entry_key (λ e. e.branch == legs.branch) first w.entries (eq-eqb legs.branch legs.branch refl));
      turn = next_still _ _ _ (ap (λ k. turn_count k w.entries) account.1)
          (count_other entry_key (λ e. e.account == legs.target) first w.entries (ne_eqb legs.source legs.target through.apart));
    }

-- ---- both together

twice : (z : ℤ) → z ≡ neg_ℤ (neg_ℤ z)
twice z = omega (arith, ints)

have_room : (w : WorldLists) (legs : Legs) (through : AreLetThrough w legs) → HasRoomForOppositeLegs w (source_of_legs w legs through) (target_of_legs w legs through)
have_room w legs through = record {
  opposite = twice legs.given;
  entries = λ b. for_found (λ row. entry_count row.branch w.entries + 2 ≤ max_key) (branch_row legs.branch w.branches) through.at.home b through.at.home_is
      (ltb-false max_key (entry_count through.at.home.branch w.entries + 2) through.entries);
  source = λ a. for_found (λ row. IsAccountWithin (account_entered (neg_ℤ legs.given) (account_record_of w row))) (account_row legs.source w.accounts) through.source a through.source_is
      (account_within (account_record_of w through.source) (neg_ℤ legs.given) through.source_room);
  target = λ a. for_found (λ row. IsAccountWithin (account_entered legs.given (account_record_of w row))) (account_row legs.target w.accounts) through.target a through.target_is
      (account_within (account_record_of w through.target) legs.given through.target_room);
}

pub legs_keep_books : (w : WorldLists) (legs : Legs) (through : AreLetThrough w legs) → Books w → IsSigned w legs.by
    → Books (written (write.Entry (target_of_legs w legs through)) (written (write.Entry (source_of_legs w legs through)) w))
legs_keep_books w legs through books signed =
    let are : AreLegs w (source_of_legs w legs through) (target_of_legs w legs through) = record {
      first_next = source_is_next w legs through books signed;
      second_next = target_is_next w legs through books signed;
      branch = refl;
      teller = refl;
      accounts = λ same. through.apart (sym same);
      first_partner = refl;
      second_partner = refl;
      first_undoes = through.source_undoes.1;
      second_undoes = through.target_undoes.1;
    } in
    opposite_legs_keep_books w (source_of_legs w legs through) (target_of_legs w legs through) are (have_room w legs through) books

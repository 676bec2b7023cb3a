-- A correction keeps the books: that of a post as a post does, and that of a transfer as a transfer does, where the entries that are undone are there.
use Rattle.std.proofs.Common.{◌≡◌, ℕ, ◌+◌, ◌*◌, ◌^◌, arith, Bool, true, false, not, ap, sym, ◌∙◌, subst, ◌==◌, Some, Contains, inl, inr, refl}
use Rattle.std.specs.Prelude.{◌||◌, if◌then◌else◌}
use Rattle.std.proofs.lemmas.Bool.{and_parts, cases_Bool, eqb-true, or_parts}
use Rattle.bank_books.specs.Balances.{entry_count, turn_count}
use Rattle.bank_books.specs.Books.{Books}
use Rattle.bank_books.specs.Effects.{applied}
use Rattle.bank_books.specs.Keys.{account_key, branch_key, entry_key}
use Rattle.bank_books.specs.Range.{IsEntryOrNone}
use Rattle.bank_books.specs.Records.{account_record_of, branch_record_of, teller_record_of}
use Rattle.bank_books.specs.WorldLists.{WorldLists}
use Rattle.bank_books.specs.declared.rows.Entry.{Entry}
use Rattle.bank_books.specs.declared.rows.EntryForm.TheVariants as form
use Rattle.bank_books.specs.declared.signature.Signature.{Signature}
use Rattle.book_laws.specs.Next.{IsNextEntry}
use Rattle.book_laws.proofs.BooksSplit.{books_parts}
use Rattle.keyed_rows.proofs.Rows.{find-found, found_row}
use Rattle.rule_tests.proofs.RuleTests.{none_named}
use Rattle.counter_ops.specs.Correct.{IsCorrect}
use Rattle.row_members.specs.Ranges.{IsKey, IsKeyOrZero}
use Rattle.counter_ops.specs.declared.correct.Correct.{Correct}
use Rattle.world_reads.specs.BookReads.{entry, is_entry}
use Rattle.rule_tests.specs.Rules.{cash_book_is_full, drawer_covers, ledger_is_full}
use Rattle.rule_tests.specs.Signed.{IsSigned}
use Rattle.postings.specs.Correct.{correct_effect, correct_rows, is_of_post, post_in_range, undoing}
use Rattle.postings.specs.Laws.{CorrectKeepsBooks}
use Rattle.postings.specs.declared.correct.CorrectRows.{CorrectRows}
use Rattle.postings.proofs.AccountRoom.{HasAccountRoom}
use Rattle.postings.proofs.AllowedCorrect.{AreThere, IsAllowed, OtherIsThere, are_there, changes_of_legs, changes_of_post, entry_of, is_allowed, other_is_there, rows_are_of_legs, rows_are_of_post, rows_of_legs, rows_of_post}
use Rattle.postings.proofs.CashedEntry.{HasCounterRoom, cashed_keeps_books}
use Rattle.postings.proofs.Counter.{IsCounter, entry_is_sound}
use Rattle.postings.proofs.OppositeLegs.{AreLetThrough, Legs, legs_keep_books}

-- ---- the entries that are undone

-- the one that is named is there, in the history of its branch
named_there : (w : WorldLists) (branch number : ℕ) (e : Entry) → entry w branch number ≡ Some e → Contains w.entries e × (e.branch ≡ branch) × (entry_key e ≡ 2 ^ 32 * branch + number)
named_there w branch number e is =
    let there = find-found (is_entry branch number) w.entries e is in
    let both = and_parts (e.branch == branch) (e.number == number) there.1 in
    let of_branch = eqb-true e.branch branch both.0 in
    (there.0, of_branch, ap (λ b. 2 ^ 32 * b + e.number) of_branch ∙ ap (λ n. 2 ^ 32 * branch + n) (eqb-true e.number number both.1))

key_or_none : (n : ℕ) → IsKey n → IsKeyOrZero n
key_or_none n key = (omega arith, key.1)

undoes_named : (w : WorldLists) (correct : Correct) → AreThere w correct → IsCorrect correct → IsKeyOrZero correct.entry × IsEntryOrNone w.entries correct.branch correct.entry
undoes_named w correct there ranges =
    let named = named_there w correct.branch correct.entry there.entry there.entry_is in
    (key_or_none correct.entry ranges.entry, inr (there.entry, (named.0, named.2)))

-- and so is the one that it names, as the books hold
undoes_partner : (w : WorldLists) (correct : Correct) (there : AreThere w correct) → Books w
    → IsKeyOrZero there.entry.partner × IsEntryOrNone w.entries correct.branch there.entry.partner
undoes_partner w correct there books =
    let named = named_there w correct.branch correct.entry there.entry there.entry_is in
    let ledger = ((books_parts w).0 books).0 in (
      (ledger.rows.entries.each there.entry named.0).partner,
      subst (λ b. IsEntryOrNone w.entries b there.entry.partner) named.1 (ledger.named there.entry named.0).partner,
    )

-- ---- the counter

abbrev counter_of : (w : WorldLists) (correct : Correct) (there : AreThere w correct) → there.teller.branch ≡ correct.branch → IsCounter w correct.branch correct.teller
counter_of w correct there of = record { row = there.teller; is = there.teller_is; home = there.branch; home_is = there.branch_is; of = of }

-- ---- of a post

asked : (b test : Bool) → b ≡ true → (not b || test) ≡ true → test ≡ true
asked true test is passes = passes
asked false test is passes = absurd cc

-- what the rules say of the rows
record PostIsLetThrough (w : WorldLists) (correct : Correct) (there : AreThere w correct) : Type 0 where
  pub of_branch : there.teller.branch ≡ correct.branch
  pub account : HasAccountRoom (account_record_of w there.account) (undoing correct)
  pub counter : HasCounterRoom (teller_record_of w there.teller) (branch_record_of w there.branch) (undoing correct)

post_is_let_through : (w : WorldLists) (correct : Correct) (by : Signature) (there : AreThere w correct) → is_of_post correct ≡ true → IsAllowed (rows_of_post w correct there) correct by
    → PostIsLetThrough w correct there
post_is_let_through w correct by there is allowed =
    let rows : CorrectRows = rows_of_post w correct there in
    let range = and_parts _ _ allowed.in_range in
    let accounts = and_parts _ _ range.0 in
    let cash_entries = and_parts _ _ (asked (is_of_post correct) (post_in_range rows (undoing correct)) is range.1) in
    let drawers = and_parts _ _ cash_entries.0 in
    let drawer = and_parts _ _ drawers.0 in
    let ledger = and_parts _ _ drawer.0 in
    let room = or_parts _ _ allowed.room in
    let turns = or_parts _ _ room.0 in
    let numbers = or_parts _ _ (subst (λ b. (if b then (ledger_is_full rows.ledger 1 || cash_book_is_full rows.cash_book 1) else ledger_is_full rows.ledger 2) ≡ false) is room.1) in
    record {
      of_branch = eqb-true there.teller.branch correct.branch allowed.of_branch;
      account = record { floor = (and_parts _ _ allowed.above_floors).0; in_range = accounts.0; turns = turns.0 };
      counter = record {
        covered = asked (is_of_post correct) (drawer_covers rows.teller (undoing correct)) is allowed.covered;
        teller = ledger.0;
        ledger = ledger.1;
        drawer = drawer.1;
        drawers = drawers.1;
        cash_entries = cash_entries.1;
        entries = numbers.0;
        lines = numbers.1;
      };
    }

entry_is_next : (w : WorldLists) (correct : Correct) (by : Signature) (there : AreThere w correct) → there.teller.branch ≡ correct.branch → Books w → IsSigned w by → IsCorrect correct
    → IsNextEntry w (entry_of w correct there by)
entry_is_next w correct by there of books signed ranges =
    let account = found_row account_key correct.account w.accounts there.account there.account_is in
    let branch = found_row branch_key correct.branch w.branches there.branch there.branch_is in
    record {
      sound = entry_is_sound w (entry_of w correct there by) (counter_of w correct there of) books signed (there.account, account) refl none_named (undoes_named w correct there ranges).0;
      number = ap (λ k. entry_count k w.entries + 1) branch.1;
      turn = ap (λ k. turn_count k w.entries + 1) account.1;
    }

of_post : (w : WorldLists) (correct : Correct) (by : Signature) → Books w → IsSigned w by → IsCorrect correct → IsAllowed (correct_rows w correct) correct by → is_of_post correct ≡ true
    → Books (correct_effect w correct by)
of_post w correct by books signed ranges allowed is =
    let there = are_there w correct by allowed in
    let through = post_is_let_through w correct by there is (subst (λ rows. IsAllowed rows correct by) (rows_are_of_post w correct there is) allowed) in
    subst (λ changes. Books (applied changes w)) (sym (changes_of_post w correct there by is))
    (cashed_keeps_books w (entry_of w correct there by) (counter_of w correct there through.of_branch) there.account there.account_is
    (entry_is_next w correct by there through.of_branch books signed ranges) (record { partner = inl refl; undoes = (undoes_named w correct there ranges).1 }) through.account through.counter books)

-- ---- of a transfer

abbrev legs_of : (w : WorldLists) (correct : Correct) → AreThere w correct → Signature → Legs
legs_of w correct there by = record {
  branch = correct.branch;
  teller = correct.teller;
  source = correct.account;
  target = correct.other;
  given = correct.delta;
  form = form.Correction;
  source_undoes = correct.entry;
  target_undoes = there.entry.partner;
  by = by;
}

abbrev let_through : (w : WorldLists) (correct : Correct) (by : Signature) (there : AreThere w correct) (also : OtherIsThere w correct) → is_of_post correct ≡ false
    → IsAllowed (rows_of_legs w correct there also) correct by → IsCorrect correct → Books w → AreLetThrough w (legs_of w correct there by)
let_through w correct by there also is allowed ranges books =
    let rows : CorrectRows = rows_of_legs w correct there also in
    let floors = and_parts _ _ allowed.above_floors in
    let range = and_parts _ _ (and_parts _ _ allowed.in_range).0 in
    let room = or_parts _ _ allowed.room in
    let turns = or_parts _ _ room.0 in
    record {
      at = counter_of w correct there (eqb-true there.teller.branch correct.branch allowed.of_branch);
      source = there.account;
      source_is = there.account_is;
      target = also.other;
      target_is = also.other_is;
      apart = ranges.two_accounts;
      source_room = record { floor = floors.0; in_range = range.0; turns = turns.0 };
      target_room = record { floor = floors.1; in_range = range.1; turns = turns.1 };
      entries = subst (λ b. (if b then (ledger_is_full rows.ledger 1 || cash_book_is_full rows.cash_book 1) else ledger_is_full rows.ledger 2) ≡ false) is room.1;
      source_undoes = undoes_named w correct there ranges;
      target_undoes = undoes_partner w correct there books;
    }

of_legs : (w : WorldLists) (correct : Correct) (by : Signature) → Books w → IsSigned w by → IsCorrect correct → IsAllowed (correct_rows w correct) correct by → is_of_post correct ≡ false
    → Books (correct_effect w correct by)
of_legs w correct by books signed ranges allowed is =
    let there = are_there w correct by allowed in
    let also = other_is_there w correct by allowed is in
    let allowed_there = subst (λ rows. IsAllowed rows correct by) (rows_are_of_legs w correct there also is) allowed in
    subst (λ changes. Books (applied changes w)) (sym (changes_of_legs w correct there also by is))
    (legs_keep_books w (legs_of w correct there by) (let_through w correct by there also is allowed_there ranges books) books signed)

-- ---- the law

pub correct_keeps_books : CorrectKeepsBooks
correct_keeps_books w correct by books signed ranges none =
    let allowed = is_allowed (correct_rows w correct) correct by none in
    elim (cases_Bool (is_of_post correct)) [
      | inl is ↦ of_post w correct by books signed ranges allowed is
      | inr is ↦ of_legs w correct by books signed ranges allowed is
    ]

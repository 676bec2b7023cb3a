-- A correction: the rows that it is judged on, the rules of the books against it, its effect, and what it leaves. An entry is never changed: it is undone by
-- another of the opposite delta, that of a post with its cash, and the leg of a transfer together with the other leg.
use Rattle.std.specs.Prelude.{ℕ, ℤ, neg_ℤ, ◌+◌, ◌+ℤ◌, ◌==◌, ◌||◌, ◌&&◌, Bool, true, false, not, is_none, List, [], ◌∷◌, Option, Some, None, option_map, option_and_then, if◌then◌else◌}
use Rattle.std.specs.Option.{option_map_or}
use Rattle.std.specs.Ordering.{int_eq}
use Rattle.bank_terms.specs.declared.rule.Rule.{Rule}
use Rattle.bank_terms.specs.declared.rule.Rule.TheVariants as rule
use Rattle.counter_ops.specs.declared.correct.Correct.{Correct}
use Rattle.bank_books.specs.Effects.{applied}
use Rattle.bank_books.specs.Records.{account_record, branch_record, teller_record}
use Rattle.bank_books.specs.declared.records.AccountRecord.{AccountRecord}
use Rattle.bank_books.specs.WorldLists.{WorldLists}
use Rattle.bank_books.specs.declared.row_write.RowWrite.{RowWrite}
use Rattle.bank_books.specs.declared.row_write.RowWrite.TheVariants as write
use Rattle.bank_books.specs.declared.signature.Signature.{Signature}
use Rattle.bank_books.specs.declared.rows.CashLine.{CashLine}
use Rattle.bank_books.specs.declared.rows.Entry.{Entry}
use Rattle.bank_books.specs.declared.rows.EntryForm.{EntryForm}
use Rattle.bank_books.specs.declared.rows.EntryForm.TheVariants as form
use Rattle.bank_books.specs.declared.rows.LineForm.TheVariants as line
use Rattle.world_reads.specs.BookReads.{entry, undone}
use Rattle.rule_tests.specs.BranchParts.{cash_book_of, ledger_of}
use Rattle.rule_tests.specs.Denial.{first_denial}
use Rattle.rule_tests.specs.Rules.{account_in_range, account_is_full, account_keeps_floor, cash_book_is_full, cash_entries_in_range, drawer_covers, drawer_in_range, drawer_is_held_by, drawers_in_range, ledger_in_range, ledger_is_full, teller_in_range, teller_is_of}
use Rattle.rule_tests.specs.declared.cash_book.CashBook.{CashBook}
use Rattle.rule_tests.specs.declared.ledger.Ledger.{Ledger}
use Rattle.postings.specs.declared.correct.CorrectRows.{CorrectRows}
use Rattle.postings.specs.declared.correct.Corrected.{Corrected}
use Rattle.postings.specs.declared.correct.Corrected.TheVariants as corrected

-- it undoes a post, and so names no other account
abbrev pub is_of_post : Correct → Bool
is_of_post correct = correct.other == 0

-- the entry that it names
abbrev pub entry_named : WorldLists → Correct → Option Entry
entry_named w correct = entry w correct.branch correct.entry

-- the other leg of an entry, where it names one
abbrev pub partner_of : WorldLists → Entry → Option Entry
partner_of w e = if e.partner == 0 then None else entry w e.branch e.partner

-- the other account that it names
abbrev pub other_account : WorldLists → Correct → Option AccountRecord
other_account w correct = if is_of_post correct then None else account_record w correct.other

-- the rows that a correction is judged on, in a World
abbrev pub correct_rows : WorldLists → Correct → CorrectRows
correct_rows w correct = record {
  account = account_record w correct.account;
  other = other_account w correct;
  teller = teller_record w correct.teller;
  ledger = option_map ledger_of (branch_record w correct.branch);
  cash_book = option_map cash_book_of (branch_record w correct.branch);
  entry = entry_named w correct;
  partner = option_and_then (partner_of w) (entry_named w correct);
  is_undone = undone w correct.branch correct.entry;
}

-- an account, teller or branch that it names is not there
abbrev pub is_unknown : CorrectRows → Correct → Bool
is_unknown rows correct =
    is_none rows.account || (not (is_of_post correct) && is_none rows.other) || is_none rows.teller || is_none rows.ledger || is_none rows.cash_book

-- the user made the entry
abbrev pub is_by_maker : CorrectRows → ℕ → Bool
is_by_maker rows user = option_map_or (λ e. e.user == user) rows.entry false

-- Of an entry of this form the other account is as the correction names it: none of a post, and of the leg of a transfer that of the other leg. A correction
-- is never corrected.
abbrev pub other_is_as_named : EntryForm → Option Entry → Correct → Bool
other_is_as_named form.Post partner correct = is_of_post correct
other_is_as_named form.TransferLeg partner correct = not (is_of_post correct) && option_map_or (λ p. p.account == correct.other) partner false
other_is_as_named form.Correction partner correct = false

-- the entry may be corrected: it is no correction itself, is as it is named, and is of the branch's present day
abbrev pub is_correctable : Entry → CorrectRows → Correct → Bool
is_correctable e rows correct =
    e.account == correct.account
    && int_eq e.delta correct.delta
    && other_is_as_named e.form rows.partner correct
    && option_map_or (λ ledger. e.day == ledger.day) rows.ledger true

-- there is such an entry, and it is not undone yet
abbrev pub has_entry : CorrectRows → Correct → Bool
has_entry rows correct = not rows.is_undone && option_map_or (λ e. is_correctable e rows correct) rows.entry false

-- what it adds to the account of the entry; the other account gets the opposite
abbrev pub undoing : Correct → ℤ
undoing correct = neg_ℤ correct.delta

-- after it both accounts are at their floors or above
abbrev pub are_above_floors : CorrectRows → Correct → Bool
are_above_floors rows correct = account_keeps_floor rows.account (undoing correct) && account_keeps_floor rows.other correct.delta

-- the drawer of the teller gives or takes the cash of a post
abbrev pub has_cash : CorrectRows → Correct → Bool
has_cash rows correct = not (is_of_post correct) || drawer_covers rows.teller (undoing correct)

-- what a correction moves beside the accounts stays in the range of money: of a post all that the post moved, of a transfer nothing
abbrev pub post_in_range : CorrectRows → ℤ → Bool
post_in_range rows added =
    teller_in_range rows.teller added
    && ledger_in_range rows.ledger added
    && drawer_in_range rows.teller added
    && drawers_in_range rows.cash_book added
    && cash_entries_in_range rows.cash_book added

abbrev pub is_in_range : CorrectRows → Correct → Bool
is_in_range rows correct =
    account_in_range rows.account (undoing correct)
    && account_in_range rows.other correct.delta
    && (not (is_of_post correct) || post_in_range rows (undoing correct))

-- a number that it needs is not left: for a post one entry and one line, for a transfer two entries
abbrev pub is_full : CorrectRows → Correct → Bool
is_full rows correct =
    account_is_full rows.account
    || account_is_full rows.other
    || (if is_of_post correct then (ledger_is_full rows.ledger 1 || cash_book_is_full rows.cash_book 1) else ledger_is_full rows.ledger 2)

-- the rules of the books that the correction of this user is judged by, in their order, each with whether it denies
abbrev pub correct_tests : CorrectRows → Correct → Signature → List (Rule × Bool)
correct_tests rows correct by =
    (rule.Unknown, is_unknown rows correct)
    ∷ (rule.Branch, not (teller_is_of rows.teller correct.branch))
    ∷ (rule.Drawer, not (drawer_is_held_by rows.teller by.user))
    ∷ (rule.SecondPerson, is_by_maker rows by.user)
    ∷ (rule.Entry, not (has_entry rows correct))
    ∷ (rule.Floor, not (are_above_floors rows correct))
    ∷ (rule.Cash, not (has_cash rows correct))
    ∷ (rule.Range, not (is_in_range rows correct))
    ∷ (rule.Full, is_full rows correct)
    ∷ []

-- the first of them that denies
abbrev pub first_against_correct : CorrectRows → Correct → Signature → Option Rule
first_against_correct rows correct by = first_denial (correct_tests rows correct by)

-- the entry that undoes a post, at the teller whom the correction names
abbrev pub undoing_entry : AccountRecord → Ledger → Correct → Signature → Entry
undoing_entry account ledger correct by = record {
  branch = correct.branch;
  number = ledger.entries + 1;
  account = correct.account;
  turn = account.turns + 1;
  teller = correct.teller;
  delta = undoing correct;
  moment = by.moment;
  day = ledger.day;
  user = by.user;
  form = form.Correction;
  partner = 0;
  undoes = correct.entry;
}

-- the line of its cash, at the drawer of that teller
abbrev pub undoing_line : CashBook → Correct → Signature → CashLine
undoing_line book correct by = record {
  branch = correct.branch;
  number = book.lines + 1;
  place = correct.teller;
  amount = undoing correct;
  form = line.CashEntry;
  moment = by.moment;
  day = book.day;
  user = by.user;
}

-- the entry that undoes the leg that is named
abbrev pub undoing_leg : AccountRecord → Ledger → Correct → Signature → Entry
undoing_leg account ledger correct by = record {
  branch = correct.branch;
  number = ledger.entries + 1;
  account = correct.account;
  turn = account.turns + 1;
  teller = correct.teller;
  delta = undoing correct;
  moment = by.moment;
  day = ledger.day;
  user = by.user;
  form = form.Correction;
  partner = ledger.entries + 2;
  undoes = correct.entry;
}

-- the entry that undoes the other leg, which bears this number; the two name each other as partner
abbrev pub undoing_other : AccountRecord → Ledger → ℕ → Correct → Signature → Entry
undoing_other other ledger number correct by = record {
  branch = correct.branch;
  number = ledger.entries + 2;
  account = correct.other;
  turn = other.turns + 1;
  teller = correct.teller;
  delta = correct.delta;
  moment = by.moment;
  day = ledger.day;
  user = by.user;
  form = form.Correction;
  partner = ledger.entries + 1;
  undoes = number;
}

-- what the correction of a post adds, where its rows are there
abbrev pub undoing_post : CorrectRows → Correct → Signature → List RowWrite
undoing_post rows correct by =
    option_map_or (λ account. option_map_or (λ ledger. option_map_or (λ book.
    write.Entry (undoing_entry account ledger correct by) ∷ write.Line (undoing_line book correct by) ∷ []) rows.cash_book []) rows.ledger []) rows.account []

-- what that of a transfer adds
abbrev pub undoing_legs : CorrectRows → Correct → Signature → List RowWrite
undoing_legs rows correct by =
    option_map_or (λ account. option_map_or (λ other. option_map_or (λ ledger. option_map_or (λ e.
    write.Entry (undoing_leg account ledger correct by) ∷ write.Entry (undoing_other other ledger e.partner correct by) ∷ []) rows.entry []) rows.ledger []) rows.other []) rows.account []

abbrev pub correct_changes : CorrectRows → Correct → Signature → List RowWrite
correct_changes rows correct by = if is_of_post correct then undoing_post rows correct by else undoing_legs rows correct by

-- the World after a correction
abbrev pub correct_effect : WorldLists → Correct → Signature → WorldLists
correct_effect w correct by = applied (correct_changes (correct_rows w correct) correct by) w

-- what the correction of a post leaves, as a post
abbrev pub post_undone : Correct → AccountRecord → Ledger → Corrected
post_undone correct account ledger = corrected.OfPost (record { balance = account.balance +ℤ undoing correct; branch = correct.branch; entry = ledger.entries + 1 })

-- what that of a transfer leaves, as a transfer from the account that is named to the other
abbrev pub transfer_undone : Correct → AccountRecord → AccountRecord → Ledger → Corrected
transfer_undone correct account other ledger = corrected.OfTransfer (record {
  branch = correct.branch;
  first = ledger.entries + 1;
  second = ledger.entries + 2;
  source = account.balance +ℤ undoing correct;
  target = other.balance +ℤ correct.delta;
})

-- what it leaves, where its rows are there
abbrev pub corrected_of : CorrectRows → Correct → Option Corrected
corrected_of rows correct =
    option_and_then (λ account. option_and_then (λ ledger.
    if is_of_post correct then Some (post_undone correct account ledger)
    else option_map (λ other. transfer_undone correct account other ledger) rows.other) rows.ledger) rows.account

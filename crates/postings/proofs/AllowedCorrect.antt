-- What is known of a correction that no rule denies: its rows are there, and its changes are an entry and its cash line where it undoes a post, and two
-- entries that name each other where it undoes a transfer.
use Rattle.std.proofs.Common.{◌≡◌, Bool, true, false, not, ap, ◌∙◌, subst, [], ◌∷◌, Option, Some, None, refl}
use Rattle.std.specs.Prelude.{is_none, option_and_then, option_map, ◌||◌, ◌&&◌, if◌then◌else◌}
use Rattle.std.specs.Option.{option_map_or}
use Rattle.std.proofs.lemmas.Bool.{and_parts, not-false, or_parts}
use Rattle.bank_books.specs.Balances.{account_row, branch_row, teller_row}
use Rattle.bank_books.specs.Records.{account_record, account_record_of, branch_record, branch_record_of, teller_record_of}
use Rattle.bank_books.specs.WorldLists.{WorldLists}
use Rattle.bank_books.specs.declared.row_write.RowWrite.TheVariants as write
use Rattle.bank_books.specs.declared.rows.Account.{Account}
use Rattle.bank_books.specs.declared.rows.Branch.{Branch}
use Rattle.bank_books.specs.declared.rows.CashLine.{CashLine}
use Rattle.bank_books.specs.declared.rows.Entry.{Entry}
use Rattle.bank_books.specs.declared.rows.Teller.{Teller}
use Rattle.bank_books.specs.declared.signature.Signature.{Signature}
use Rattle.rule_tests.proofs.RuleTests.{passed_by, source_of}
use Rattle.counter_ops.specs.declared.correct.Correct.{Correct}
use Rattle.world_reads.specs.BookReads.{undone}
use Rattle.rule_tests.specs.BranchParts.{cash_book_of, ledger_of}
use Rattle.rule_tests.specs.Rules.{drawer_is_held_by, teller_is_of}
use Rattle.postings.specs.declared.correct.CorrectRows.{CorrectRows}
use Rattle.postings.specs.Correct.{are_above_floors, correct_changes, correct_rows, entry_named, first_against_correct, has_cash, has_entry, is_by_maker, is_correctable, is_full, is_in_range, is_of_post, is_unknown, partner_of, undoing_entry, undoing_leg, undoing_legs, undoing_line, undoing_other, undoing_post}

-- ---- what the rules say

pub record IsAllowed (rows : CorrectRows) (correct : Correct) (by : Signature) : Type 0 where
  pub known : is_unknown rows correct ≡ false
  pub of_branch : teller_is_of rows.teller correct.branch ≡ true
  pub held : drawer_is_held_by rows.teller by.user ≡ true
  pub by_another : is_by_maker rows by.user ≡ false
  pub named : has_entry rows correct ≡ true
  pub above_floors : are_above_floors rows correct ≡ true
  pub covered : has_cash rows correct ≡ true
  pub in_range : is_in_range rows correct ≡ true
  pub room : is_full rows correct ≡ false

pub is_allowed : (rows : CorrectRows) (correct : Correct) (by : Signature) → first_against_correct rows correct by ≡ None → IsAllowed rows correct by
is_allowed rows correct by none =
    let known = passed_by (is_unknown rows correct) _ _ none in
    let of_branch = passed_by (not (teller_is_of rows.teller correct.branch)) _ _ known.1 in
    let held = passed_by (not (drawer_is_held_by rows.teller by.user)) _ _ of_branch.1 in
    let another = passed_by (is_by_maker rows by.user) _ _ held.1 in
    let named = passed_by (not (has_entry rows correct)) _ _ another.1 in
    let floors = passed_by (not (are_above_floors rows correct)) _ _ named.1 in
    let covered = passed_by (not (has_cash rows correct)) _ _ floors.1 in
    let range = passed_by (not (is_in_range rows correct)) _ _ covered.1 in
    let room = passed_by (is_full rows correct) _ _ range.1 in
    record {
      known = known.0;
      of_branch = not-false _ of_branch.0;
      held = not-false _ held.0;
      by_another = another.0;
      named = not-false _ named.0;
      above_floors = not-false _ floors.0;
      covered = not-false _ covered.0;
      in_range = not-false _ range.0;
      room = room.0;
    }

-- ---- the rows

-- those that are there
pub record AreThere (w : WorldLists) (correct : Correct) : Type 0 where
  pub account : Account
  pub account_is : account_row correct.account w.accounts ≡ Some account
  pub teller : Teller
  pub teller_is : teller_row correct.teller w.tellers ≡ Some teller
  pub branch : Branch
  pub branch_is : branch_row correct.branch w.branches ≡ Some branch
  pub entry : Entry
  pub entry_is : entry_named w correct ≡ Some entry

-- and of a transfer the other account
pub record OtherIsThere (w : WorldLists) (correct : Correct) : Type 0 where
  pub other : Account
  pub other_is : account_row correct.other w.accounts ≡ Some other

there_since : {X : Type 0} (test : X → Bool) (o : Option X) → option_map_or test o false ≡ true → (x : X) × (o ≡ Some x)
there_since test None passes = absurd cc
there_since test (Some x) passes = (x, refl)

pub are_there : (w : WorldLists) (correct : Correct) (by : Signature) → IsAllowed (correct_rows w correct) correct by → AreThere w correct
are_there w correct by allowed =
    let rows : CorrectRows = correct_rows w correct in
    let other_test = not (is_of_post correct) && is_none rows.other in
    let first = or_parts (is_none rows.account || other_test || is_none rows.teller || is_none rows.ledger) (is_none rows.cash_book) allowed.known in
    let second = or_parts (is_none rows.account || other_test || is_none rows.teller) (is_none rows.ledger) first.0 in
    let third = or_parts (is_none rows.account || other_test) (is_none rows.teller) second.0 in
    let account = source_of (account_record_of w) (account_row correct.account w.accounts) (or_parts (is_none rows.account) other_test third.0).0 in
    let teller = source_of (teller_record_of w) (teller_row correct.teller w.tellers) third.1 in
    let record_of = source_of ledger_of (branch_record w correct.branch) second.1 in
    let branch = source_of (branch_record_of w) (branch_row correct.branch w.branches) (ap is_none record_of.1) in
    let named = there_since (λ e. is_correctable e rows correct) (entry_named w correct) (and_parts _ _ allowed.named).1 in
    record {
      account = account.0;
      account_is = account.1;
      teller = teller.0;
      teller_is = teller.1;
      branch = branch.0;
      branch_is = branch.1;
      entry = named.0;
      entry_is = named.1;
    }

pub other_is_there : (w : WorldLists) (correct : Correct) (by : Signature) → IsAllowed (correct_rows w correct) correct by → is_of_post correct ≡ false → OtherIsThere w correct
other_is_there w correct by allowed is =
    let rows : CorrectRows = correct_rows w correct in
    let first = or_parts _ (is_none rows.cash_book) allowed.known in
    let second = or_parts _ (is_none rows.ledger) first.0 in
    let third = or_parts _ (is_none rows.teller) second.0 in
    let tested = (or_parts (is_none rows.account) (not (is_of_post correct) && is_none rows.other) third.0).1 in
    let other = source_of (account_record_of w) (account_row correct.other w.accounts)
    (subst (λ b. (not b && is_none (if b then None else account_record w correct.other)) ≡ false) is tested) in
    record { other = other.0; other_is = other.1 }

-- what the rules are judged on, by what is found
abbrev rows_of : WorldLists → Correct → Bool → Option Account → Option Account → Option Teller → Option Branch → Option Entry → CorrectRows
rows_of w correct of_post account other teller branch named = record {
  account = option_map (account_record_of w) account;
  other = if of_post then None else option_map (account_record_of w) other;
  teller = option_map (teller_record_of w) teller;
  ledger = option_map ledger_of (option_map (branch_record_of w) branch);
  cash_book = option_map cash_book_of (option_map (branch_record_of w) branch);
  entry = named;
  partner = option_and_then (partner_of w) named;
  is_undone = undone w correct.branch correct.entry;
}

-- all but the other account
found : (w : WorldLists) (correct : Correct) (of_post : Bool) (other : Option Account) (there : AreThere w correct) → is_of_post correct ≡ of_post → account_row correct.other w.accounts ≡ other
    → correct_rows w correct ≡ rows_of w correct of_post (Some there.account) other (Some there.teller) (Some there.branch) (Some there.entry)
found w correct of_post other there is other_is =
    let accounts = account_row correct.account w.accounts in
    let others = account_row correct.other w.accounts in
    let tellers = teller_row correct.teller w.tellers in
    let branches = branch_row correct.branch w.branches in
    let named = entry_named w correct in
    ap (λ b. rows_of w correct b accounts others tellers branches named) is
    ∙ ap (λ o. rows_of w correct of_post o others tellers branches named) there.account_is
    ∙ ap (λ o. rows_of w correct of_post (Some there.account) o tellers branches named) other_is
    ∙ ap (λ o. rows_of w correct of_post (Some there.account) other o branches named) there.teller_is
    ∙ ap (λ o. rows_of w correct of_post (Some there.account) other (Some there.teller) o named) there.branch_is
    ∙ ap (λ o. rows_of w correct of_post (Some there.account) other (Some there.teller) (Some there.branch) o) there.entry_is

-- of a post
abbrev pub rows_of_post : (w : WorldLists) (correct : Correct) → AreThere w correct → CorrectRows
rows_of_post w correct there = rows_of w correct true (Some there.account) None (Some there.teller) (Some there.branch) (Some there.entry)

pub rows_are_of_post : (w : WorldLists) (correct : Correct) (there : AreThere w correct) → is_of_post correct ≡ true → correct_rows w correct ≡ rows_of_post w correct there
rows_are_of_post w correct there is = found w correct true (account_row correct.other w.accounts) there is refl

-- of a transfer
abbrev pub rows_of_legs : (w : WorldLists) (correct : Correct) → AreThere w correct → OtherIsThere w correct → CorrectRows
rows_of_legs w correct there also = rows_of w correct false (Some there.account) (Some also.other) (Some there.teller) (Some there.branch) (Some there.entry)

pub rows_are_of_legs : (w : WorldLists) (correct : Correct) (there : AreThere w correct) (also : OtherIsThere w correct) → is_of_post correct ≡ false
    → correct_rows w correct ≡ rows_of_legs w correct there also
rows_are_of_legs w correct there also is = found w correct false (Some also.other) there is also.other_is

-- ---- the changes, of a post

abbrev pub entry_of : (w : WorldLists) (correct : Correct) → AreThere w correct → Signature → Entry
entry_of w correct there by = undoing_entry (account_record_of w there.account) (ledger_of (branch_record_of w there.branch)) correct by

abbrev pub line_of : (w : WorldLists) (correct : Correct) → AreThere w correct → Signature → CashLine
line_of w correct there by = undoing_line (cash_book_of (branch_record_of w there.branch)) correct by

pub changes_of_post : (w : WorldLists) (correct : Correct) (there : AreThere w correct) (by : Signature) → is_of_post correct ≡ true
    → correct_changes (correct_rows w correct) correct by ≡ write.Entry (entry_of w correct there by) ∷ write.Line (line_of w correct there by) ∷ []
changes_of_post w correct there by is =
    let rows : CorrectRows = correct_rows w correct in
    ap (λ b. if b then undoing_post rows correct by else undoing_legs rows correct by) is ∙ ap (λ r. undoing_post r correct by) (rows_are_of_post w correct there is)

-- ---- and of a transfer

abbrev pub first_of : (w : WorldLists) (correct : Correct) → AreThere w correct → Signature → Entry
first_of w correct there by = undoing_leg (account_record_of w there.account) (ledger_of (branch_record_of w there.branch)) correct by

abbrev pub second_of : (w : WorldLists) (correct : Correct) → AreThere w correct → OtherIsThere w correct → Signature → Entry
second_of w correct there also by = undoing_other (account_record_of w also.other) (ledger_of (branch_record_of w there.branch)) there.entry.partner correct by

pub changes_of_legs : (w : WorldLists) (correct : Correct) (there : AreThere w correct) (also : OtherIsThere w correct) (by : Signature) → is_of_post correct ≡ false
    → correct_changes (correct_rows w correct) correct by ≡ write.Entry (first_of w correct there by) ∷ write.Entry (second_of w correct there also by) ∷ []
changes_of_legs w correct there also by is =
    let rows : CorrectRows = correct_rows w correct in
    ap (λ b. if b then undoing_post rows correct by else undoing_legs rows correct by) is ∙ ap (λ r. undoing_legs r correct by) (rows_are_of_legs w correct there also is)

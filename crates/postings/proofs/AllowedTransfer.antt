-- What is known of a transfer that no rule denies: its rows are there, its changes are two entries that name each other, and the books hold with them.
use Rattle.std.proofs.Common.{◌≡◌, pos, true, false, not, ap, sym, ◌∙◌, subst, [], ◌∷◌, Option, Some, None, inl, refl}
use Rattle.std.specs.Prelude.{is_none, option_map, ◌||◌}
use Rattle.std.proofs.lemmas.Bool.{and_parts, eqb-true, not-false, or_parts}
use Rattle.bank_books.specs.Balances.{account_row, branch_row, teller_row}
use Rattle.bank_books.specs.Books.{Books}
use Rattle.bank_books.specs.Effects.{applied}
use Rattle.bank_books.specs.Records.{account_record_of, branch_record, branch_record_of, teller_record_of}
use Rattle.bank_books.specs.WorldLists.{WorldLists}
use Rattle.bank_books.specs.declared.row_write.RowWrite.TheVariants as write
use Rattle.bank_books.specs.declared.rows.Account.{Account}
use Rattle.bank_books.specs.declared.rows.Branch.{Branch}
use Rattle.bank_books.specs.declared.rows.Entry.{Entry}
use Rattle.bank_books.specs.declared.rows.EntryForm.TheVariants as entry
use Rattle.bank_books.specs.declared.rows.Teller.{Teller}
use Rattle.bank_books.specs.declared.signature.Signature.{Signature}
use Rattle.rule_tests.proofs.RuleTests.{none_named, passed_by, source_of}
use Rattle.counter_ops.specs.Transfer.{IsTransfer}
use Rattle.counter_ops.specs.declared.transfer.Transfer.{Transfer}
use Rattle.rule_tests.specs.BranchParts.{ledger_of}
use Rattle.rule_tests.specs.Rules.{drawer_is_held_by, teller_is_of}
use Rattle.postings.specs.declared.transfer.TransferRows.{TransferRows}
use Rattle.postings.specs.Laws.{TransferKeepsBooks}
use Rattle.postings.specs.Transfer.{are_above_floors, are_in_range, first_against_transfer, first_leg, is_full, is_unknown, second_leg, transfer_changes, transfer_rows}
use Rattle.postings.proofs.OppositeLegs.{AreLetThrough, Legs, legs_keep_books}

-- ---- what the rules say

pub record IsAllowed (rows : TransferRows) (transfer : Transfer) (by : Signature) : Type 0 where
  pub known : is_unknown rows ≡ false
  pub of_branch : teller_is_of rows.teller transfer.branch ≡ true
  pub held : drawer_is_held_by rows.teller by.user ≡ true
  pub above_floors : are_above_floors rows transfer ≡ true
  pub in_range : are_in_range rows transfer ≡ true
  pub room : is_full rows ≡ false

pub is_allowed : (rows : TransferRows) (transfer : Transfer) (by : Signature) → first_against_transfer rows transfer by ≡ None → IsAllowed rows transfer by
is_allowed rows transfer by none =
    let known = passed_by (is_unknown rows) _ _ none in
    let of_branch = passed_by (not (teller_is_of rows.teller transfer.branch)) _ _ known.1 in
    let held = passed_by (not (drawer_is_held_by rows.teller by.user)) _ _ of_branch.1 in
    let floors = passed_by (not (are_above_floors rows transfer)) _ _ held.1 in
    let range = passed_by (not (are_in_range rows transfer)) _ _ floors.1 in
    let room = passed_by (is_full rows) _ _ range.1 in
    record {
      known = known.0;
      of_branch = not-false _ of_branch.0;
      held = not-false _ held.0;
      above_floors = not-false _ floors.0;
      in_range = not-false _ range.0;
      room = room.0;
    }

-- ---- the rows

-- those that are there
pub record AreThere (w : WorldLists) (transfer : Transfer) : Type 0 where
  pub source : Account
  pub source_is : account_row transfer.source w.accounts ≡ Some source
  pub target : Account
  pub target_is : account_row transfer.target w.accounts ≡ Some target
  pub teller : Teller
  pub teller_is : teller_row transfer.teller w.tellers ≡ Some teller
  pub branch : Branch
  pub branch_is : branch_row transfer.branch w.branches ≡ Some branch

pub are_there : (w : WorldLists) (transfer : Transfer) (by : Signature) → IsAllowed (transfer_rows w transfer) transfer by → AreThere w transfer
are_there w transfer by allowed =
    let rows : TransferRows = transfer_rows w transfer in
    let first = or_parts (is_none rows.source || is_none rows.target || is_none rows.teller) (is_none rows.ledger) allowed.known in
    let second = or_parts (is_none rows.source || is_none rows.target) (is_none rows.teller) first.0 in
    let third = or_parts (is_none rows.source) (is_none rows.target) second.0 in
    let source = source_of (account_record_of w) (account_row transfer.source w.accounts) third.0 in
    let target = source_of (account_record_of w) (account_row transfer.target w.accounts) third.1 in
    let teller = source_of (teller_record_of w) (teller_row transfer.teller w.tellers) second.1 in
    let record_of = source_of ledger_of (branch_record w transfer.branch) first.1 in
    let branch = source_of (branch_record_of w) (branch_row transfer.branch w.branches) (ap is_none record_of.1) in
    record {
      source = source.0;
      source_is = source.1;
      target = target.0;
      target_is = target.1;
      teller = teller.0;
      teller_is = teller.1;
      branch = branch.0;
      branch_is = branch.1;
    }

-- what the rules are judged on, by what is found
abbrev rows_of : WorldLists → Option Account → Option Account → Option Teller → Option Branch → TransferRows
rows_of w source target teller branch = record {
  source = option_map (account_record_of w) source;
  target = option_map (account_record_of w) target;
  teller = option_map (teller_record_of w) teller;
  ledger = option_map ledger_of (option_map (branch_record_of w) branch);
}

abbrev pub rows_there : (w : WorldLists) (transfer : Transfer) → AreThere w transfer → TransferRows
rows_there w transfer there = rows_of w (Some there.source) (Some there.target) (Some there.teller) (Some there.branch)

pub rows_are : (w : WorldLists) (transfer : Transfer) (there : AreThere w transfer) → transfer_rows w transfer ≡ rows_there w transfer there
rows_are w transfer there =
    ap (λ o. rows_of w o (account_row transfer.target w.accounts) (teller_row transfer.teller w.tellers) (branch_row transfer.branch w.branches)) there.source_is
    ∙ ap (λ o. rows_of w (Some there.source) o (teller_row transfer.teller w.tellers) (branch_row transfer.branch w.branches)) there.target_is
    ∙ ap (λ o. rows_of w (Some there.source) (Some there.target) o (branch_row transfer.branch w.branches)) there.teller_is
    ∙ ap (λ o. rows_of w (Some there.source) (Some there.target) (Some there.teller) o) there.branch_is

-- ---- the changes

abbrev pub first_of : (w : WorldLists) (transfer : Transfer) → AreThere w transfer → Signature → Entry
first_of w transfer there by = first_leg (account_record_of w there.source) (ledger_of (branch_record_of w there.branch)) transfer by

abbrev pub second_of : (w : WorldLists) (transfer : Transfer) → AreThere w transfer → Signature → Entry
second_of w transfer there by = second_leg (account_record_of w there.target) (ledger_of (branch_record_of w there.branch)) transfer by

pub changes_are : (w : WorldLists) (transfer : Transfer) (there : AreThere w transfer) (by : Signature)
    → transfer_changes (transfer_rows w transfer) transfer by ≡ write.Entry (first_of w transfer there by) ∷ write.Entry (second_of w transfer there by) ∷ []
changes_are w transfer there by = ap (λ rows. transfer_changes rows transfer by) (rows_are w transfer there)

-- ---- the law

abbrev legs_of : Transfer → Signature → Legs
legs_of transfer by = record {
  branch = transfer.branch;
  teller = transfer.teller;
  source = transfer.source;
  target = transfer.target;
  given = pos transfer.amount;
  form = entry.TransferLeg;
  source_undoes = 0;
  target_undoes = 0;
  by = by;
}

abbrev let_through : (w : WorldLists) (transfer : Transfer) (by : Signature) (there : AreThere w transfer) → IsAllowed (rows_there w transfer there) transfer by → IsTransfer transfer
    → AreLetThrough w (legs_of transfer by)
let_through w transfer by there allowed ranges =
    let floors = and_parts _ _ allowed.above_floors in
    let range = and_parts _ _ allowed.in_range in
    let target_turns = or_parts _ _ allowed.room in
    let turns = or_parts _ _ target_turns.0 in
    record {
      at = record {
        row = there.teller;
        is = there.teller_is;
        home = there.branch;
        home_is = there.branch_is;
        of = eqb-true there.teller.branch transfer.branch allowed.of_branch;
      };
      source = there.source;
      source_is = there.source_is;
      target = there.target;
      target_is = there.target_is;
      apart = ranges.two_accounts;
      source_room = record { floor = floors.0; in_range = range.0; turns = turns.1 };
      target_room = record { floor = floors.1; in_range = range.1; turns = target_turns.1 };
      entries = turns.0;
      source_undoes = (none_named, inl refl);
      target_undoes = (none_named, inl refl);
    }

pub transfer_keeps_books : TransferKeepsBooks
transfer_keeps_books w transfer by books signed ranges none =
    let allowed = is_allowed (transfer_rows w transfer) transfer by none in
    let there = are_there w transfer by allowed in
    let allowed_there = subst (λ rows. IsAllowed rows transfer by) (rows_are w transfer there) allowed in
    subst (λ changes. Books (applied changes w)) (sym (changes_are w transfer there by))
    (legs_keep_books w (legs_of transfer by) (let_through w transfer by there allowed_there ranges) books signed)

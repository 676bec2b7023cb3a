-- What is known of a post that no rule denies: its rows are there, its changes are an entry and its cash line, and the books hold with them.
use Rattle.std.proofs.Common.{◌≡◌, ◌+◌, true, false, not, ap, sym, ◌∙◌, subst, [], ◌∷◌, Option, Some, None, inl, refl}
use Rattle.std.specs.Prelude.{is_none, option_map, ◌||◌}
use Rattle.std.proofs.lemmas.Bool.{and_parts, eqb-true, not-false, or_parts}
use Rattle.bank_books.specs.Balances.{account_row, branch_row, entry_count, teller_row, turn_count}
use Rattle.bank_books.specs.Books.{Books}
use Rattle.bank_books.specs.Effects.{applied}
use Rattle.bank_books.specs.Keys.{account_key, branch_key}
use Rattle.bank_books.specs.Records.{account_record_of, branch_record, branch_record_of, teller_record_of}
use Rattle.bank_books.specs.WorldLists.{WorldLists}
use Rattle.bank_books.specs.declared.row_write.RowWrite.TheVariants as write
use Rattle.bank_books.specs.declared.rows.Account.{Account}
use Rattle.bank_books.specs.declared.rows.Branch.{Branch}
use Rattle.bank_books.specs.declared.rows.CashLine.{CashLine}
use Rattle.bank_books.specs.declared.rows.Entry.{Entry}
use Rattle.bank_books.specs.declared.rows.Teller.{Teller}
use Rattle.bank_books.specs.declared.signature.Signature.{Signature}
use Rattle.book_laws.specs.Next.{IsNextEntry}
use Rattle.keyed_rows.proofs.Rows.{found_row}
use Rattle.rule_tests.proofs.RuleTests.{none_named, passed_by, source_of}
use Rattle.counter_ops.specs.declared.post.Post.{Post}
use Rattle.rule_tests.specs.BranchParts.{cash_book_of, ledger_of}
use Rattle.rule_tests.specs.Rules.{account_keeps_floor, drawer_covers, drawer_is_held_by, teller_is_of}
use Rattle.rule_tests.specs.Signed.{IsSigned}
use Rattle.postings.specs.declared.post.PostRows.{PostRows}
use Rattle.postings.specs.Laws.{PostKeepsBooks}
use Rattle.postings.specs.Post.{first_against_post, is_full, is_in_range, is_unknown, post_changes, post_entry, post_line, post_rows}
use Rattle.postings.proofs.AccountRoom.{HasAccountRoom}
use Rattle.postings.proofs.CashedEntry.{HasCounterRoom, cashed_keeps_books}
use Rattle.postings.proofs.Counter.{IsCounter, entry_is_sound}

-- ---- what the rules say

pub record IsAllowed (rows : PostRows) (post : Post) (by : Signature) : Type 0 where
  pub known : is_unknown rows ≡ false
  pub of_branch : teller_is_of rows.teller post.branch ≡ true
  pub held : drawer_is_held_by rows.teller by.user ≡ true
  pub above_floor : account_keeps_floor rows.account post.delta ≡ true
  pub covered : drawer_covers rows.teller post.delta ≡ true
  pub in_range : is_in_range rows post ≡ true
  pub room : is_full rows ≡ false

pub is_allowed : (rows : PostRows) (post : Post) (by : Signature) → first_against_post rows post by ≡ None → IsAllowed rows post by
is_allowed rows post by none =
    let known = passed_by (is_unknown rows) _ _ none in
    let of_branch = passed_by (not (teller_is_of rows.teller post.branch)) _ _ known.1 in
    let held = passed_by (not (drawer_is_held_by rows.teller by.user)) _ _ of_branch.1 in
    let floor = passed_by (not (account_keeps_floor rows.account post.delta)) _ _ held.1 in
    let covered = passed_by (not (drawer_covers rows.teller post.delta)) _ _ floor.1 in
    let range = passed_by (not (is_in_range rows post)) _ _ covered.1 in
    let room = passed_by (is_full rows) _ _ range.1 in
    record {
      known = known.0;
      of_branch = not-false _ of_branch.0;
      held = not-false _ held.0;
      above_floor = not-false _ floor.0;
      covered = not-false _ covered.0;
      in_range = not-false _ range.0;
      room = room.0;
    }

-- ---- the rows

-- those that are there
pub record AreThere (w : WorldLists) (post : Post) : Type 0 where
  pub account : Account
  pub account_is : account_row post.account w.accounts ≡ Some account
  pub teller : Teller
  pub teller_is : teller_row post.teller w.tellers ≡ Some teller
  pub branch : Branch
  pub branch_is : branch_row post.branch w.branches ≡ Some branch

pub are_there : (w : WorldLists) (post : Post) (by : Signature) → IsAllowed (post_rows w post) post by → AreThere w post
are_there w post by allowed =
    let rows : PostRows = post_rows w post in
    let first = or_parts (is_none rows.account || is_none rows.teller || is_none rows.ledger) (is_none rows.cash_book) allowed.known in
    let second = or_parts (is_none rows.account || is_none rows.teller) (is_none rows.ledger) first.0 in
    let third = or_parts (is_none rows.account) (is_none rows.teller) second.0 in
    let account = source_of (account_record_of w) (account_row post.account w.accounts) third.0 in
    let teller = source_of (teller_record_of w) (teller_row post.teller w.tellers) third.1 in
    let record_of = source_of ledger_of (branch_record w post.branch) second.1 in
    let branch = source_of (branch_record_of w) (branch_row post.branch w.branches) (ap is_none record_of.1) in
    record { account = account.0; account_is = account.1; teller = teller.0; teller_is = teller.1; branch = branch.0; branch_is = branch.1 }

-- what the rules are judged on, by what is found
abbrev rows_of : WorldLists → Option Account → Option Teller → Option Branch → PostRows
rows_of w account teller branch = record {
  account = option_map (account_record_of w) account;
  teller = option_map (teller_record_of w) teller;
  ledger = option_map ledger_of (option_map (branch_record_of w) branch);
  cash_book = option_map cash_book_of (option_map (branch_record_of w) branch);
}

abbrev pub rows_there : (w : WorldLists) (post : Post) → AreThere w post → PostRows
rows_there w post there = rows_of w (Some there.account) (Some there.teller) (Some there.branch)

pub rows_are : (w : WorldLists) (post : Post) (there : AreThere w post) → post_rows w post ≡ rows_there w post there
rows_are w post there =
    ap (λ o. rows_of w o (teller_row post.teller w.tellers) (branch_row post.branch w.branches)) there.account_is
    ∙ ap (λ o. rows_of w (Some there.account) o (branch_row post.branch w.branches)) there.teller_is
    ∙ ap (λ o. rows_of w (Some there.account) (Some there.teller) o) there.branch_is

-- ---- the changes

abbrev pub entry_of : (w : WorldLists) (post : Post) → AreThere w post → Signature → Entry
entry_of w post there by = post_entry (account_record_of w there.account) (ledger_of (branch_record_of w there.branch)) post by

abbrev pub line_of : (w : WorldLists) (post : Post) → AreThere w post → Signature → CashLine
line_of w post there by = post_line (cash_book_of (branch_record_of w there.branch)) post by

pub changes_are : (w : WorldLists) (post : Post) (there : AreThere w post) (by : Signature)
    → post_changes (post_rows w post) post by ≡ write.Entry (entry_of w post there by) ∷ write.Line (line_of w post there by) ∷ []
changes_are w post there by = ap (λ rows. post_changes rows post by) (rows_are w post there)

-- ---- the law

-- what the rules say of the rows
pub record IsLetThrough (w : WorldLists) (post : Post) (there : AreThere w post) : Type 0 where
  pub of_branch : there.teller.branch ≡ post.branch
  pub account : HasAccountRoom (account_record_of w there.account) post.delta
  pub counter : HasCounterRoom (teller_record_of w there.teller) (branch_record_of w there.branch) post.delta

is_let_through : (w : WorldLists) (post : Post) (by : Signature) (there : AreThere w post) → IsAllowed (rows_there w post there) post by → IsLetThrough w post there
is_let_through w post by there allowed =
    let cash_entries = and_parts _ _ allowed.in_range in
    let drawers = and_parts _ _ cash_entries.0 in
    let drawer = and_parts _ _ drawers.0 in
    let ledger = and_parts _ _ drawer.0 in
    let teller = and_parts _ _ ledger.0 in
    let lines = or_parts _ _ allowed.room in
    let entries = or_parts _ _ lines.0 in
    record {
      of_branch = eqb-true there.teller.branch post.branch allowed.of_branch;
      account = record { floor = allowed.above_floor; in_range = teller.0; turns = entries.1 };
      counter = record {
        covered = allowed.covered;
        teller = teller.1;
        ledger = ledger.1;
        drawer = drawer.1;
        drawers = drawers.1;
        cash_entries = cash_entries.1;
        entries = entries.0;
        lines = lines.1;
      };
    }

abbrev counter_of : (w : WorldLists) (post : Post) (there : AreThere w post) → there.teller.branch ≡ post.branch → IsCounter w post.branch post.teller
counter_of w post there of = record { row = there.teller; is = there.teller_is; home = there.branch; home_is = there.branch_is; of = of }

post_is_next : (w : WorldLists) (post : Post) (by : Signature) (there : AreThere w post) → there.teller.branch ≡ post.branch → Books w → IsSigned w by → IsNextEntry w (entry_of w post there by)
post_is_next w post by there of books signed =
    let account = found_row account_key post.account w.accounts there.account there.account_is in
    let branch = found_row branch_key post.branch w.branches there.branch there.branch_is in
    record {
      sound = entry_is_sound w (entry_of w post there by) (counter_of w post there of) books signed (there.account, account) refl none_named none_named;
      number = ap (λ k. entry_count k w.entries + 1) branch.1;
      turn = ap (λ k. turn_count k w.entries + 1) account.1;
    }

pub post_keeps_books : PostKeepsBooks
post_keeps_books w post by books signed none =
    let allowed = is_allowed (post_rows w post) post by none in
    let there = are_there w post by allowed in
    let through = is_let_through w post by there (subst (λ rows. IsAllowed rows post by) (rows_are w post there) allowed) in
    subst (λ changes. Books (applied changes w)) (sym (changes_are w post there by))
    (cashed_keeps_books w (entry_of w post there by) (counter_of w post there through.of_branch) there.account there.account_is (post_is_next w post by there through.of_branch books signed)
    (record { partner = inl refl; undoes = inl refl }) through.account through.counter books)

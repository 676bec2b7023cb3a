-- The laws of a post.
use Rattle.bank_meaning.proofs.RepliedEntries.{post_replied}
use Rattle.bank_meaning.specs.AskedRows.{entry_says, line_says}
use Rattle.bank_meaning.proofs.AskedRows.{account_found, is_home, numbered, placed_next}
use Rattle.bank_books.specs.declared.rows.Branch.{Branch}
use Rattle.bank_books.specs.declared.rows.Entry.{Entry}
use Rattle.bank_books.specs.Books.{Books}
use Rattle.bank_books.specs.Effects.{applied, written}
use Rattle.bank_books.specs.Records.{account_record, account_record_of, branch_record, branch_record_of, teller_record}
use Rattle.bank_books.specs.WorldLists.{WorldLists}
use Rattle.bank_books.specs.declared.records.AccountRecord.{AccountRecord}
use Rattle.bank_books.specs.declared.row_write.RowWrite.TheVariants as write
use Rattle.bank_books.specs.declared.signature.Signature.{Signature}
use Rattle.bank_meaning.proofs.AmountParts.{abs_itself, if_added, no_amount, one_line, placed}
use Rattle.bank_meaning.proofs.BookChanges.{by_row}
use Rattle.bank_meaning.proofs.IsForm.{AreWritten, IsForm}
use Rattle.bank_meaning.proofs.JudgedParts.{NoneDenies, branch_of_ledger, drawer_covered, holds_drawer, keeps_floor}
use Rattle.bank_meaning.proofs.Shares.{cash_alone, one_alone, one_counts}
use Rattle.bank_meaning.proofs.Steps.{IsStep, IsSumOf, plan_step}
use Rattle.bank_meaning.specs.Post.{IsPostJudged}
use Rattle.bank_meaning.specs.Operations.{moves_of}
use Rattle.bank_meaning.specs.PolicyRules.{asker}
use Rattle.bank_meaning.specs.Sums.{PassesChecks}
use Rattle.bank_meaning.specs.declared.who.Who.{Who}
use Rattle.bank_terms.specs.declared.rule.Rule.TheVariants as rule
use Rattle.counter_ops.specs.declared.op.Op.TheVariants as op
use Rattle.counter_ops.specs.declared.post.Post.{Post}
use Rattle.postings.proofs.AllowedPost as allowed
use Rattle.postings.specs.Post.{first_against_post, post_changes, post_effect, post_entry, post_line, post_rows}
use Rattle.rule_tests.specs.BranchParts.{cash_book_of, ledger_of}
use Rattle.rule_tests.specs.Signed.{IsSigned}
use Rattle.rule_tests.specs.declared.cash_book.CashBook.{CashBook}
use Rattle.rule_tests.specs.declared.ledger.Ledger.{Ledger}
use Rattle.std.proofs.Common.{None, Option, Some, [], ap, pos, refl, subst, sym, ℕ, ◌&&◌, ◌==◌, ◌||◌, ◌∷◌, ◌≡◌, ◌≤◌}
use Rattle.std.proofs.lemmas.Bool.{not-false, or_parts, and_from, not_from_true, or_from}
use Rattle.std.specs.Prelude.{if◌then◌else◌, is_none, option_map, unsigned_abs}
use Rattle.bank_books.specs.declared.rows.Branch.{Branch}
use Rattle.bank_meaning.proofs.PassingParts.{account_has_room, account_with_entry, counter_has_room, covers_it, holds_it, is_above_floor, is_no_vault, is_of_branch, key_of_drawer, none_by}
use Rattle.bank_books.specs.Keys.{account_key, branch_key}
use Rattle.postings.proofs.CashedEntry.{cash_of_entry}
use Rattle.keyed_rows.proofs.Rows.{found_row}
use Rattle.book_laws.specs.Next.{lined}

post_sums : (account : AccountRecord) (ledger : Ledger) (book : CashBook) (post : Post) (by : Signature)
    → IsSumOf (write.Entry (post_entry account ledger post by) ∷ write.Line (post_line book post by) ∷ []) (moves_of (op.Post post))
post_sums account ledger book post by = record {
  branches = λ key. one_alone (if post.branch == key then post.delta else pos 0);
  tellers = λ key. one_alone (if post.teller == key then post.delta else pos 0);
  accounts = λ key. one_alone (if post.account == key then post.delta else pos 0);
  entries = λ key. one_counts (post.branch == key);
  cash_entries = λ key. cash_alone (post.branch == key) post.delta;
}

posts : (w : WorldLists) (post : Post) (by : Signature) → PassesChecks w → IsSigned w by → first_against_post (post_rows w post) post by ≡ None
    → IsStep w (post_effect w post by) (moves_of (op.Post post))
posts w post by checks signed is =
    let there = allowed.are_there w post by (allowed.is_allowed (post_rows w post) post by is) in
    let branch = branch_record_of w there.branch in
    let effect = ap (λ changes. applied changes w) (allowed.changes_are w post there by) in
    subst (λ after. IsStep w after (moves_of (op.Post post))) (sym effect)
    (plan_step w _ (moves_of (op.Post post)) checks (tt, (tt, tt)) (post_sums (account_record_of w there.account) (ledger_of branch) (cash_book_of branch) post by)
    (subst Books effect (allowed.post_keeps_books w post by checks.books signed is)))

post_lines : (w : WorldLists) (post : Post) (by : Signature) (branch place : ℕ) → unsigned_abs (placed branch place (post_changes (post_rows w post) post by)) ≤ unsigned_abs post.delta
post_lines w post by branch place = go (post_rows w post).account (post_rows w post).ledger (post_rows w post).cash_book
  where
    go : (a : Option AccountRecord) (l : Option Ledger) (k : Option CashBook)
        → unsigned_abs (placed branch place (post_changes (record (post_rows w post) { account = a; ledger = l; cash_book = k }) post by)) ≤ unsigned_abs post.delta
    go (Some a) (Some l) (Some k) = one_line (post.branch == branch && post.teller == place) post.delta (unsigned_abs post.delta) (abs_itself post.delta)
    go (Some a) (Some l) None = no_amount (unsigned_abs post.delta)
    go (Some a) None k = no_amount (unsigned_abs post.delta)
    go None l k = no_amount (unsigned_abs post.delta)

post_asked : (by : Signature) (w : WorldLists) (post : Post) → IsPostJudged w by.user post
    → AreWritten (op.Post post) by w (post_changes (post_rows w post) post by)
post_asked by w post judged =
    let branch : Branch = judged.branch.0 in
    let home = is_home w post.branch branch judged.branch.1 in
    let there : allowed.AreThere w post = record {
      account = judged.floor.row;
      account_is = judged.floor.there;
      teller = judged.drawer.row;
      teller_is = judged.drawer.there;
      branch = branch;
      branch_is = judged.branch.1;
    } in
    let e : Entry = post_entry (account_record_of w judged.floor.row) (ledger_of (branch_record_of w branch)) post by in
    let l = post_line (cash_book_of (branch_record_of w branch)) post by in
    let of = account_found w post.account judged.floor.row judged.floor.there in
    subst (AreWritten (op.Post post) by w) (sym (allowed.changes_are w post there by)) (record {
      asked = (e, l, refl, numbered w (entry_says e) 1 branch.branch post.branch judged.floor.row.account post.account home.key of, placed_next w (line_says l) 1 branch.branch post.branch home.key);
      bear = ((refl, refl, home.day), ((refl, refl, home.day), tt));
      days = tt;
    })

post_judged : (w : WorldLists) (who : Who) (moment : ℕ) (post : Post) → NoneDenies w who moment (op.Post post) → IsPostJudged w (asker who) post
post_judged w who moment post none =
    let account = account_record w post.account in
    let teller = teller_record w post.teller in
    let ledger = option_map ledger_of (branch_record w post.branch) in
    let book = option_map cash_book_of (branch_record w post.branch) in
    let first = or_parts (is_none account || is_none teller || is_none ledger) (is_none book) (none rule.Unknown) in
    let second = or_parts (is_none account || is_none teller) (is_none ledger) first.0 in
    let third = or_parts (is_none account) (is_none teller) second.0 in
    let drawer = holds_drawer w (asker who) post.teller post.branch third.1 (none rule.Branch) (none rule.Drawer) in
    record {
      branch = branch_of_ledger w post.branch second.1;
      drawer = drawer;
      floor = keeps_floor w post.account post.delta third.0 (not-false _ (none rule.Floor));
      cash = drawer_covered w (asker who) post.teller post.branch post.delta drawer (not-false _ (none rule.Cash));
    }

post_passes : (w : WorldLists) (post : Post) (by : Signature) → PassesChecks w → IsPostJudged w by.user post → Books (post_effect w post by) → first_against_post (post_rows w post) post by ≡ None
post_passes w post by checks judged books =
    let d = judged.drawer in
    let floor = judged.floor in
    let home : Branch = judged.branch.0 in
    let there : allowed.AreThere w post = record {
      account = floor.row;
      account_is = floor.there;
      teller = d.row;
      teller_is = d.there;
      branch = home;
      branch_is = judged.branch.1;
    } in
    let e = allowed.entry_of w post there by in
    let book = cash_book_of (branch_record_of w home) in
    let after : Books (lined (cash_of_entry book e ∷ []) (written (write.Entry e) w)) = subst Books (ap (λ changes. applied changes w) (allowed.changes_are w post there by)) books in
    let of_home = found_row branch_key post.branch w.branches home judged.branch.1 in
    let of_drawer = key_of_drawer w post.teller post.branch (Some by.user) d in
    let of_account = found_row account_key post.account w.accounts floor.row floor.there in
    let counter = counter_has_room w e book home d.row of_home.0 of_drawer.0 (sym of_home.1) (sym d.of_branch) (sym of_drawer.1)
    (is_no_vault w post.teller post.branch (Some by.user) checks.books d) (covers_it w post.teller post.branch (Some by.user) post.delta d judged.cash) after in
    let account = account_has_room w (lined (cash_of_entry book e ∷ []) (written (write.Entry e) w)) floor.row post.delta after of_account.0 (account_with_entry w e floor.row (sym of_account.1)) in
    subst (λ rows. first_against_post rows post by ≡ None) (sym (allowed.rows_are w post there))
    (none_by _ rule.Branch _ (not_from_true _ (is_of_branch w post.teller post.branch (Some by.user) d))
    (none_by _ rule.Drawer _ (not_from_true _ (holds_it w by.user post.teller post.branch d))
    (none_by _ rule.Floor _ (not_from_true _ (is_above_floor w post.account post.delta floor))
    (none_by _ rule.Cash _ (not_from_true _ counter.covered)
    (none_by _ rule.Range _
    (not_from_true _ (and_from _ _ (and_from _ _ (and_from _ _ (and_from _ _ (and_from _ _ account.0 counter.teller) counter.ledger) counter.drawer) counter.drawers) counter.cash_entries))
    (none_by _ rule.Full None (or_from _ _ (or_from _ _ counter.entries account.1) counter.lines) refl))))))

pub post_is_form : (post : Post) → IsForm (op.Post post)
post_is_form post = record {
  said = λ by w. refl;
  books_alone = λ rows by. by_row _ rows.account (λ account. by_row _ rows.ledger (λ ledger. by_row _ rows.cash_book (λ book. record { each = (refl, (refl, tt)) })));
  no_slips = λ s by w. refl;
  asks = λ is. absurd cc;
  in_json = λ is rows by. refl;
  reports_ask = λ is. absurd cc;
  no_commands = λ rows by. refl;
  steps = λ by w checks proper signed none. posts w post by checks signed none;
  judged = λ w who moment none. post_judged w who moment post none;
  denies_no_more = λ by w checks proper judged books. post_passes w post by checks judged books;
  moves = record {
    branches = λ key. if_added (post.branch == key) post.delta (unsigned_abs post.delta) (abs_itself post.delta);
    tellers = λ key. if_added (post.teller == key) post.delta (unsigned_abs post.delta) (abs_itself post.delta);
    accounts = λ key. if_added (post.account == key) post.delta (unsigned_abs post.delta) (abs_itself post.delta);
  };
  cash = λ is by w branch place. post_lines w post by branch place;
  asked = λ by w judged. post_asked by w post judged;
  replied = λ by w checks proper judged step. post_replied by w post judged step;
}

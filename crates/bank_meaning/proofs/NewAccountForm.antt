-- The laws of an account that is opened.
use Rattle.bank_books.specs.Balances.{account_balance, account_row, branch_balance, entry_count, teller_balance, account_count, branch_row}
use Rattle.bank_books.specs.Cash.{cash_entry_total}
use Rattle.bank_books.specs.Records.{account_record_of, branch_record, branch_record_of}
use Rattle.bank_books.specs.WorldLists.{WorldLists}
use Rattle.bank_books.specs.declared.row_write.RowWrite.TheVariants as write
use Rattle.bank_books.specs.declared.rows.Account.{Account}
use Rattle.bank_meaning.proofs.AmountParts.{no_amount}
use Rattle.bank_meaning.proofs.IsForm.{IsForm}
use Rattle.bank_meaning.proofs.JudgedParts.{NoneDenies, branch_there}
use Rattle.bank_meaning.proofs.KeptOrder.{in_order_written}
use Rattle.bank_meaning.proofs.NoMoves.{none_within}
use Rattle.bank_meaning.proofs.OpenedAccount.{new_account_keeps_books, opened_is_next}
use Rattle.bank_meaning.proofs.Steps.{IsStep, none_more, passes, plus_zero}
use Rattle.bank_meaning.specs.NewAccount.{IsNewAccountJudged}
use Rattle.bank_meaning.specs.Moves.{moves_nothing}
use Rattle.bank_meaning.specs.NewAccount.{first_against_new_account, new_account_effect, opened, opening_rows}
use Rattle.bank_meaning.specs.Sums.{PassesChecks}
use Rattle.bank_meaning.specs.declared.who.Who.{Who}
use Rattle.bank_terms.specs.declared.rule.Rule.TheVariants as rule
use Rattle.book_laws.proofs.AccountAdded.{account_moves}
use Rattle.book_laws.proofs.BooksSplit.{books_parts}
use Rattle.book_laws.proofs.Kept.{kept_same}
use Rattle.counter_ops.specs.Operations.{IsOp}
use Rattle.counter_ops.specs.declared.new_account.NewAccount.{NewAccount}
use Rattle.counter_ops.specs.declared.op.Op.TheVariants as op
use Rattle.rule_tests.proofs.RuleTests.{source_of}
use Rattle.std.proofs.Common.{None, Option, Some, ap, false, refl, ℕ, ◌∙◌, ◌≡◌, subst, sym, ◌==◌, ◌≤◌}
use Rattle.std.specs.Prelude.{is_none, is_some, option_map, nat_le}
use Rattle.bank_books.specs.Books.{Books}
use Rattle.bank_books.specs.declared.rows.Branch.{Branch}
use Rattle.bank_meaning.specs.declared.opening_rows.OpeningRows.{OpeningRows}
use Rattle.bank_books.specs.Keys.{account_key, branch_key}
use Rattle.keyed_rows.proofs.Rows.{count_named, found_row}
use Rattle.std.proofs.lemmas.Bool.{eq-eqb}
use Rattle.bank_meaning.proofs.PassingParts.{limits_of, none_by, room_is_left}
use Rattle.bank_terms.specs.Limits.{max_accounts}

opens : (w : WorldLists) (form : NewAccount) → PassesChecks w → IsOp (op.NewAccount form) → first_against_new_account (opening_rows w form) ≡ None
    → IsStep w (new_account_effect w form) moves_nothing
opens w form checks proper is =
    let nothing = (account_moves w (opened form) (opened_is_next w form proper is) ((books_parts w).0 checks.books).0.rows).nothing in
    record {
      checks = passes w (new_account_effect w form) checks (in_order_written (write.Account (opened form)) w checks.in_order) refl (new_account_keeps_books w form checks.books proper is);
      branches = λ key. nothing.branch_balances key ∙ plus_zero (branch_balance w key);
      tellers = λ key. nothing.teller_balances key ∙ plus_zero (teller_balance w key);
      accounts = λ key. nothing.account_balances key ∙ plus_zero (account_balance w key);
      history = λ branch. none_more (entry_count branch w.entries);
      cash_entries = λ branch. plus_zero (cash_entry_total branch w.lines);
      stay = λ branch there. there;
      vaults = λ branch. refl;
      added = record { entries = kept_same w.entries; lines = kept_same w.lines; proofs = kept_same w.proofs };
    }

none_there : {A B : Type 0} (f : A → B) (o : Option A) → is_some (option_map f o) ≡ false → o ≡ None
none_there f None is = refl
none_there f (Some a) is = absurd cc

new_account_judged : (w : WorldLists) (who : Who) (moment : ℕ) (form : NewAccount) → NoneDenies w who moment (op.NewAccount form) → IsNewAccountJudged w form
new_account_judged w who moment form none =
    let homed = source_of (λ b. b.accounts) (branch_record w form.branch) (none rule.Unknown) in
    record {
      branch = branch_there w form.branch (ap is_none homed.1);
      new = none_there (account_record_of w) (account_row form.account w.accounts) (none rule.Taken);
    }

abbrev rows_found : WorldLists → Option Account → Option Branch → OpeningRows
rows_found w account branch = record { account = option_map (account_record_of w) account; homed = option_map (λ b. b.accounts) (option_map (branch_record_of w) branch) }

new_account_passes : (w : WorldLists) (form : NewAccount) → IsNewAccountJudged w form → Books (new_account_effect w form) → first_against_new_account (opening_rows w form) ≡ None
new_account_passes w form judged books =
    let row : Branch = judged.branch.0 in
    let found = found_row branch_key form.branch w.branches row judged.branch.1 in
    let homed = count_named account_key (λ a. a.home == row.branch) (opened form) w.accounts (eq-eqb form.branch row.branch (sym found.1)) in
    let few = ((limits_of (new_account_effect w form) books).branches row found.0).accounts in
    let room = room_is_left max_accounts (account_count row.branch w.accounts) (subst (λ n. n ≤ max_accounts) homed few) in
    subst (λ o. first_against_new_account (rows_found w o (branch_row form.branch w.branches)) ≡ None) (sym judged.new)
    (subst (λ o. first_against_new_account (rows_found w None o) ≡ None) (sym judged.branch.1)
    (none_by (nat_le max_accounts (account_count row.branch w.accounts)) rule.Full None room refl))

pub new_account_is_form : (form : NewAccount) → IsForm (op.NewAccount form)
new_account_is_form form = record {
  said = λ by w. refl;
  books_alone = λ rows by. record { each = (refl, tt) };
  no_slips = λ s by w. refl;
  asks = λ is. absurd cc;
  in_json = λ is rows by. refl;
  reports_ask = λ is. absurd cc;
  no_commands = λ rows by. refl;
  steps = λ by w checks proper signed none. opens w form checks proper none;
  judged = λ w who moment none. new_account_judged w who moment form none;
  denies_no_more = λ by w checks proper judged books. new_account_passes w form judged books;
  moves = none_within _;
  cash = λ is by w branch place. no_amount _;
  asked = λ by w judged. record { asked = refl; bear = (tt, tt); days = tt };
  replied = λ by w checks proper judged step. refl;
}

-- The laws of a question for a balance: it changes nothing.
use Rattle.bank_meaning.proofs.RepliedRows.{balance_replied}
use Rattle.std.proofs.Common.{refl, None, not, subst, sym, ◌≡◌}
use Rattle.bank_terms.specs.declared.rule.Rule.TheVariants as rule
use Rattle.bank_meaning.proofs.JudgedParts.{account_there}
use Rattle.counter_ops.specs.declared.op.Op.TheVariants as op
use Rattle.counter_ops.specs.declared.balance.Balance.{Balance}
use Rattle.bank_meaning.proofs.AmountParts.{no_amount}
use Rattle.bank_meaning.proofs.BookChanges.{none_at_all}
use Rattle.bank_meaning.proofs.IsForm.{IsForm}
use Rattle.bank_meaning.proofs.NoMoves.{none_within}
use Rattle.bank_meaning.proofs.Steps.{stands}
use Rattle.bank_meaning.specs.JudgedRows.{HasAccount}
use Rattle.bank_meaning.specs.Sums.{PassesChecks}
use Rattle.bank_books.specs.WorldLists.{WorldLists}
use Rattle.bank_books.specs.Keys.{account_key}
use Rattle.bank_books.specs.Records.{account_record, account_record_of}
use Rattle.bank_meaning.specs.Balance.{first_against_balance}
use Rattle.keyed_rows.proofs.Rows.{found_row}
use Rattle.money.specs.Range.{is_cents}
use Rattle.bank_meaning.proofs.PassingParts.{is_money, limits_of, none_by}
use Rattle.std.proofs.lemmas.Bool.{not_from_true}
use Rattle.std.specs.Prelude.{option_map}

balance_passes : (w : WorldLists) (form : Balance) → PassesChecks w → HasAccount w form.account → first_against_balance (account_record w form.account) ≡ None
balance_passes w form checks (row, there) =
    let found = found_row account_key form.account w.accounts row there in
    let cents = is_money (account_record_of w row).balance ((limits_of w checks.books).accounts row found.0).balance in
    subst (λ o. first_against_balance (option_map (account_record_of w) o) ≡ None) (sym there)
    (none_by (not (is_cents (account_record_of w row).balance)) rule.Range None (not_from_true _ cents) refl)

pub balance_is_form : (form : Balance) → IsForm (op.Balance form)
balance_is_form form = record {
  said = λ by w. refl;
  books_alone = λ rows by. none_at_all;
  no_slips = λ s by w. refl;
  asks = λ is. record { nothing = refl; silent = λ rows by. refl };
  in_json = λ is rows by. refl;
  reports_ask = λ is. absurd cc;
  no_commands = λ rows by. refl;
  steps = λ by w checks proper signed none. stands w checks;
  judged = λ w who moment none. account_there w form.account (none rule.Unknown);
  denies_no_more = λ by w checks proper judged books. balance_passes w form checks judged;
  moves = none_within 0;
  cash = λ is by w branch place. no_amount 0;
  asked = λ by w judged. record { asked = refl; bear = tt; days = tt };
  replied = λ by w checks proper judged step. balance_replied w form judged;
}

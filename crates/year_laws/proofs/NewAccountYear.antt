-- An account that is opened at the bank that goes on and at the next year's.
use Rattle.std.proofs.Common.{None, Option, Some, ap, false, refl, ◌≡◌}
use Rattle.std.specs.Prelude.{is_none, is_some, option_map}
use Rattle.bank_books.specs.Balances.{account_row}
use Rattle.bank_books.specs.Records.{account_record, account_record_of, branch_record}
use Rattle.bank_books.specs.WorldLists.{WorldLists}
use Rattle.bank_books.specs.declared.rows.Account.{Account}
use Rattle.counter_ops.specs.declared.new_account.NewAccount.{NewAccount}
use Rattle.counter_ops.specs.declared.op.Op.TheVariants as op
use Rattle.rule_tests.proofs.RuleTests.{passed_by}
use Rattle.bank_meaning.specs.Meaning.{ReplyText, json}
use Rattle.bank_meaning.specs.NewAccount.{first_against_new_account, new_account_effect, new_account_tests, opened, opening_rows}
use Rattle.year_laws.specs.GoesOn.{GoesOn, IsSameAccount, Turn}
use Rattle.year_laws.specs.StaysAlike.{StayAlike}
use Rattle.year_laws.proofs.AccountsAlike.{account_stays}
use Rattle.year_laws.proofs.AlikeRows.{homed_same, some_same}
use Rattle.year_laws.proofs.IsYearForm.{IsYearForm}
use Rattle.year_laws.proofs.TestParts.{AreTestsAlike, anew}

-- it is not there if the rule lets it pass
not_there : (w : WorldLists) (form : NewAccount) → first_against_new_account (opening_rows w form) ≡ None → account_row form.account w.accounts ≡ None
not_there w form none = go (account_row form.account w.accounts) (passed_by _ _ _ (passed_by _ _ _ none).1).0
  where
    go : (o : Option Account) → is_some (option_map (account_record_of w) o) ≡ false → o ≡ None
    go None free = refl
    go (Some a) free = absurd cc

module _ (t : Turn) (old new : WorldLists) (on : GoesOn t old new) where
  new_account_alike : (form : NewAccount) → AreTestsAlike (new_account_tests (opening_rows old form)) (new_account_tests (opening_rows new form))
  new_account_alike form = (
    refl,
    (λ z. ap is_none (homed_same (t.entries form.branch) (branch_record old form.branch) (branch_record new form.branch) (on.branches form.branch))),
    (
      refl,
      (λ z. some_same (IsSameAccount (t.turns form.account)) (account_record old form.account) (account_record new form.account) (on.accounts form.account)),
      (
        refl,
        (λ z. anew _ _ z),
        tt,
      ),
    ),
  )

module _ (t : Turn) (old new : WorldLists) (stay : StayAlike t old new) where
  new_account_stays : (form : NewAccount) → first_against_new_account (opening_rows old form) ≡ None → first_against_new_account (opening_rows new form) ≡ None
      → StayAlike t (new_account_effect old form) (new_account_effect new form)
  new_account_stays form old_none new_none = account_stays t old new stay (opened form) (not_there old form old_none) (not_there new form new_none)

pub new_account_in_years : (form : NewAccount) → IsYearForm (op.NewAccount form)
new_account_in_years form = record {
  tests = λ t old new on names by. new_account_alike t old new on form;
  replies = λ t old new on names by. refl;
  kept = λ t a b replied. ap (λ (r : ReplyText). json r.bytes) replied;
  stays = λ t old new stay names by old_none new_none. new_account_stays t old new stay form old_none new_none;
}

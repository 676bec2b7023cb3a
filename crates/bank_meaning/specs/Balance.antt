-- The question for a balance: the rules of the books against it, its reply and its meaning. It changes nothing.
use Rattle.std.specs.Prelude.{◌≡◌, ℕ, ℤ, Bool, false, not, is_none, List, [], ◌∷◌, ◌++◌, codes, Option}
use Rattle.std.specs.Option.{option_map_or}
use Rattle.std.specs.Fmt.{signed_decimal}
use Rattle.serde_json.specs.Data.{Data, object, member, no_members}
use Rattle.money.specs.Range.{is_cents}
use Rattle.bank_terms.specs.declared.rule.Rule.{Rule}
use Rattle.bank_terms.specs.declared.rule.Rule.TheVariants as rule
use Rattle.bank_books.specs.Balances.{account_balance}
use Rattle.bank_books.specs.Records.{account_record}
use Rattle.bank_books.specs.WorldLists.{WorldLists}
use Rattle.bank_books.specs.declared.records.AccountRecord.{AccountRecord}
use Rattle.counter_ops.specs.declared.balance.Balance.{Balance}
use Rattle.rule_tests.specs.Denial.{first_denial, is_denial}
use Rattle.bank_meaning.specs.JudgedRows.{HasAccount}
use Rattle.bank_meaning.specs.Form.{Form}
use Rattle.bank_meaning.specs.Moves.{moves_nothing}
use Rattle.bank_meaning.specs.Denial.{cents}
use Rattle.bank_meaning.specs.Meaning.{Meaning, json}

-- the rules of the books that a balance is judged by, in their order, each with whether it denies
abbrev pub balance_tests : Option AccountRecord → List (Rule × Bool)
balance_tests row =
    (rule.Unknown, is_none row)
    ∷ (rule.Range, option_map_or (λ a. not (is_cents a.balance)) row false)
    ∷ []

abbrev pub first_against_balance : Option AccountRecord → Option Rule
first_against_balance row = first_denial (balance_tests row)

unfoldable pub balance_text : ℤ → List ℕ
balance_text z = codes "{\"balance\":" ++ signed_decimal z ++ codes "}"

-- the JSON value of the reply
abbrev pub balance_data : ℤ → Data
balance_data z = object (member (codes "balance") (cents z) no_members)

-- all that it is
abbrev pub balance_form : Balance → Form
balance_form form = record {
  Rows = Option AccountRecord;
  rows = λ by w. account_record w form.account;
  tests = λ rows by. balance_tests rows;
  changes = λ rows by. [];
  reply = λ rows by. json (option_map_or (λ a. balance_text a.balance) rows []);
  is_report = false;
  moves = moves_nothing;
  IsJudged = λ w user. HasAccount w form.account;
  AreAsked = λ w rows. rows ≡ [];
  IsReplied = λ by before after rows text. text ≡ json (balance_text (account_balance after form.account));
}

abbrev pub balance_meaning : Balance → WorldLists → Meaning
balance_meaning form w = record {
  denies = λ r. is_denial r (balance_tests (account_record w form.account));
  effect = w;
  reply = json (option_map_or (λ a. balance_text a.balance) (account_record w form.account) []);
}

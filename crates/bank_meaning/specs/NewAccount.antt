-- An account that is opened: the rows that it is judged on, the rules of the books against it, its effect, its reply and its meaning.
use Rattle.bank_books.specs.declared.row_write.RowWrite.{RowWrite}
use Rattle.std.specs.Prelude.{ℕ, pos, Bool, false, nat_le, is_none, is_some, List, [], ◌∷◌, ◌++◌, codes, decimal, Option, option_map}
use Rattle.bank_terms.specs.Limits.{max_accounts}
use Rattle.std.specs.Option.{option_map_or}
use Rattle.serde_json.specs.Data.{Data, object, member, no_members}
use Rattle.keyed_rows.specs.Ordered.{add_row}
use Rattle.bank_terms.specs.declared.rule.Rule.{Rule}
use Rattle.bank_terms.specs.declared.rule.Rule.TheVariants as rule
use Rattle.counter_ops.specs.declared.new_account.NewAccount.{NewAccount}
use Rattle.bank_books.specs.Keys.{account_key}
use Rattle.bank_books.specs.Records.{account_record, branch_record}
use Rattle.bank_books.specs.WorldLists.{WorldLists}
use Rattle.bank_books.specs.declared.rows.Account.{Account}
use Rattle.rule_tests.specs.Denial.{first_denial, is_denial}
use Rattle.bank_books.specs.declared.row_write.RowWrite.TheVariants as write
use Rattle.bank_meaning.specs.Form.{Form}
use Rattle.bank_meaning.specs.Moves.{moves_nothing}
use Rattle.bank_meaning.specs.Denial.{natural}
use Rattle.bank_meaning.specs.Meaning.{Meaning, json}
use Rattle.bank_meaning.specs.declared.opening_rows.OpeningRows.{OpeningRows}
use Rattle.bank_books.specs.Balances.{account_row}
use Rattle.bank_meaning.specs.JudgedRows.{HasBranch}
use Rattle.std.specs.Prelude.{◌≡◌, None}

-- the account that is there already, and how many accounts its home has
abbrev pub opening_rows : WorldLists → NewAccount → OpeningRows
opening_rows w form = record { account = account_record w form.account; homed = option_map (λ b. b.accounts) (branch_record w form.branch) }

-- the rules of the books that the opening of an account is judged by, in their order, each with whether it denies
abbrev pub new_account_tests : OpeningRows → List (Rule × Bool)
new_account_tests rows =
    (rule.Unknown, is_none rows.homed)
    ∷ (rule.Taken, is_some rows.account)
    ∷ (rule.Full, option_map_or (λ n. nat_le max_accounts n) rows.homed false)
    ∷ []

-- the first of them that denies
abbrev pub first_against_new_account : OpeningRows → Option Rule
first_against_new_account rows = first_denial (new_account_tests rows)

-- an account with nothing in it
abbrev pub opened : NewAccount → Account
opened form = record { account = form.account; home = form.branch; opening = pos 0; floor = form.floor }

-- the World with it at its place
abbrev pub new_account_effect : WorldLists → NewAccount → WorldLists
new_account_effect w form = record w { accounts = add_row account_key (opened form) w.accounts }

unfoldable pub opened_text : NewAccount → List ℕ
opened_text form = codes "{\"account\":" ++ decimal form.account ++ codes ",\"branch\":" ++ decimal form.branch ++ codes "}"

-- the JSON value of the reply
abbrev pub opened_data : NewAccount → Data
opened_data form = object (member (codes "account") (natural form.account) (member (codes "branch") (natural form.branch) no_members))

pub record IsNewAccountJudged (w : WorldLists) (form : NewAccount) : Type 0 where
  pub branch : HasBranch w form.branch
  pub new : account_row form.account w.accounts ≡ None

-- the account, with its home and its floor and with nothing in it
abbrev pub AreNewAccountAsked : NewAccount → List RowWrite → Type 0
AreNewAccountAsked form rows = rows ≡ write.Account (record { account = form.account; home = form.branch; opening = pos 0; floor = form.floor }) ∷ []

-- all that it is
abbrev pub new_account_form : NewAccount → Form
new_account_form form = record {
  Rows = OpeningRows;
  rows = λ by w. opening_rows w form;
  tests = λ rows by. new_account_tests rows;
  changes = λ rows by. write.Account (opened form) ∷ [];
  reply = λ rows by. json (opened_text form);
  is_report = false;
  moves = moves_nothing;
  IsJudged = λ w user. IsNewAccountJudged w form;
  AreAsked = λ w rows. AreNewAccountAsked form rows;
  -- the account and its home
  IsReplied = λ by before after rows text. text ≡ json (opened_text form);
}

abbrev pub new_account_meaning : NewAccount → WorldLists → Meaning
new_account_meaning form w = record {
  denies = λ r. is_denial r (new_account_tests (opening_rows w form));
  effect = new_account_effect w form;
  reply = json (opened_text form);
}

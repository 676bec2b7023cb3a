-- The question for a statement: the rules of the books against it, its reply and its meaning. It changes nothing.
use Rattle.std.specs.Prelude.{◌≡◌, Bool, is_none, [], ◌∷◌, Option, List}
use Rattle.bank_terms.specs.declared.rule.Rule.{Rule}
use Rattle.bank_terms.specs.declared.rule.Rule.TheVariants as rule
use Rattle.bank_books.specs.Records.{account_record}
use Rattle.bank_books.specs.WorldLists.{WorldLists}
use Rattle.bank_books.specs.declared.records.AccountRecord.{AccountRecord}
use Rattle.counter_ops.specs.declared.statement.Statement.{Statement}
use Rattle.rule_tests.specs.Denial.{first_denial, is_denial}
use Rattle.reports.specs.Listing.{report_text}
use Rattle.reports.specs.declared.listing.Listing.{Listing}
use Rattle.reports.specs.declared.listing.Listing.TheVariants as listing
use Rattle.std.specs.Prelude.{ℕ, true}
use Rattle.bank_meaning.specs.JudgedRows.{HasAccount}
use Rattle.bank_meaning.specs.Form.{Form}
use Rattle.bank_meaning.specs.Moves.{moves_nothing}
use Rattle.bank_meaning.specs.Meaning.{Meaning, plain}

-- the rules of the books that a statement is judged by, in their order, each with whether it denies
abbrev pub statement_tests : Option AccountRecord → List (Rule × Bool)
statement_tests row =
    (rule.Unknown, is_none row)
    ∷ []

abbrev pub first_against_statement : Option AccountRecord → Option Rule
first_against_statement row = first_denial (statement_tests row)

-- the entries that it lists
abbrev pub statement_of : Statement → Listing
statement_of form = listing.Statement (record { account = form.account; turn = form.start })

-- all that it is
abbrev pub statement_form : Statement → Form
statement_form form = record {
  Rows = Option AccountRecord × List ℕ;
  rows = λ by w. (account_record w form.account, report_text w (statement_of form) form.count);
  tests = λ rows by. statement_tests rows.0;
  changes = λ rows by. [];
  reply = λ rows by. plain rows.1;
  is_report = true;
  moves = moves_nothing;
  IsJudged = λ w user. HasAccount w form.account;
  AreAsked = λ w rows. rows ≡ [];
  IsReplied = λ by before after rows text. text ≡ plain (report_text before (statement_of form) form.count);
}

abbrev pub statement_meaning : Statement → WorldLists → Meaning
statement_meaning form w = record {
  denies = λ r. is_denial r (statement_tests (account_record w form.account));
  effect = w;
  reply = plain (report_text w (statement_of form) form.count);
}

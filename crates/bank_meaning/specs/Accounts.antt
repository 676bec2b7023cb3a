-- The question for a list of accounts: its reply and its meaning. No rule of the books denies it, and it changes nothing.
use Rattle.bank_books.specs.WorldLists.{WorldLists}
use Rattle.bank_books.specs.declared.signature.Signature.{Signature}
use Rattle.counter_ops.specs.declared.accounts.Accounts.{Accounts}
use Rattle.reports.specs.Listing.{report_text}
use Rattle.reports.specs.declared.listing.Listing.{Listing}
use Rattle.reports.specs.declared.listing.Listing.TheVariants as listing
use Rattle.std.specs.Prelude.{◌≡◌, ℕ, List, [], true, ⊤}
use Rattle.bank_meaning.specs.Form.{Form, said_by}
use Rattle.bank_meaning.specs.Moves.{moves_nothing}
use Rattle.bank_meaning.specs.Meaning.{Meaning, plain}

-- the accounts that it lists to the user who asks, by their triples that are valid at the moment
abbrev pub accounts_of : Accounts → Signature → Listing
accounts_of form by = listing.Accounts (record { user = by.user; after = form.after; moment = by.moment })

-- all that it is
abbrev pub accounts_form : Accounts → Form
accounts_form form = record {
  Rows = List ℕ;
  rows = λ by w. report_text w (accounts_of form by) form.count;
  tests = λ rows by. [];
  changes = λ rows by. [];
  reply = λ rows by. plain rows;
  is_report = true;
  moves = moves_nothing;
  IsJudged = λ w user. ⊤;
  AreAsked = λ w rows. rows ≡ [];
  IsReplied = λ by before after rows text. text ≡ plain (report_text before (accounts_of form by) form.count);
}

abbrev pub accounts_meaning : Accounts → Signature → WorldLists → Meaning
accounts_meaning form by w = said_by (accounts_form form) by w

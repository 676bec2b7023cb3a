-- A question for a statement at the bank that goes on and at the next year's.
use Rattle.std.proofs.Common.{refl, ℕ}
use Rattle.bank_books.specs.Records.{account_record}
use Rattle.bank_books.specs.WorldLists.{WorldLists}
use Rattle.counter_ops.specs.declared.op.Op.TheVariants as op
use Rattle.counter_ops.specs.declared.statement.Statement.{Statement}
use Rattle.bank_meaning.specs.Statement.{statement_tests}
use Rattle.year_laws.specs.GoesOn.{GoesOn, Turn}
use Rattle.year_laws.proofs.IsYearForm.{IsYearForm}
use Rattle.year_laws.proofs.TestParts.{AreTestsAlike, no_account}

module _ (t : Turn) (old new : WorldLists) (on : GoesOn t old new) where
  statement_alike : (key : ℕ) → AreTestsAlike (statement_tests (account_record old key)) (statement_tests (account_record new key))
  statement_alike key = (refl, (λ z. no_account on key), tt)

pub statement_in_years : (form : Statement) → IsYearForm (op.Statement form)
statement_in_years form = record {
  tests = λ t old new on names by. statement_alike t old new on form.account;
  replies = λ t old new on names by. tt;
  kept = λ t a b replied. tt;
  stays = λ t old new stay names by old_none new_none. stay;
}

-- A question for accounts at the bank that goes on and at the next year's.
use Rattle.counter_ops.specs.declared.accounts.Accounts.{Accounts}
use Rattle.counter_ops.specs.declared.op.Op.TheVariants as op
use Rattle.year_laws.proofs.IsYearForm.{IsYearForm}

pub accounts_in_years : (form : Accounts) → IsYearForm (op.Accounts form)
accounts_in_years form = record {
  tests = λ t old new on names by. tt;
  replies = λ t old new on names by. tt;
  kept = λ t a b replied. tt;
  stays = λ t old new stay names by old_none new_none. stay;
}

use Rattle.std.proofs.Common.{◌≡◌, None, refl}
use Rattle.bank_meaning.specs.Accounts.{accounts_meaning}
use Rattle.bank_meaning.specs.Meaning.{by_books}
use Rattle.op_prepare.proofs.CountedDenials.{none_denies}
use Rattle.op_prepare.proofs.accounts.prepare_accounts.Goals as goal

-- no rule of the books denies it
pub returns-in_err-contents-clause-denied : goal.returns-in_err-contents-clause-denied
returns-in_err-contents-clause-denied g c = λ honest w holds some.
    let none : (by_books (accounts_meaning c.args.form.now c.args.by w)).first ≡ None = refl in
    none_denies _ none some

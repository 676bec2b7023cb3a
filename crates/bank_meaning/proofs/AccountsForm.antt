-- The laws of a question for accounts: it changes nothing.
use Rattle.std.proofs.Common.{refl}
use Rattle.counter_ops.specs.declared.op.Op.TheVariants as op
use Rattle.counter_ops.specs.declared.accounts.Accounts.{Accounts}
use Rattle.bank_meaning.proofs.AmountParts.{no_amount}
use Rattle.bank_meaning.proofs.BookChanges.{none_at_all}
use Rattle.bank_meaning.proofs.IsForm.{IsForm}
use Rattle.bank_meaning.proofs.NoMoves.{none_within}
use Rattle.bank_meaning.proofs.Steps.{stands}

pub accounts_is_form : (form : Accounts) → IsForm (op.Accounts form)
accounts_is_form form = record {
  said = λ by w. refl;
  books_alone = λ rows by. none_at_all;
  no_slips = λ s by w. refl;
  asks = λ is. record { nothing = refl; silent = λ rows by. refl };
  in_json = λ is rows by. absurd cc;
  reports_ask = λ is. refl;
  no_commands = λ rows by. refl;
  steps = λ by w checks proper signed none. stands w checks;
  judged = λ w who moment none. tt;
  denies_no_more = λ by w checks proper judged books. refl;
  moves = none_within 0;
  cash = λ is by w branch place. no_amount 0;
  asked = λ by w judged. record { asked = refl; bear = tt; days = tt };
  replied = λ by w checks proper judged step. refl;
}

-- The laws of each operation: one line a form.
use Rattle.counter_ops.specs.declared.op.Op.{Op}
use Rattle.counter_ops.specs.declared.op.Op.TheVariants as op
use Rattle.bank_meaning.proofs.AccountsForm.{accounts_is_form}
use Rattle.bank_meaning.proofs.BalanceForm.{balance_is_form}
use Rattle.bank_meaning.proofs.CloseDayForm.{close_day_is_form}
use Rattle.bank_meaning.proofs.CorrectForm.{correct_is_form}
use Rattle.bank_meaning.proofs.DrawerOffForm.{drawer_off_is_form}
use Rattle.bank_meaning.proofs.DrawerOnForm.{drawer_on_is_form}
use Rattle.bank_meaning.proofs.MoveCashForm.{move_cash_is_form}
use Rattle.bank_meaning.proofs.NewAccountForm.{new_account_is_form}
use Rattle.bank_meaning.proofs.PostForm.{post_is_form}
use Rattle.bank_meaning.proofs.ProofForm.{proof_is_form}
use Rattle.bank_meaning.proofs.ReleaseForm.{release_is_form}
use Rattle.bank_meaning.proofs.StatementForm.{statement_is_form}
use Rattle.bank_meaning.proofs.TransferForm.{transfer_is_form}
use Rattle.bank_meaning.proofs.IsForm.{IsForm}

pub law_of : (o : Op) → IsForm o
law_of (op.Post form) = post_is_form form
law_of (op.Transfer form) = transfer_is_form form
law_of (op.Correct form) = correct_is_form form
law_of (op.DrawerOn form) = drawer_on_is_form form
law_of (op.DrawerOff form) = drawer_off_is_form form
law_of (op.MoveCash form) = move_cash_is_form form
law_of (op.NewAccount form) = new_account_is_form form
law_of (op.Release form) = release_is_form form
law_of (op.Balance form) = balance_is_form form
law_of (op.Statement form) = statement_is_form form
law_of (op.Accounts form) = accounts_is_form form
law_of (op.Proof form) = proof_is_form form
law_of (op.CloseDay form) = close_day_is_form form

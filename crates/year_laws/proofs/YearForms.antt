-- The laws of each operation at both banks: one line a form.
use Rattle.counter_ops.specs.declared.op.Op.{Op}
use Rattle.counter_ops.specs.declared.op.Op.TheVariants as op
use Rattle.year_laws.proofs.AccountsYear.{accounts_in_years}
use Rattle.year_laws.proofs.BalanceYear.{balance_in_years}
use Rattle.year_laws.proofs.CloseDayYear.{close_day_in_years}
use Rattle.year_laws.proofs.CorrectYear.{correct_in_years}
use Rattle.year_laws.proofs.DrawerOffYear.{drawer_off_in_years}
use Rattle.year_laws.proofs.DrawerOnYear.{drawer_on_in_years}
use Rattle.year_laws.proofs.MoveCashYear.{move_cash_in_years}
use Rattle.year_laws.proofs.NewAccountYear.{new_account_in_years}
use Rattle.year_laws.proofs.PostYear.{post_in_years}
use Rattle.year_laws.proofs.ProofYear.{proof_in_years}
use Rattle.year_laws.proofs.ReleaseYear.{release_in_years}
use Rattle.year_laws.proofs.StatementYear.{statement_in_years}
use Rattle.year_laws.proofs.TransferYear.{transfer_in_years}
use Rattle.year_laws.proofs.IsYearForm.{IsYearForm}

pub year_of : (o : Op) → IsYearForm o
year_of (op.Post form) = post_in_years form
year_of (op.Transfer form) = transfer_in_years form
year_of (op.Correct form) = correct_in_years form
year_of (op.DrawerOn form) = drawer_on_in_years form
year_of (op.DrawerOff form) = drawer_off_in_years form
year_of (op.MoveCash form) = move_cash_in_years form
year_of (op.NewAccount form) = new_account_in_years form
year_of (op.Release form) = release_in_years form
year_of (op.Balance form) = balance_in_years form
year_of (op.Statement form) = statement_in_years form
year_of (op.Accounts form) = accounts_in_years form
year_of (op.Proof form) = proof_in_years form
year_of (op.CloseDay form) = close_day_in_years form

-- The laws of each operation in two Worlds: one line a form.
use Rattle.counter_ops.specs.declared.op.Op.{Op}
use Rattle.counter_ops.specs.declared.op.Op.TheVariants as op
use Rattle.two_worlds.proofs.AccountsLocal.{accounts_is_local}
use Rattle.two_worlds.proofs.BalanceLocal.{balance_is_local}
use Rattle.two_worlds.proofs.CloseDayLocal.{close_day_is_local}
use Rattle.two_worlds.proofs.CorrectLocal.{correct_is_local}
use Rattle.two_worlds.proofs.DrawerOffLocal.{drawer_off_is_local}
use Rattle.two_worlds.proofs.DrawerOnLocal.{drawer_on_is_local}
use Rattle.two_worlds.proofs.MoveCashLocal.{move_cash_is_local}
use Rattle.two_worlds.proofs.NewAccountLocal.{new_account_is_local}
use Rattle.two_worlds.proofs.PostLocal.{post_is_local}
use Rattle.two_worlds.proofs.ProofLocal.{proof_is_local}
use Rattle.two_worlds.proofs.ReleaseLocal.{release_is_local}
use Rattle.two_worlds.proofs.StatementLocal.{statement_is_local}
use Rattle.two_worlds.proofs.TransferLocal.{transfer_is_local}
use Rattle.two_worlds.proofs.IsLocalForm.{IsLocalForm}

pub local_of : (o : Op) → IsLocalForm o
local_of (op.Post form) = post_is_local form
local_of (op.Transfer form) = transfer_is_local form
local_of (op.Correct form) = correct_is_local form
local_of (op.DrawerOn form) = drawer_on_is_local form
local_of (op.DrawerOff form) = drawer_off_is_local form
local_of (op.MoveCash form) = move_cash_is_local form
local_of (op.NewAccount form) = new_account_is_local form
local_of (op.Release form) = release_is_local form
local_of (op.Balance form) = balance_is_local form
local_of (op.Statement form) = statement_is_local form
local_of (op.Accounts form) = accounts_is_local form
local_of (op.Proof form) = proof_is_local form
local_of (op.CloseDay form) = close_day_is_local form

-- An operation whose members lie in their ranges, and differ where they have to.
use Rattle.counter_ops.specs.declared.op.Op.{Op}
use Rattle.counter_ops.specs.declared.op.Op.TheVariants as op
use Rattle.row_members.specs.Ranges.{IsKey}
use Rattle.counter_ops.specs.Post.{IsPost}
use Rattle.counter_ops.specs.Transfer.{IsTransfer}
use Rattle.counter_ops.specs.Correct.{IsCorrect}
use Rattle.counter_ops.specs.DrawerOn.{IsDrawerOn}
use Rattle.counter_ops.specs.DrawerOff.{IsDrawerOff}
use Rattle.counter_ops.specs.MoveCash.{IsMoveCash}
use Rattle.counter_ops.specs.NewAccount.{IsNewAccount}
use Rattle.counter_ops.specs.Statement.{IsStatement}
use Rattle.counter_ops.specs.Accounts.{IsAccounts}
use Rattle.counter_ops.specs.Release.{IsRelease}

-- an operation whose members lie in their ranges
abbrev pub IsOp : Op → Type 0
IsOp (op.Post post) = IsPost post
IsOp (op.Transfer transfer) = IsTransfer transfer
IsOp (op.Correct correct) = IsCorrect correct
IsOp (op.DrawerOn drawer_on) = IsDrawerOn drawer_on
IsOp (op.DrawerOff drawer_off) = IsDrawerOff drawer_off
IsOp (op.MoveCash move_cash) = IsMoveCash move_cash
IsOp (op.NewAccount new_account) = IsNewAccount new_account
IsOp (op.Release release) = IsRelease release
IsOp (op.Balance balance) = IsKey balance.account
IsOp (op.Statement statement) = IsStatement statement
IsOp (op.Accounts accounts) = IsAccounts accounts
IsOp (op.Proof proof) = IsKey proof.branch
IsOp (op.CloseDay close_day) = IsKey close_day.branch

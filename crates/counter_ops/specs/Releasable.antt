-- An operation that a release may be for: its ranges, its branch, the same operation asked for and not released, and its numbers.
use Rattle.std.specs.Prelude.{ℕ, ℤ, List}
use Rattle.counter_ops.specs.declared.releasable.Releasable.{Releasable}
use Rattle.counter_ops.specs.declared.releasable.Releasable.TheVariants as releasable
use Rattle.counter_ops.specs.declared.op.Op.{Op}
use Rattle.counter_ops.specs.declared.op.Op.TheVariants as op
use Rattle.counter_ops.specs.Post.{IsPost, post_numbers}
use Rattle.counter_ops.specs.Transfer.{IsTransfer, transfer_numbers}
use Rattle.counter_ops.specs.Correct.{IsCorrect, correct_numbers}
use Rattle.counter_ops.specs.DrawerOn.{IsDrawerOn, drawer_on_numbers}
use Rattle.counter_ops.specs.MoveCash.{IsMoveCash, move_cash_numbers}

-- the branch of it, whose day a release for it bears
abbrev pub branch_of : Releasable → ℕ
branch_of (releasable.Post post) = post.branch
branch_of (releasable.Transfer transfer) = transfer.branch
branch_of (releasable.Correct correct) = correct.branch
branch_of (releasable.DrawerOn drawer_on) = drawer_on.branch
branch_of (releasable.MoveCash move_cash) = move_cash.branch

abbrev pub IsReleasable : Releasable → Type 0
IsReleasable (releasable.Post post) = IsPost post
IsReleasable (releasable.Transfer transfer) = IsTransfer transfer
IsReleasable (releasable.Correct correct) = IsCorrect correct
IsReleasable (releasable.DrawerOn drawer_on) = IsDrawerOn drawer_on
IsReleasable (releasable.MoveCash move_cash) = IsMoveCash move_cash

abbrev pub releasable_numbers : Releasable → List ℤ
releasable_numbers (releasable.Post post) = post_numbers post
releasable_numbers (releasable.Transfer transfer) = transfer_numbers transfer
releasable_numbers (releasable.Correct correct) = correct_numbers correct
releasable_numbers (releasable.DrawerOn drawer_on) = drawer_on_numbers drawer_on
releasable_numbers (releasable.MoveCash move_cash) = move_cash_numbers move_cash

-- the same operation, asked for and not released
abbrev pub op_of : Releasable → Op
op_of (releasable.Post post) = op.Post post
op_of (releasable.Transfer transfer) = op.Transfer transfer
op_of (releasable.Correct correct) = op.Correct correct
op_of (releasable.DrawerOn drawer_on) = op.DrawerOn drawer_on
op_of (releasable.MoveCash move_cash) = op.MoveCash move_cash

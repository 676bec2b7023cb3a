-- An operation as a row of the books holds it: the numbers of its members in the order in which its form names them,
-- with 0 after the last. A release holds whom it is for, and then the row of the operation that it is for.
use Rattle.std.specs.Prelude.{ℤ, List}
use Rattle.counter_ops.specs.declared.op.Op.{Op}
use Rattle.counter_ops.specs.declared.op.Op.TheVariants as op
use Rattle.bank_terms.specs.declared.operation_row.OperationRow.{OperationRow}
use Rattle.row_members.specs.Places.{places, key_numbers}
use Rattle.counter_ops.specs.Op.{procedure_of}
use Rattle.counter_ops.specs.Post.{post_numbers}
use Rattle.counter_ops.specs.Transfer.{transfer_numbers}
use Rattle.counter_ops.specs.Correct.{correct_numbers}
use Rattle.counter_ops.specs.DrawerOn.{drawer_on_numbers}
use Rattle.counter_ops.specs.DrawerOff.{drawer_off_numbers}
use Rattle.counter_ops.specs.MoveCash.{move_cash_numbers}
use Rattle.counter_ops.specs.NewAccount.{new_account_numbers}
use Rattle.counter_ops.specs.Statement.{statement_numbers}
use Rattle.counter_ops.specs.Accounts.{accounts_numbers}
use Rattle.counter_ops.specs.Release.{release_numbers}

abbrev pub op_numbers : Op → List ℤ
op_numbers (op.Post post) = post_numbers post
op_numbers (op.Transfer transfer) = transfer_numbers transfer
op_numbers (op.Correct correct) = correct_numbers correct
op_numbers (op.DrawerOn drawer_on) = drawer_on_numbers drawer_on
op_numbers (op.DrawerOff drawer_off) = drawer_off_numbers drawer_off
op_numbers (op.MoveCash move_cash) = move_cash_numbers move_cash
op_numbers (op.NewAccount new_account) = new_account_numbers new_account
op_numbers (op.Release release) = release_numbers release
op_numbers (op.Balance balance) = key_numbers balance.account
op_numbers (op.Statement statement) = statement_numbers statement
op_numbers (op.Accounts accounts) = accounts_numbers accounts
op_numbers (op.Proof proof) = key_numbers proof.branch
op_numbers (op.CloseDay close_day) = key_numbers close_day.branch

-- the row of an operation
abbrev pub row_of : Op → OperationRow
row_of op = record { form = procedure_of op; members = places (op_numbers op) }

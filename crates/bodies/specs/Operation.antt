-- The operation that a value states for a procedure, and that the bytes of a body state.
use Rattle.std.specs.Prelude.{ℕ, List, Option, option_and_then, option_map}
use Rattle.serde_json.specs.Data.{Data}
use Rattle.bank_terms.specs.declared.procedure.Procedure.{Procedure}
use Rattle.bank_terms.specs.declared.procedure.Procedure.TheVariants as procedure
use Rattle.counter_ops.specs.declared.op.Op.{Op}
use Rattle.counter_ops.specs.declared.op.Op.TheVariants as op
use Rattle.bodies.specs.Post.{post_of}
use Rattle.bodies.specs.Transfer.{transfer_of}
use Rattle.bodies.specs.Correct.{correct_of}
use Rattle.bodies.specs.DrawerOn.{drawer_on_of}
use Rattle.bodies.specs.DrawerOff.{drawer_off_of}
use Rattle.bodies.specs.MoveCash.{move_cash_of}
use Rattle.bodies.specs.NewAccount.{new_account_of}
use Rattle.bodies.specs.Balance.{balance_of}
use Rattle.bodies.specs.Statement.{statement_of}
use Rattle.bodies.specs.Accounts.{accounts_of}
use Rattle.bodies.specs.Proof.{proof_of}
use Rattle.bodies.specs.CloseDay.{close_day_of}
use Rattle.bodies.specs.Release.{release_of}
use Rattle.bodies.specs.Body.{value_of}

-- the operation that a value states for a procedure
abbrev pub op_of : Procedure → Data → Option Op
op_of procedure.Post value = option_map op.Post (post_of 0 value)
op_of procedure.Transfer value = option_map op.Transfer (transfer_of 0 value)
op_of procedure.Correct value = option_map op.Correct (correct_of 0 value)
op_of procedure.DrawerOn value = option_map op.DrawerOn (drawer_on_of 0 value)
op_of procedure.DrawerOff value = option_map op.DrawerOff (drawer_off_of value)
op_of procedure.MoveCash value = option_map op.MoveCash (move_cash_of 0 value)
op_of procedure.NewAccount value = option_map op.NewAccount (new_account_of value)
op_of procedure.Release value = option_map op.Release (release_of value)
op_of procedure.Balance value = option_map op.Balance (balance_of value)
op_of procedure.Statement value = option_map op.Statement (statement_of value)
op_of procedure.Accounts value = option_map op.Accounts (accounts_of value)
op_of procedure.Proof value = option_map op.Proof (proof_of value)
op_of procedure.CloseDay value = option_map op.CloseDay (close_day_of value)

-- the operation that the bytes of a body state for a procedure
abbrev pub stated_op : Procedure → List ℕ → Option Op
stated_op chosen bytes = option_and_then (op_of chosen) (value_of bytes)

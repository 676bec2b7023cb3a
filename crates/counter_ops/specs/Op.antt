-- The procedure that an operation is an execution of.
use Rattle.bank_terms.specs.declared.procedure.Procedure.{Procedure}
use Rattle.bank_terms.specs.declared.procedure.Procedure.TheVariants as procedure
use Rattle.counter_ops.specs.declared.op.Op.{Op}
use Rattle.counter_ops.specs.declared.op.Op.TheVariants as op

abbrev pub procedure_of : Op → Procedure
procedure_of (op.Post _) = procedure.Post
procedure_of (op.Transfer _) = procedure.Transfer
procedure_of (op.Correct _) = procedure.Correct
procedure_of (op.DrawerOn _) = procedure.DrawerOn
procedure_of (op.DrawerOff _) = procedure.DrawerOff
procedure_of (op.MoveCash _) = procedure.MoveCash
procedure_of (op.NewAccount _) = procedure.NewAccount
procedure_of (op.Release _) = procedure.Release
procedure_of (op.Balance _) = procedure.Balance
procedure_of (op.Statement _) = procedure.Statement
procedure_of (op.Accounts _) = procedure.Accounts
procedure_of (op.Proof _) = procedure.Proof
procedure_of (op.CloseDay _) = procedure.CloseDay

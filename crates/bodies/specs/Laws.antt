-- What a body states lies in its ranges: each member of an operation, and each of a command.
use Rattle.std.specs.Prelude.{ℕ, List, IfSome}
use Rattle.bank_terms.specs.declared.procedure.Procedure.{Procedure}
use Rattle.counter_ops.specs.Operations.{IsOp}
use Rattle.policy_commands.specs.Ranges.{IsPolicyOp}
use Rattle.policy_commands.specs.declared.command.Command.{Command}
use Rattle.bodies.specs.Command.{stated_command}
use Rattle.bodies.specs.Operation.{stated_op}

abbrev pub OperationsAreInRange : Type 0
OperationsAreInRange = (procedure : Procedure) (body : List ℕ) → IfSome (stated_op procedure body) IsOp

abbrev pub CommandsAreInRange : Type 0
CommandsAreInRange = (command : Command) (body : List ℕ) → IfSome (stated_command command body) IsPolicyOp

use Rattle.bodies.proofs.CommandsInRange.{commands_in_range}
use Rattle.bodies.proofs.OperationsInRange.{operations_in_range}
use Rattle.bodies.proofs.laws.what_is_stated_is_in_range.Goals as goal

pub returns-clause-operations : goal.returns-clause-operations
returns-clause-operations c = operations_in_range

pub returns-clause-commands : goal.returns-clause-commands
returns-clause-commands c = commands_in_range

-- Which command of the policy is asked for.
use Rattle.policy_commands.specs.declared.command.Command.{Command}
use Rattle.policy_commands.specs.declared.command.Command.TheVariants as command
use Rattle.policy_commands.specs.declared.policy_op.PolicyOp.{PolicyOp}
use Rattle.policy_commands.specs.declared.policy_op.PolicyOp.TheVariants as asked

abbrev pub command_of : PolicyOp → Command
command_of (asked.DefineSet _) = command.DefineSet
command_of (asked.Certify _) = command.Certify
command_of (asked.Withdraw _) = command.Withdraw
command_of (asked.Grant _) = command.Grant
command_of (asked.Revoke _) = command.Revoke
command_of (asked.Appoint _) = command.Appoint
command_of (asked.Dismiss _) = command.Dismiss
command_of (asked.Enrol _) = command.Enrol
command_of (asked.Suspend _) = command.Suspend
command_of (asked.Restore _) = command.Restore

-- The command that a value states, and that the bytes of a body state.
use Rattle.std.specs.Prelude.{ℕ, List, Option, option_and_then, option_map}
use Rattle.serde_json.specs.Data.{Data}
use Rattle.policy_commands.specs.declared.command.Command.{Command}
use Rattle.policy_commands.specs.declared.command.Command.TheVariants as command
use Rattle.policy_commands.specs.declared.policy_op.PolicyOp.{PolicyOp}
use Rattle.policy_commands.specs.declared.policy_op.PolicyOp.TheVariants as asked
use Rattle.bodies.specs.Body.{value_of}
use Rattle.bodies.specs.Certifier.{certifier_of}
use Rattle.bodies.specs.Enrolment.{enrolment_of}
use Rattle.bodies.specs.ItemSet.{item_set_of}
use Rattle.bodies.specs.Relation.{relation_of}
use Rattle.bodies.specs.Triple.{triple_of}
use Rattle.bodies.specs.TripleKey.{triple_key_of}
use Rattle.bodies.specs.UserKey.{user_key_of}

-- what a value states for a command
abbrev pub policy_op_of : Command → Data → Option PolicyOp
policy_op_of command.DefineSet value = option_map asked.DefineSet (item_set_of value)
policy_op_of command.Certify value = option_map asked.Certify (relation_of value)
policy_op_of command.Withdraw value = option_map asked.Withdraw (relation_of value)
policy_op_of command.Grant value = option_map asked.Grant (triple_of value)
policy_op_of command.Revoke value = option_map asked.Revoke (triple_key_of value)
policy_op_of command.Appoint value = option_map asked.Appoint (certifier_of value)
policy_op_of command.Dismiss value = option_map asked.Dismiss (certifier_of value)
policy_op_of command.Enrol value = option_map asked.Enrol (enrolment_of value)
policy_op_of command.Suspend value = option_map asked.Suspend (user_key_of value)
policy_op_of command.Restore value = option_map asked.Restore (user_key_of value)

-- what the bytes of a body state for a command
abbrev pub stated_command : Command → List ℕ → Option PolicyOp
stated_command chosen bytes = option_and_then (policy_op_of chosen) (value_of bytes)

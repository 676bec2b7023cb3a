-- A command of the policy as a request: the rules against it, its reply and its meaning. What it is judged on, the rules on commands and its effect are those of
-- its plan.
use Rattle.std.specs.Prelude.{ℕ, Bool, not, List, ◌++◌, codes, Option, ◌∷◌}
use Rattle.serde_json.specs.Data.{Data, object, member, no_members, string}
use Rattle.bank_policy.specs.declared.rows.Standing.{Standing}
use Rattle.bank_terms.specs.declared.rule.Rule.{Rule}
use Rattle.bank_terms.specs.declared.rule.Rule.TheVariants as rule
use Rattle.bank_books.specs.WorldLists.{WorldLists}
use Rattle.rule_tests.specs.Denial.{is_denial}
use Rattle.certify.specs.CommandRows.{command_rows}
use Rattle.certify.specs.Commands.{command_tests, command_effect}
use Rattle.certify.specs.declared.command_rows.CommandRows.{CommandRows}
use Rattle.policy_commands.specs.Command.{name_of}
use Rattle.policy_commands.specs.PolicyOp.{command_of}
use Rattle.policy_commands.specs.declared.command.Command.{Command}
use Rattle.policy_commands.specs.declared.policy_op.PolicyOp.{PolicyOp}
use Rattle.bank_meaning.specs.Meaning.{Meaning, json}
use Rattle.bank_meaning.specs.PolicyRules.{asker, is_identified}
use Rattle.bank_meaning.specs.Sessions.{standing_of_asker}
use Rattle.bank_meaning.specs.declared.who.Who.{Who}

-- The rules that a command is judged by, in their order, each with whether it denies: who asks is not known, as of an operation; or by what the command is judged
-- on.
abbrev pub asked_command_tests : Option Standing → CommandRows → Who → PolicyOp → List (Rule × Bool)
asked_command_tests row rows who command = (rule.Identity, not (is_identified row who.session)) ∷ command_tests rows (asker who) command

-- the command is done
unfoldable pub done_text : Command → List ℕ
done_text command = codes "{\"done\":\"" ++ name_of command ++ codes "\"}"

-- the JSON value of the reply
abbrev pub done_data : Command → Data
done_data command = object (member (codes "done") (string (name_of command)) no_members)

abbrev pub command_meaning : PolicyOp → Who → WorldLists → Meaning
command_meaning command who w = record {
  denies = λ r. is_denial r (asked_command_tests (standing_of_asker who w) (command_rows w.policy (asker who) command) who command);
  effect = command_effect w (asker who) command;
  reply = json (done_text (command_of command));
}

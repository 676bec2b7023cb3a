use Rattle.std.proofs.Common.{option_and_then, sym, ap, ◌∙◌}
use Rattle.std.proofs.lemmas.Result.{IfOk-weaker}
use Rattle.bodies.proofs.Values.{value_of-read, value_of-refused}
use Rattle.bodies.specs.Command.{policy_op_of}
use Rattle.bodies.proofs.Texts.{some_bytes, IfErr-from_fact}
use Rattle.bodies.proofs.commands.read.read_command.Goals as goal

pub returns-in-Ok-clause-exact : goal.returns-in-Ok-clause-exact
returns-in-Ok-clause-exact c =
    IfOk-weaker c.policy_op_stated.result _ _
    (λ stated value. value ∙ sym (ap (option_and_then (policy_op_of c.args.command)) (value_of-read c.args.body.now _ c.in-Ok.ensures.ok)))
    c.policy_op_stated.ensures.value

pub returns-in-Ok-clause-memory : goal.returns-in-Ok-clause-memory
returns-in-Ok-clause-memory c = IfErr-from_fact c.policy_op_stated.result _ (some_bytes c.args.body.now _ (c.in-Ok.ensures.ok).1)

pub returns-in-Err-clause-exact : goal.returns-in-Err-clause-exact
returns-in-Err-clause-exact c =
    IfOk-weaker c.stated_at.result _ _
    (λ stated refused. refused.1 ∙ sym (ap (option_and_then (policy_op_of c.args.command)) (value_of-refused c.args.body.now (c.in-Err.ensures.err refused.0))))
    c.stated_at.ensures.none

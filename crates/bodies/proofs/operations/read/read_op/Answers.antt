use Rattle.std.proofs.Common.{option_and_then, sym, ap, ◌∙◌}
use Rattle.std.proofs.lemmas.Result.{IfOk-weaker}
use Rattle.bodies.specs.Operation.{op_of}
use Rattle.bodies.proofs.Values.{value_of-read, value_of-refused}
use Rattle.bodies.proofs.operations.read.read_op.Goals as goal

pub returns-in-Ok-clause-exact : goal.returns-in-Ok-clause-exact
returns-in-Ok-clause-exact c =
    c.op_stated.ensures.value
    ∙ sym (ap (option_and_then (op_of c.args.procedure)) (value_of-read c.args.body.now _ c.in-Ok.ensures.ok))

pub returns-in-Err-clause-exact : goal.returns-in-Err-clause-exact
returns-in-Err-clause-exact c =
    IfOk-weaker c.stated_at.result _ _
    (λ stated refused. refused.1 ∙ sym (ap (option_and_then (op_of c.args.procedure)) (value_of-refused c.args.body.now (c.in-Err.ensures.err refused.0))))
    c.stated_at.ensures.none

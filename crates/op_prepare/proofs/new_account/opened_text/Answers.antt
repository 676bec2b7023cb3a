-- The text of the value is the reply.
use Rattle.std.proofs.Common.{ap, ◌∙◌}
use Rattle.std.proofs.lemmas.Result.{IfOk-weaker}
use Rattle.serde_json.specs.Written.{compact_text}
use Rattle.op_prepare.proofs.NewAccountText.{opened_text_is}
use Rattle.op_prepare.proofs.new_account.opened_text.Goals as goal

pub returns : goal.returns
returns c = IfOk-weaker c.compact.result _ _ (λ t h. h ∙ ap compact_text c.in_ok-value.ensures ∙ opened_text_is c.args.form.now) c.compact.ensures

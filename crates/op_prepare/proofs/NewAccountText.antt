-- The reply to a new account is the compact text of its JSON value.
use Rattle.std.proofs.Common.{◌≡◌, append_assoc}
use Rattle.serde_json.specs.Written.{compact_text}
use Rattle.serde_json.proofs.OnLiterals.{serde_json_on_literals}
use Rattle.counter_ops.specs.declared.new_account.NewAccount.{NewAccount}
use Rattle.bank_meaning.specs.NewAccount.{opened_data, opened_text}

pub opened_text_is : (form : NewAccount) → compact_text (opened_data form) ≡ opened_text form
unfolding serde_json_on_literals opened_text
opened_text_is form = simp append_assoc

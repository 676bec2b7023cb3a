-- The reply to a command is the compact text of its JSON value.
use Rattle.std.proofs.Common.{◌≡◌, refl}
use Rattle.serde_json.specs.Written.{compact_text}
use Rattle.serde_json.proofs.OnLiterals.{serde_json_on_literals}
use Rattle.policy_commands.specs.declared.command.Command.{Command}
use Rattle.policy_commands.specs.declared.command.Command.TheVariants.{DefineSet, Certify, Withdraw, Grant, Revoke, Appoint, Dismiss, Enrol, Suspend, Restore}
use Rattle.bank_meaning.specs.Commands.{done_data, done_text}

pub done_text_is : (c : Command) → compact_text (done_data c) ≡ done_text c
unfolding serde_json_on_literals done_text
done_text_is DefineSet = refl
done_text_is Certify = refl
done_text_is Withdraw = refl
done_text_is Grant = refl
done_text_is Revoke = refl
done_text_is Appoint = refl
done_text_is Dismiss = refl
done_text_is Enrol = refl
done_text_is Suspend = refl
done_text_is Restore = refl

use Rattle.bank_meaning.proofs.CommandsDenied as proven
use Rattle.bank_meaning.proofs.laws.commands_deny_no_more.Goals as goal

pub returns : goal.returns
returns c = proven.commands_deny_no_more

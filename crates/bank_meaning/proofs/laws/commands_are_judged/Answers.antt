use Rattle.bank_meaning.proofs.CommandsJudged.{commands_are_judged}
use Rattle.bank_meaning.proofs.laws.commands_are_judged.Goals as goal

pub returns : goal.returns
returns c = commands_are_judged

use Rattle.bank_meaning.proofs.Retries.{retries_act_once}
use Rattle.bank_meaning.proofs.laws.retries_act_once.Goals as goal

pub returns : goal.returns
returns c = retries_act_once

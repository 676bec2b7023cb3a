use Rattle.bank_meaning.proofs.ActsOnce.{each_acts_once}
use Rattle.bank_meaning.proofs.laws.once.Goals as goal

pub returns : goal.returns
returns c = each_acts_once

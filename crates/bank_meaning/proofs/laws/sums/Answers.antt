use Rattle.bank_meaning.proofs.RunSums.{sums_always_agree}
use Rattle.bank_meaning.proofs.laws.sums.Goals as goal

pub returns : goal.returns
returns c = sums_always_agree

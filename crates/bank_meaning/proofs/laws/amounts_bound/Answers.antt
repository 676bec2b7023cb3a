use Rattle.bank_meaning.proofs.AmountBounds.{amounts_bound}
use Rattle.bank_meaning.proofs.laws.amounts_bound.Goals as goal

pub returns : goal.returns
returns c = amounts_bound

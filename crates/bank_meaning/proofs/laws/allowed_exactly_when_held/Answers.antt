use Rattle.bank_meaning.proofs.JudgedPolicy.{allowed_exactly_when_held}
use Rattle.bank_meaning.proofs.laws.allowed_exactly_when_held.Goals as goal

pub returns : goal.returns
returns c = allowed_exactly_when_held

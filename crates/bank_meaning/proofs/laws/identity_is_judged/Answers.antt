use Rattle.bank_meaning.proofs.JudgedPolicy.{identity_is_judged}
use Rattle.bank_meaning.proofs.laws.identity_is_judged.Goals as goal

pub returns : goal.returns
returns c = identity_is_judged

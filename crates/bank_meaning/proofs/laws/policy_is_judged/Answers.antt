use Rattle.bank_meaning.proofs.JudgedPolicy.{policy_is_judged}
use Rattle.bank_meaning.proofs.laws.policy_is_judged.Goals as goal

pub returns : goal.returns
returns c = policy_is_judged

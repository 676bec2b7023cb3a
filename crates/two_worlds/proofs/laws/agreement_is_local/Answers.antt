use Rattle.two_worlds.proofs.Local.{agreement_is_local}
use Rattle.two_worlds.proofs.laws.agreement_is_local.Goals as goal

pub returns : goal.returns
returns c = agreement_is_local

use Rattle.two_worlds.proofs.Local.{denied_is_outside}
use Rattle.two_worlds.proofs.laws.denied_is_outside.Goals as goal

pub returns : goal.returns
returns c = denied_is_outside

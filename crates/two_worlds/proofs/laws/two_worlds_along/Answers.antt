use Rattle.two_worlds.proofs.Along as proven
use Rattle.two_worlds.proofs.laws.two_worlds_along.Goals as goal

pub returns : goal.returns
returns c = proven.two_worlds_along

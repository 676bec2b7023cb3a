use Rattle.world_reads.proofs.Firsts.{first_shown}
use Rattle.world_reads.proofs.laws.first_shown_is_next.Goals as goal

pub returns : goal.returns
returns c = first_shown

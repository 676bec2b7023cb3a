use Rattle.world_reads.proofs.Firsts.{first_line}
use Rattle.world_reads.proofs.laws.first_line_is_next.Goals as goal

pub returns : goal.returns
returns c = first_line

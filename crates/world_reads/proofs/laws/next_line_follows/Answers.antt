use Rattle.world_reads.proofs.Listed.{next_line_follows}
use Rattle.world_reads.proofs.laws.next_line_follows.Goals as goal

pub returns : goal.returns
returns c = next_line_follows

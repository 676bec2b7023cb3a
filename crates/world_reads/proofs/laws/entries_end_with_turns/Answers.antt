use Rattle.world_reads.proofs.Turns.{end_with_turns}
use Rattle.world_reads.proofs.laws.entries_end_with_turns.Goals as goal

pub returns : goal.returns
returns c = end_with_turns

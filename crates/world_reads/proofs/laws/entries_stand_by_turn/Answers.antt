use Rattle.world_reads.proofs.Turns.{stand_by_turn}
use Rattle.world_reads.proofs.laws.entries_stand_by_turn.Goals as goal

pub returns : goal.returns
returns c = stand_by_turn

use Rattle.world_reads.proofs.GoesOn.{shown_goes_on}
use Rattle.world_reads.proofs.laws.shown_goes_on.Goals as goal

pub returns : goal.returns
returns c = shown_goes_on

-- What search finds for itself, asked for here so that a mutant is refused soon.
use Rattle.std.proofs.Common.{rules}
use Rattle.world_reads.proofs.policy_row.PolicyRow.key.Goals as goal

pub returns-in-Member : goal.returns-in-Member
returns-in-Member c = search rules

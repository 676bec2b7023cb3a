use Rattle.store_cached.proofs.Standing.{reads_beside}
use Rattle.store_cached.proofs.policy_reads.CachedPolicyReads.sets.Goals as goal

pub returns : goal.returns
returns g c = reads_beside _ _ _ _ _ c.sets.ensures

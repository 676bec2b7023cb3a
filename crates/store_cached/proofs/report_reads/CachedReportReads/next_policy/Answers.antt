use Rattle.store_cached.proofs.Standing.{reads_beside}
use Rattle.store_cached.proofs.report_reads.CachedReportReads.next_policy.Goals as goal

pub returns : goal.returns
returns g c = reads_beside _ _ _ _ _ c.next_policy.ensures

use Rattle.store_cached.proofs.Standing.{reads_beside}
use Rattle.store_cached.proofs.book_reads.CachedBookReads.teller.Goals as goal

pub returns : goal.returns
returns g c = reads_beside _ _ _ _ _ c.teller.ensures

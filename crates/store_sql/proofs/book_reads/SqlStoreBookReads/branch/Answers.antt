use Rattle.store_sql.proofs.KnownLemmas.{reads_with}
use Rattle.store_sql.proofs.book_reads.SqlStoreBookReads.branch.Goals as goal

pub returns : goal.returns
returns g c = rw (c.keep_branch.ensures.conn, c.keep_branch.ensures.state, c.keep_branch.ensures.counted, c.keep_branch.ensures.failed)
    (reads_with _ _ _ _ _ _ _ c.in_ok-row.ensures (λ honest w stated known. c.keep_branch.ensures.known w stated known))

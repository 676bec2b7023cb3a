use Rattle.store_sql.proofs.KnownLemmas.{reads_with}
use Rattle.store_sql.proofs.book_reads.SqlStoreBookReads.teller.Goals as goal

pub returns : goal.returns
returns g c = rw (c.keep_teller.ensures.conn, c.keep_teller.ensures.state, c.keep_teller.ensures.counted, c.keep_teller.ensures.failed)
    (reads_with _ _ _ _ _ _ _ c.in_ok-row.ensures (λ honest w stated known. c.keep_teller.ensures.known w stated known))

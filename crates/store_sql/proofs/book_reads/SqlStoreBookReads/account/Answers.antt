use Rattle.store_sql.proofs.KnownLemmas.{reads_with}
use Rattle.store_sql.proofs.book_reads.SqlStoreBookReads.account.Goals as goal

pub returns : goal.returns
returns g c = rw (c.keep_account.ensures.conn, c.keep_account.ensures.state, c.keep_account.ensures.counted, c.keep_account.ensures.failed)
    (reads_with _ _ _ _ _ _ _ c.in_ok-row.ensures (λ honest w stated known. c.keep_account.ensures.known w stated known))

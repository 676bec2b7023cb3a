use Rattle.book_kept.specs.Records.{kept_teller}
use Rattle.store_sql.proofs.BookLemmas.{made_more}
use Rattle.store_sql.proofs.book_questions.records_of.Goals as goal

pub loop-teller-preserved : goal.loop-teller-preserved
loop-teller-preserved c there are held =
    made_more kept_teller c.args.kept.now there c.loop-teller.list.items _ c.loop-teller.teller-index c.teller-item.result c.to_record.result
    c.loop-teller-test.true c.teller-item.is (λ t within is. c.to_record.ensures t is (held t within)) are (c.loop-teller.invariant there are held) c.in_ok-push.ensures.items
